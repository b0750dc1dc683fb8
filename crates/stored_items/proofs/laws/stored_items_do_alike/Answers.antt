use Rattle.stored_items.proofs.Alike.{does, does_as_heard, does_with_any, does_with_own, does_with_text, looks}
use Rattle.stored_items.proofs.laws.stored_items_do_alike.Goals as goal

pub returns : goal.returns
returns c = record { sought = looks; aimed = does; without = does_with_text; with_own = does_with_own; with_any = does_with_any; as_heard = does_as_heard }
