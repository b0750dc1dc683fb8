use Rattle.stored_items.proofs.Alike.{formed_stored, formed_whole}
use Rattle.stored_items.proofs.laws.stored_items_are_formed.Goals as goal

pub returns : goal.returns
returns c = record { kept = formed_stored; whole = formed_whole }
