use Rattle.stored_items.proofs.Unlooked.{does_unlooked, does_whole, heard_unlooked, unlooked}
use Rattle.stored_items.proofs.laws.texts_are_not_looked_at.Goals as goal

pub returns : goal.returns
returns c = record { sought = unlooked; does = does_unlooked; with_any = does_whole; heard = heard_unlooked }
