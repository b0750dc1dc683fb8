use Rattle.std.proofs.Common.{◌≡◌, ◌++◌, map, take}
use Rattle.verb_core.specs.declared.mailbox.BoxId.{BoxId}
use Rattle.verb_core.specs.declared.mailbox.Mailbox.{Mailbox}
use Rattle.box_store.specs.Plans.{move_of}
use Rattle.box_store.proofs.names.push_moves.Given as goal

abbrev pub invariant-loop-row : goal.invariant-loop-row
invariant-loop-row l = l.moves ≡ l.fn.moves ++ map (move_of l.source l.target) (map (λ (r : BoxId × Mailbox). r.0.name) (take l.row-index l.rows))
