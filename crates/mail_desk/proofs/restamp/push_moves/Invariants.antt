use Rattle.std.proofs.Common.{◌≡◌, ◌++◌, map, take}
use Rattle.verb_core.specs.declared.mailbox.BoxId.{BoxId}
use Rattle.verb_core.specs.declared.mailbox.Mailbox.{Mailbox}
use Rattle.box_store.specs.Plans.{move_of}
use Rattle.mail_desk.specs.declared.restamp.StampChange.TheVariants.{Moved}
use Rattle.mail_desk.proofs.restamp.push_moves.Given as goal

abbrev pub invariant-loop-row : goal.invariant-loop-row
invariant-loop-row l = l.list.items ≡ l.initial.list.items ++ map (λ (r : BoxId × Mailbox). Moved (move_of l.source l.target r.0.name)) (take l.row-index l.rows)
