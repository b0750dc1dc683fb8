use Rattle.std.proofs.Common.{◌≡◌, ◌-◌, ◌++◌, map, take}
use Rattle.verb_core.specs.declared.mailbox.BoxId.{BoxId}
use Rattle.verb_core.specs.declared.mailbox.Mailbox.{Mailbox}
use Rattle.mail_desk.proofs.desk.push_first.Given as goal

abbrev pub invariant-loop-row : goal.invariant-loop-row
invariant-loop-row l = l.stamps ≡ l.initial.stamps ++ map (λ (r : BoxId × Mailbox). (r.0, l.first - 1)) (take l.row-index l.rows)
