use Rattle.std.proofs.Common.{◌≡◌, ℕ, length, min, take}
use Rattle.std.specs.List.{sum_by}
use Rattle.verb_core.specs.declared.mailbox.BoxId.{BoxId}
use Rattle.verb_core.specs.Boxes.{mail_at}
use Rattle.mail_desk.proofs.counts.messages_in.Given as goal

abbrev pub invariant-loop-row : goal.invariant-loop-row
invariant-loop-row l = l.sum ≡ min (sum_by (λ (r : BoxId × ℕ). length (mail_at r.0 l.store.store.boxes)) (take l.row-index l.rows)) 18446744073709551615
