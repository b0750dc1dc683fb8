-- A dialog within the limits holds no more of a text than the largest has.
use Rattle.std.proofs.Common.{ℕ, ◌≤◌, List, length, arith}
use Rattle.std.specs.Prelude.{Option, None, Some, IfSome}
use Rattle.smtp_session.specs.declared.dialog.Dialog.{Dialog}
use Rattle.smtp_session.specs.declared.dialog.Transaction.{Transaction}
use Rattle.smtp_session.specs.declared.dialog.Transaction.TheVariants.{Idle, Begun, Writing, Due}
use Rattle.smtp_session.specs.Limits.{IsSmall, IsWithin, held_of, octets_of, text_octets}

text_small : (text : Option (List ℕ)) → IfSome text (λ t. length t ≤ 1048576) → text_octets text ≤ 1048576
text_small None small = omega arith
text_small (Some text) small = small

octets_small : (t : Transaction) → IsWithin t → octets_of t ≤ 1048576
octets_small Idle w = omega arith
octets_small (Begun path to) w = omega arith
octets_small (Writing path to text) w = text_small text w.1.1
octets_small (Due host) w = omega arith

pub held_small : (d : Dialog) → IsSmall d → held_of d ≤ 1048576
held_small d small = octets_small d.transaction small.transaction
