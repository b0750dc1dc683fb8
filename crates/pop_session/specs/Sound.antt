-- What holds of each dialog that is ever reached, and how much it keeps.
use Rattle.std.specs.Prelude.{◌≡◌, ℕ, ◌≤◌, Bool, true, false, length, is_some, IfSome}
use Rattle.pop_session.specs.declared.dialog.Awaits.{Awaits}
use Rattle.pop_session.specs.declared.dialog.Awaits.TheVariants.{Nothing, Text, Outcome}
use Rattle.pop_session.specs.declared.dialog.Dialog.{Dialog}
use Rattle.pop_session.specs.declared.dialog.Pending.{Pending}
use Rattle.pop_session.specs.declared.dialog.Pending.TheVariants as on
use Rattle.pop_session.specs.declared.dialog.Stage.{Stage}
use Rattle.pop_session.specs.declared.dialog.Stage.TheVariants.{Authorization, Transaction}
use Rattle.pop_session.specs.declared.maildrop.Maildrop.{Maildrop}
use Rattle.pop_session.specs.Dialog.{awaits_login, is_free, user_of}

-- a maildrop has at most 65,536 messages
abbrev pub IsSmallDrop : Maildrop → Type 0
IsSmallDrop drop = length drop.messages ≤ 65536

-- a name fits into a line
abbrev pub IsStage : Stage → Type 0
IsStage (Authorization name) = IfSome name (λ n. length n ≤ 1022)
IsStage (Transaction u drop) = IsSmallDrop drop

abbrev pub IsPending : Pending → Type 0
IsPending (on.Enter u drop) = IsSmallDrop drop
IsPending (on.Tell answer) = Unit {0}
IsPending (on.Mark mailbox keys) = length keys ≤ 65536
IsPending on.Remove = Unit {0}

abbrev pub IsAwaited : Awaits → Type 0
IsAwaited Nothing = Unit {0}
IsAwaited (Text wanted) = Unit {0}
IsAwaited (Outcome pending) = IsPending pending

-- nobody is logged in
abbrev pub is_before_login : Stage → Bool
is_before_login (Authorization name) = true
is_before_login (Transaction u drop) = false

-- what is kept is bounded; something is awaited for a user alone, and the outcome of a PASS where nobody is logged in
pub record IsSoundDialog (d : Dialog) : Type 0 where
  pub stage : IsStage d.stage
  pub awaits : IsAwaited d.awaits
  pub user : is_free d ≡ false → is_some (user_of d) ≡ true
  pub login : awaits_login d.awaits ≡ true → is_before_login d.stage ≡ true

abbrev pub octets_pending : Pending → ℕ
octets_pending (on.Enter u drop) = 0
octets_pending (on.Tell answer) = length answer
octets_pending (on.Mark mailbox keys) = 0
octets_pending on.Remove = 0

abbrev pub held_in : Awaits → ℕ
held_in Nothing = 0
held_in (Text wanted) = 0
held_in (Outcome pending) = octets_pending pending

-- how many octets are held of an answer with a message's text
abbrev pub held_of : Dialog → ℕ
held_of d = held_in d.awaits

-- how many messages are known of the maildrop
abbrev pub messages_in : Stage → ℕ
messages_in (Authorization name) = 0
messages_in (Transaction u drop) = length drop.messages

abbrev pub messages_of : Dialog → ℕ
messages_of d = messages_in d.stage
