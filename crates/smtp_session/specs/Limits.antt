-- How large the parts of a dialog and of its asks are.
use Rattle.std.specs.Prelude.{ℕ, ◌+◌, ◌≤◌, List, length, sum_by, IfSome, Option, None, Some}
use Rattle.smtp_session.specs.declared.answer.SmtpOut.{SmtpOut}
use Rattle.smtp_session.specs.declared.answer.SmtpOut.TheVariants.{Nothing, Say, Mail as Asks, Bye}
use Rattle.smtp_session.specs.declared.dialog.Dialog.{Dialog}
use Rattle.smtp_session.specs.declared.dialog.Transaction.{Transaction}
use Rattle.smtp_session.specs.declared.dialog.Transaction.TheVariants.{Idle, Begun, Writing, Due}
use Rattle.verb_core.specs.declared.ask.Ask.{Ask}
use Rattle.verb_core.specs.declared.ask.Ask.TheVariants.{Deliver}

-- a reverse path of at most 254 bytes (RFC 5321, 4.5.3.1.3), and at most 1,000 recipients (RFC 5321, 4.5.3.1.8)
pub record IsEnvelope (path : List ℕ) (to : List (List ℕ)) : Type 0 where
  pub short : length path ≤ 254
  pub few : length to ≤ 1000

-- a delivery of such an envelope to somebody, with a body of at most 1,052,672 octets
pub record IsDelivery (path : List ℕ) (to : List (List ℕ)) (body : List ℕ) : Type 0 where
  pub envelope : IsEnvelope path to
  pub some : 1 ≤ length to
  pub small : length body ≤ 1052672

-- what is asked is such a delivery
abbrev pub IsAskOfDelivery : Ask → Type 0
IsAskOfDelivery (Deliver path to body) = IsDelivery path to body
IsAskOfDelivery _ = ⊥

abbrev pub AsksWithin : SmtpOut → Type 0
AsksWithin (Asks ask) = IsAskOfDelivery ask
AsksWithin Nothing = Unit {0}
AsksWithin (Say text) = Unit {0}
AsksWithin (Bye text) = Unit {0}

-- the parts of a transaction are within the limits
abbrev pub IsWithin : Transaction → Type 0
IsWithin Idle = Unit {0}
IsWithin (Begun path to) = IsEnvelope path to
IsWithin (Writing path to text) = IsEnvelope path to × ((1 ≤ length to) × IfSome text (λ t. length t ≤ 1048576))
IsWithin (Due host) = Unit {0}

-- a dialog within the limits
pub record IsSmall (d : Dialog) : Type 0 where
  pub client : IfSome d.client (λ client. length client ≤ 200)
  pub transaction : IsWithin d.transaction

-- how many octets a text has, of which there is none where it was too large
abbrev pub text_octets : Option (List ℕ) → ℕ
text_octets None = 0
text_octets (Some text) = length text

-- how many octets of a text a transaction holds
abbrev pub octets_of : Transaction → ℕ
octets_of Idle = 0
octets_of (Begun path to) = 0
octets_of (Writing path to text) = text_octets text
octets_of (Due host) = 0

-- how many octets of a text a dialog holds
abbrev pub held_of : Dialog → ℕ
held_of d = octets_of d.transaction

-- how many octets names have
abbrev pub octets_in : List (List ℕ) → ℕ
octets_in names = sum_by (λ name. length name) names

-- how many octets a transaction keeps: the reverse path, the recipients' names and the text; or the host's name
abbrev pub parts_in : Transaction → ℕ
parts_in Idle = 0
parts_in (Begun path to) = length path + octets_in to
parts_in (Writing path to text) = length path + octets_in to + text_octets text
parts_in (Due host) = length host

-- how many octets a dialog keeps: of its client's greeting, and of its transaction
abbrev pub kept_of : Dialog → ℕ
kept_of d = text_octets d.client + parts_in d.transaction

-- another dialog with the fields of this one: all that a dialog has
abbrev pub same_fields : Dialog → Dialog → Dialog
same_fields d other = record other { client = d.client; transaction = d.transaction }
