-- The dialog with an SMTP client (RFC 5321, 3.3 and 4.1.4), as a function of its state, the house, the configuration,
-- the moment and one line. It gives what is said, or asked of the store, and the state after it.
use Rattle.std.specs.Prelude.{ℕ, Bool, true, false, List, [], ◌∷◌, length, nat_le, codes, bytes_eq, unwrap_or, option_map, Option, None, Some, Result, Ok, Err, if◌then◌else◌}
use Rattle.std.specs.Str.{str_to_ascii_lowercase}
use Rattle.smtp_lines.specs.declared.line.SmtpLine.{SmtpLine}
use Rattle.smtp_lines.specs.declared.command.SmtpCommand.TheVariants.{Helo, Ehlo, Mail, Rcpt, Data, Rset, Noop, Vrfy, Quit}
use Rattle.smtp_lines.specs.Command.{Reading, command_of}
use Rattle.verb_core.specs.declared.ask.Ask.TheVariants.{Deliver}
use Rattle.verb_core.specs.declared.ask.Refused.{Refused}
use Rattle.verb_core.specs.declared.ask.Refused.TheVariants.{NoBox, Exists, HasInferiors, Fixed, NameShape, TryCreate, Gone, TooMany, TooLarge, BoxesFull, UidWide, Numbers, NoMemory}
use Rattle.verb_core.specs.declared.ask.SubmitFault.{SubmitFault}
use Rattle.verb_core.specs.declared.ask.SubmitFault.TheVariants.{Refused as IsRefused, Disk, Closed}
use Rattle.verb_core.specs.declared.conf.House.{House}
use Rattle.verb_core.specs.declared.conf.Conf.{Conf}
use Rattle.verb_core.specs.declared.item.Item.{Item}
use Rattle.smtp_session.specs.declared.answer.Answer.{Answer}
use Rattle.smtp_session.specs.declared.answer.Answer.TheVariants.{Host, Done, Begin, Stored, CannotVerify, Closing, BadSequence, TooManyRecipients, NoMailbox, TextTooLarge, DiskFault}
use Rattle.smtp_session.specs.declared.answer.SmtpOut.{SmtpOut}
use Rattle.smtp_session.specs.declared.answer.SmtpOut.TheVariants.{Nothing, Say, Mail as Asks, Bye}
use Rattle.smtp_session.specs.declared.dialog.Dialog.{Dialog}
use Rattle.smtp_session.specs.declared.dialog.Transaction.{Transaction}
use Rattle.smtp_session.specs.declared.dialog.Transaction.TheVariants.{Idle, Begun, Writing, Due}
use Rattle.smtp_session.specs.Answer.{answer_text, line_refused, delivery_refused}
use Rattle.smtp_session.specs.Body.{body_of}
use Rattle.smtp_session.specs.Recipients.{put_once, is_here}
use Rattle.smtp_session.specs.Text.{add_line}

-- what comes of a line, and the dialog after it
pub record DialogTurn : Type 0 where
  pub out : SmtpOut
  pub dialog : Dialog

abbrev pub turns : SmtpOut → Dialog → DialogTurn
turns out d = record { out = out; dialog = d }

abbrev pub with_transaction : Dialog → Transaction → Dialog
with_transaction d transaction = record { client = d.client; transaction = transaction }

-- an answer, and the dialog goes on
abbrev pub says : House → Answer → Dialog → DialogTurn
says house answer d = turns (Say (answer_text house.host answer)) d

-- the connection was made just now
abbrev pub opening : Dialog
opening = record { client = None; transaction = Idle }

-- HELO and EHLO clear the transaction (RFC 5321, 4.1.4)
abbrev pub greet : House → List ℕ → DialogTurn
greet house client = says house Host (record { client = Some client; transaction = Idle })

-- MAIL wants a greeting, and no transaction
abbrev pub begin : House → Option (List ℕ) → Transaction → List ℕ → DialogTurn
begin house (Some client) Idle path = says house Done (record { client = Some client; transaction = Begun path [] })
begin house client transaction path = says house BadSequence (record { client = client; transaction = transaction })

-- RCPT wants a transaction with fewer than 1,000 recipients, and a recipient who is here
abbrev pub receive : House → Dialog → Transaction → List ℕ → Bool → DialogTurn
receive house d (Begun path to) local known =
    if nat_le 1000 (length to) then says house TooManyRecipients d
    else (if known then says house Done (with_transaction d (Begun path (put_once (str_to_ascii_lowercase local) to)))
    else says house NoMailbox d)
receive house d Idle local known = says house BadSequence d
receive house d (Writing path to text) local known = says house BadSequence d
receive house d (Due host) local known = says house BadSequence d

abbrev pub has_recipient : Transaction → Bool
has_recipient (Begun path []) = false
has_recipient (Begun path (r ∷ to)) = true
has_recipient Idle = false
has_recipient (Writing path to text) = false
has_recipient (Due host) = false

-- the transaction with a text, which is empty at first
abbrev pub with_text : Transaction → Transaction
with_text (Begun path to) = Writing path to (Some [])
with_text Idle = Idle
with_text (Writing path to text) = Writing path to text
with_text (Due host) = Due host

-- DATA wants a recipient
abbrev pub write : House → Dialog → DialogTurn
write house d =
    if has_recipient d.transaction then says house Begin (with_transaction d (with_text d.transaction)) else says house BadSequence d

-- a line outside a text
abbrev pub obey : House → Conf → Dialog → Reading → DialogTurn
obey house conf d (Ok (Helo client)) = greet house client
obey house conf d (Ok (Ehlo client)) = greet house client
obey house conf d (Ok (Mail path)) = begin house d.client d.transaction path
obey house conf d (Ok (Rcpt local domain)) = receive house d d.transaction local (is_here house conf local domain)
obey house conf d (Ok Data) = write house d
obey house conf d (Ok Rset) = says house Done (with_transaction d Idle)
obey house conf d (Ok (Noop rest)) = says house Done d
obey house conf d (Ok (Vrfy what)) = says house CannotVerify d
obey house conf d (Ok Quit) = turns (Bye (answer_text house.host Closing)) d
obey house conf d (Err refused) = says house (line_refused refused) d

-- the end of a text: delivery of its body is asked, and the outcome is due; or the text was too large
abbrev pub end_text : House → Dialog → List ℕ → List (List ℕ) → Option (List ℕ) → DialogTurn
end_text house d path to None = says house TextTooLarge (with_transaction d Idle)
end_text house d path to (Some body) = turns (Asks (Deliver path to body)) (with_transaction d (Due house.host))

-- a line of a text
abbrev pub take_text : House → ℕ → Dialog → List ℕ → List (List ℕ) → Option (List ℕ) → SmtpLine → DialogTurn
take_text house at d path to text line =
    if bytes_eq line.bytes (codes ".") then end_text house d path to (option_map (body_of house.host at (unwrap_or d.client []) path) text)
    else turns Nothing (with_transaction d (Writing path to (add_line text line)))

-- one line, by the state of the transaction
abbrev pub turn_in : House → Conf → ℕ → Dialog → Transaction → SmtpLine → DialogTurn
turn_in house conf at d (Writing path to text) line = take_text house at d path to text line
turn_in house conf at d Idle line = obey house conf d (command_of line)
turn_in house conf at d (Begun path to) line = obey house conf d (command_of line)
turn_in house conf at d (Due host) line = obey house conf d (command_of line)

-- one line
abbrev pub turn : House → Conf → ℕ → Dialog → SmtpLine → DialogTurn
turn house conf at d line = turn_in house conf at d d.transaction line

abbrev pub is_due_in : Transaction → Bool
is_due_in (Due host) = true
is_due_in Idle = false
is_due_in (Begun path to) = false
is_due_in (Writing path to text) = false

-- whether the outcome of what was asked is due
abbrev pub is_due : Dialog → Bool
is_due d = is_due_in d.transaction

abbrev pub is_writing_in : Transaction → Bool
is_writing_in (Writing path to text) = true
is_writing_in Idle = false
is_writing_in (Begun path to) = false
is_writing_in (Due host) = false

-- whether a text is being taken
abbrev pub is_writing : Dialog → Bool
is_writing d = is_writing_in d.transaction

-- why there is no item
abbrev pub fault_said : List ℕ → SubmitFault → SmtpOut
fault_said host (IsRefused why) = Say (answer_text host (delivery_refused why))
fault_said host Disk = Bye (answer_text host DiskFault)
fault_said host Closed = Bye (answer_text host DiskFault)

-- what is said of an outcome: the item's number, or why there is none
abbrev pub outcome_said : List ℕ → Result Item SubmitFault → SmtpOut
outcome_said host (Ok item) = Say (answer_text host (Stored item.number))
outcome_said host (Err fault) = fault_said host fault

-- the host's name, while an outcome is due
abbrev pub host_due : Transaction → List ℕ
host_due (Due host) = host
host_due Idle = []
host_due (Begun path to) = []
host_due (Writing path to text) = []

-- the outcome of what was asked: the transaction is over, whatever it is
abbrev pub settle : Dialog → Result Item SubmitFault → DialogTurn
settle d outcome = turns (outcome_said (host_due d.transaction) outcome) (with_transaction d Idle)

-- the refusals that a delivery can meet: a full mailbox, numbers that are used up, want of memory
abbrev pub is_refusal_of_delivery : Refused → Bool
is_refusal_of_delivery UidWide = true
is_refusal_of_delivery (Numbers next) = true
is_refusal_of_delivery NoMemory = true
is_refusal_of_delivery NoBox = false
is_refusal_of_delivery Exists = false
is_refusal_of_delivery HasInferiors = false
is_refusal_of_delivery Fixed = false
is_refusal_of_delivery NameShape = false
is_refusal_of_delivery TryCreate = false
is_refusal_of_delivery Gone = false
is_refusal_of_delivery (TooMany asked) = false
is_refusal_of_delivery (TooLarge asked) = false
is_refusal_of_delivery BoxesFull = false

abbrev pub is_fault_of_delivery : SubmitFault → Bool
is_fault_of_delivery (IsRefused why) = is_refusal_of_delivery why
is_fault_of_delivery Disk = true
is_fault_of_delivery Closed = true

-- an outcome that a delivery can have
abbrev pub is_outcome_of_delivery : Result Item SubmitFault → Bool
is_outcome_of_delivery (Ok item) = true
is_outcome_of_delivery (Err fault) = is_fault_of_delivery fault
