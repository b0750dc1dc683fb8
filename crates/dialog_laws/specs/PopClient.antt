-- The whole dialog with a POP3 client, and what is asked in it.
use Rattle.std.specs.Prelude.{ℕ, List, [], ◌∷◌, ◌++◌, Option, IfSome, Result}
use Rattle.std.specs.List.{AllByRecursion}
use Rattle.undo_base.specs.declared.keys.User.{User}
use Rattle.undo_base.specs.Name.{IsName}
use Rattle.seal_log.specs.declared.fault.ReadFault.{ReadFault}
use Rattle.smtp_lines.specs.declared.line.SmtpLine.{SmtpLine}
use Rattle.verb_core.specs.declared.ask.SubmitFault.{SubmitFault}
use Rattle.verb_core.specs.declared.conf.House.{House}
use Rattle.verb_core.specs.declared.item.Item.{Item}
use Rattle.verb_core.specs.declared.mailbox.Body.{Body}
use Rattle.verb_core.specs.declared.mailbox.BoxId.{BoxId}
use Rattle.verb_core.specs.Store.{MailStore}
use Rattle.pop_session.specs.declared.dialog.Awaits.{Awaits}
use Rattle.pop_session.specs.declared.dialog.Awaits.TheVariants.{Nothing, Text as AwaitsText, Outcome as AwaitsOutcome}
use Rattle.pop_session.specs.declared.dialog.Dialog.{Dialog}
use Rattle.pop_session.specs.declared.dialog.Pending.{Pending}
use Rattle.pop_session.specs.declared.dialog.Pending.TheVariants as on
use Rattle.pop_session.specs.declared.dialog.Stage.{Stage}
use Rattle.pop_session.specs.declared.dialog.Stage.TheVariants.{Authorization, Transaction}
use Rattle.pop_session.specs.declared.maildrop.Message.{Message}
use Rattle.pop_session.specs.declared.out.PopOut.{PopOut}
use Rattle.pop_session.specs.declared.out.PopOut.TheVariants.{Say, Read, Submit, Bye}
use Rattle.pop_session.specs.Dialog.{Took, heard, settle, turn, user_of}
use Rattle.verb_bytes.specs.Limits.{IsKey, IsUser}
use Rattle.dialog_laws.specs.ImapClient.{AskedBy}
use Rattle.dialog_laws.specs.Ranges.{AreAllKeys, IsRecordable, IsStored}

-- ---- what is known of a dialog

-- the messages of a maildrop have keys in their ranges
abbrev pub AreKeyed : List Message → Type 0
AreKeyed messages = AllByRecursion (λ (m : Message). IsKey m.key) messages

-- who is logged in is one of 200 users, whose maildrop is of keys
abbrev pub IsStaged : Stage → Type 0
IsStaged (Authorization name) = Unit {0}
IsStaged (Transaction u drop) = IsUser u × AreKeyed drop.messages

-- who logs in is one of 200 users, whose maildrop is of keys; what is to be removed is of keys, and of a mailbox that has a name
abbrev pub IsPending : Pending → Type 0
IsPending (on.Enter u drop) = IsUser u × AreKeyed drop.messages
IsPending (on.Tell answer) = Unit {0}
IsPending (on.Mark mailbox keys) = IsName mailbox × AreAllKeys keys
IsPending on.Remove = Unit {0}

abbrev pub IsAwaited : Awaits → Type 0
IsAwaited Nothing = Unit {0}
IsAwaited (AwaitsText wanted) = IsKey wanted.key
IsAwaited (AwaitsOutcome pending) = IsPending pending

-- a dialog of one of 200 users, and of keys
pub record IsFetching (d : Dialog) : Type 0 where
  pub stage : IsStaged d.stage
  pub awaits : IsAwaited d.awaits

-- what is asked, if something is, can be recorded, and one of 200 users asks it
abbrev pub AsksRecordable : Option User → PopOut → Type 0
AsksRecordable user (Submit ask) = IfSome user IsUser × IsRecordable ask
AsksRecordable user (Say text) = Unit {0}
AsksRecordable user (Read body) = Unit {0}
AsksRecordable user (Bye text) = Unit {0}

-- ---- a whole dialog

-- What a dialog takes: a line over a store with its stamps, with the lengths of its texts and the users of other sessions. Or the text that was
-- needed, or why it can't be had. Or what became of what was asked.
pub data Taken : Type 0 where
  Line : MailStore → List (BoxId × ℕ) → (Body → Option ℕ) → List User → SmtpLine → Taken
  Text : Result (List ℕ) ReadFault → Taken
  Outcome : Result Item SubmitFault → Taken

-- its store is in the ranges of records
abbrev pub IsPlain : Taken → Type 0
IsPlain (Line s stamps sizes in_use line) = IsStored s
IsPlain (Text text) = Unit {0}
IsPlain (Outcome outcome) = Unit {0}

abbrev pub turn_of : House → Dialog → Taken → Took
turn_of house d (Line s stamps sizes in_use line) = turn house s stamps sizes in_use d line
turn_of house d (Text text) = heard d text
turn_of house d (Outcome outcome) = settle d outcome

abbrev pub asked_by : Option User → PopOut → List AskedBy
asked_by user (Submit ask) = record { user = user; ask = ask } ∷ []
asked_by user (Say text) = []
asked_by user (Read body) = []
asked_by user (Bye text) = []

-- all that a dialog asks from here on, in order
abbrev pub asked_in : House → Dialog → List Taken → List AskedBy
asked_in house d [] = []
asked_in house d (taken ∷ more) = asked_by (user_of (turn_of house d taken).dialog) (turn_of house d taken).out ++ asked_in house (turn_of house d taken).dialog more
