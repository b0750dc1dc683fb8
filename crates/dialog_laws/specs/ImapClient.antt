-- The whole dialog with an IMAP client, and what is asked in it.
use Rattle.std.specs.Prelude.{ℕ, ◌≤◌, ◌+◌, Bool, List, [], ◌∷◌, ◌++◌, length, Option, IfSome, Result}
use Rattle.std.specs.List.{AllByRecursion}
use Rattle.undo_base.specs.declared.keys.User.{User}
use Rattle.undo_base.specs.declared.limits.TheConstants.{LAST_MOMENT}
use Rattle.undo_base.specs.Name.{IsName}
use Rattle.seal_log.specs.declared.fault.ReadFault.{ReadFault}
use Rattle.imap_stream.specs.declared.next.RawCommand.{RawCommand}
use Rattle.imap_stream.specs.Holding.{octets_in}
use Rattle.imap_lines.specs.declared.command.ImapWhat.{ImapWhat}
use Rattle.imap_lines.specs.declared.command.ImapWhat.TheVariants as what
use Rattle.imap_fetch.specs.declared.messages.Message.{Message}
use Rattle.imap_view.specs.declared.messages.Known.{Known}
use Rattle.verb_core.specs.declared.ask.Ask.{Ask}
use Rattle.verb_core.specs.declared.ask.SubmitFault.{SubmitFault}
use Rattle.verb_core.specs.declared.conf.House.{House}
use Rattle.verb_core.specs.declared.item.Item.{Item}
use Rattle.verb_core.specs.declared.mailbox.Body.{Body}
use Rattle.verb_core.specs.declared.mailbox.BoxId.{BoxId}
use Rattle.verb_core.specs.Store.{MailStore}
use Rattle.imap_session.specs.declared.dialog.Awaits.{Awaits}
use Rattle.imap_session.specs.declared.dialog.Awaits.TheVariants.{Nothing, Texts as AwaitsTexts, Outcome as AwaitsOutcome}
use Rattle.imap_session.specs.declared.dialog.Dialog.{Dialog}
use Rattle.imap_session.specs.declared.dialog.Pending.{Pending}
use Rattle.imap_session.specs.declared.dialog.Pending.TheVariants as on
use Rattle.imap_session.specs.declared.dialog.Selected.{Selected}
use Rattle.imap_session.specs.declared.dialog.Wanted.{Wanted}
use Rattle.imap_session.specs.declared.dialog.Wanted.TheVariants as wanted
use Rattle.imap_session.specs.declared.out.ImapOut.{ImapOut}
use Rattle.imap_session.specs.declared.out.ImapOut.TheVariants.{Say, Read, Submit, Bye}
use Rattle.imap_session.specs.Dialog.{Took, heard, hears, settle, took, without_memory}
use Rattle.verb_bytes.specs.Limits.{IsKey, IsUser}
use Rattle.dialog_laws.specs.Ranges.{AreAllKeys, IsRecordable, IsStored}

-- ---- one command

-- a command whose lines and literals have no more octets than four bytes count
abbrev pub IsShort : RawCommand → Type 0
IsShort raw = octets_in raw.lines + octets_in raw.literals ≤ 4294967295

-- the moment of an APPEND, and the pattern of a LIST or an LSUB behind its reference, are in their ranges
abbrev pub IsSpoken : ImapWhat → Type 0
IsSpoken (what.Append mailbox flags moment text) = IfSome moment (λ at. at ≤ LAST_MOMENT)
IsSpoken (what.List reference pattern) = length reference + length pattern ≤ 4294967295
IsSpoken (what.Lsub reference pattern) = length reference + length pattern ≤ 4294967295
IsSpoken _ = Unit {0}

-- ---- what is known of a dialog

-- the selected mailbox has a name, and its view is of keys
pub record IsViewed (selected : Selected) : Type 0 where
  pub mailbox : IsName selected.mailbox
  pub view : AllByRecursion (λ (known : Known). IsKey known.key) selected.view

-- what needs texts is of a mailbox that has a name, and of keys
abbrev pub IsWanted : Wanted → Type 0
IsWanted (wanted.Fetch f) = IsName f.mailbox × AreAllKeys f.keys
IsWanted (wanted.Search q) = IsName q.mailbox × AllByRecursion (λ (m : Message). IsKey m.entry.key) q.rows

-- a mailbox that is to be selected has a name
abbrev pub IsPending : Pending → Type 0
IsPending (on.Select mailbox writes) = IsName mailbox
IsPending _ = Unit {0}

abbrev pub IsAwaited : Awaits → Type 0
IsAwaited Nothing = Unit {0}
IsAwaited (AwaitsTexts tag w) = IsWanted w
IsAwaited (AwaitsOutcome tag pending) = IsPending pending

-- a dialog of one of 200 users, of a mailbox that has a name and of keys
pub record IsReading (d : Dialog) : Type 0 where
  pub user : IfSome d.user IsUser
  pub selected : IfSome d.selected IsViewed
  pub awaits : IsAwaited d.awaits

-- what is asked, if something is, can be recorded, and one of 200 users asks it
abbrev pub AsksRecordable : Option User → ImapOut → Type 0
AsksRecordable user (Submit ask) = IfSome user IsUser × IsRecordable ask
AsksRecordable user (Say text) = Unit {0}
AsksRecordable user (Read bodies) = Unit {0}
AsksRecordable user (Bye text) = Unit {0}

-- ---- a whole dialog

-- What a dialog takes: a command over a store, with the lengths of its texts and whether its names may have superiors; or a command for which no
-- memory was found. Or the texts that were needed, or why they can't be had; or what became of what was asked, with the store and the stamps after
-- it.
pub data Taken : Type 0 where
  Command : MailStore → (Body → Option ℕ) → Bool → RawCommand → Taken
  Unserved : ImapWhat → Taken
  Texts : Result (List (List ℕ)) ReadFault → Taken
  Outcome : MailStore → List (BoxId × ℕ) → Result Item SubmitFault → Taken

-- its store is in the ranges of records, and its command is short
abbrev pub IsPlain : Taken → Type 0
IsPlain (Command s sizes deep raw) = IsStored s × IsShort raw
IsPlain (Unserved asked) = Unit {0}
IsPlain (Texts texts) = Unit {0}
IsPlain (Outcome s stamps outcome) = IsStored s

abbrev pub turn_of : House → Dialog → Taken → Took
turn_of house d (Command s sizes deep raw) = hears house s sizes deep d raw
turn_of house d (Unserved asked) = took (Say []) (without_memory asked d)
turn_of house d (Texts texts) = heard d texts
turn_of house d (Outcome s stamps outcome) = settle s stamps d outcome

-- an ask, and who asks it
pub record AskedBy : Type 0 where
  pub user : Option User
  pub ask : Ask

abbrev pub asked_by : Option User → ImapOut → List AskedBy
asked_by user (Submit ask) = record { user = user; ask = ask } ∷ []
asked_by user (Say text) = []
asked_by user (Read bodies) = []
asked_by user (Bye text) = []

-- all that a dialog asks from here on, in order
abbrev pub asked_in : House → Dialog → List Taken → List AskedBy
asked_in house d [] = []
asked_in house d (taken ∷ more) = asked_by (turn_of house d taken).dialog.user (turn_of house d taken).out ++ asked_in house (turn_of house d taken).dialog more
