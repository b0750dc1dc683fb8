-- The dialog with a client (RFC 1939, 3 to 7), as a function of its state, the house, the store, the lengths of texts and one line. It
-- gives what is said, read or asked of the store, and the state after it.
use Rattle.std.specs.Prelude.{◌≡◌, ℕ, Bool, true, false, ◌&&◌, List, [], ◌∷◌, bytes_eq, is_some, length, nat_lt, option_map, position, unwrap_or, Option, None, Some, Result, Ok, Err, if◌then◌else◌}
use Rattle.std.specs.List.{list_all, list_any}
use Rattle.std.specs.Str.{str_eq_ignore_ascii_case}
use Rattle.undo_base.specs.declared.asks.How.TheVariants.{Add}
use Rattle.undo_base.specs.declared.keys.Flags.{Flags}
use Rattle.undo_base.specs.declared.keys.Key.{Key}
use Rattle.undo_base.specs.declared.keys.User.{User}
use Rattle.seal_log.specs.declared.fault.ReadFault.{ReadFault}
use Rattle.smtp_lines.specs.declared.line.SmtpLine.{SmtpLine}
use Rattle.verb_core.specs.declared.ask.Ask.{Ask}
use Rattle.verb_core.specs.declared.ask.Ask.TheVariants.{Expunge, Fetch, Store}
use Rattle.verb_core.specs.declared.ask.SubmitFault.{SubmitFault}
use Rattle.verb_core.specs.declared.ask.SubmitFault.TheVariants.{Refused as WasRefused, Disk, Closed}
use Rattle.verb_core.specs.declared.conf.Account.{Account}
use Rattle.verb_core.specs.declared.conf.House.{House}
use Rattle.verb_core.specs.declared.item.Item.{Item}
use Rattle.verb_core.specs.declared.mailbox.Body.{Body}
use Rattle.verb_core.specs.declared.mailbox.BoxId.{BoxId}
use Rattle.verb_core.specs.declared.mailbox.Entry.{Entry}
use Rattle.verb_core.specs.declared.mailbox.Mailbox.{Mailbox}
use Rattle.verb_core.specs.Boxes.{same_user}
use Rattle.verb_core.specs.Live.{is_users, mail_of}
use Rattle.verb_core.specs.Mailboxes.{entry_of, no_flags}
use Rattle.verb_core.specs.Names.{inbox}
use Rattle.verb_core.specs.Store.{MailStore, is_known}
use Rattle.pop_session.specs.declared.answer.Answer.{Answer}
use Rattle.pop_session.specs.declared.answer.Answer.TheVariants.{Done, Marked, Closing, Messages, Total, WrongState, NoSuchMessage, LoginFailed, InUse, MessageGone, TooMany, DiskFault}
use Rattle.pop_session.specs.declared.command.Command.{Command}
use Rattle.pop_session.specs.declared.command.Command.TheVariants as command
use Rattle.pop_session.specs.declared.dialog.Awaits.{Awaits}
use Rattle.pop_session.specs.declared.dialog.Awaits.TheVariants.{Nothing, Text, Outcome}
use Rattle.pop_session.specs.declared.dialog.Dialog.{Dialog}
use Rattle.pop_session.specs.declared.dialog.Pending.{Pending}
use Rattle.pop_session.specs.declared.dialog.Pending.TheVariants as on
use Rattle.pop_session.specs.declared.dialog.Stage.{Stage}
use Rattle.pop_session.specs.declared.dialog.Stage.TheVariants.{Authorization, Transaction}
use Rattle.pop_session.specs.declared.dialog.Wanted.{Wanted}
use Rattle.pop_session.specs.declared.maildrop.Detail.{Detail}
use Rattle.pop_session.specs.declared.maildrop.Detail.TheVariants.{Octets, UniqueId}
use Rattle.pop_session.specs.declared.maildrop.Maildrop.{Maildrop}
use Rattle.pop_session.specs.declared.maildrop.Message.{Message}
use Rattle.pop_session.specs.declared.out.PopOut.{PopOut}
use Rattle.pop_session.specs.declared.out.PopOut.TheVariants.{Say, Read, Submit, Bye}
use Rattle.pop_session.specs.Answer.{answer_text, ask_refused, line_refused, read_refused}
use Rattle.pop_session.specs.Command.{Reading, argument_of, command_of}
use Rattle.pop_session.specs.Maildrop.{count, detail_answer, keys_of, listing, maildrop_of, marked_keys, message_at, octets, with_mark, without_marks}
use Rattle.pop_session.specs.Sending.{retrieved}

-- what comes of a line, and the dialog after it
pub record Took : Type 0 where
  pub out : PopOut
  pub dialog : Dialog

abbrev pub took : PopOut → Dialog → Took
took out d = record { out = out; dialog = d }

-- the connection was made just now: AUTHORIZATION, and no name was given (RFC 1939, 4)
abbrev pub opening : Dialog
opening = record { stage = Authorization None; awaits = Nothing }

-- nothing is awaited any more
abbrev pub at_rest : Dialog → Dialog
at_rest d = record d { awaits = Nothing }

-- AUTHORIZATION, and a USER is needed again
abbrev pub nameless : Dialog → Dialog
nameless d = record d { stage = Authorization None }

abbrev pub says : Answer → Dialog → Took
says answer d = took (Say (answer_text answer)) d

-- the last answer: the connection is closed, and nothing of the dialog stays
abbrev pub ends : Answer → Took
ends answer = took (Bye (answer_text answer)) opening

abbrev pub awaiting : Pending → Dialog → Dialog
awaiting pending d = record d { awaits = Outcome pending }

-- the store is asked, and the outcome is awaited
abbrev pub asks : Ask → Pending → Dialog → Took
asks asked pending d = took (Submit asked) (awaiting pending d)

-- ---- AUTHORIZATION (RFC 1939, 4, and 7: USER and PASS)

abbrev pub give_name : Stage → List ℕ → Dialog → Took
give_name (Authorization old) name d = says Done (record d { stage = Authorization (Some name) })
give_name (Transaction u drop) name d = says WrongState d

-- the account has this name, in any case, and this password
abbrev pub is_account : List ℕ → List ℕ → Account → Bool
is_account name password a = str_eq_ignore_ascii_case a.name name && bytes_eq a.password password

-- the number of the user with this name and password
abbrev pub account_of : House → List ℕ → List ℕ → Option ℕ
account_of house name password = position (is_account name password) house.accounts

-- a FETCH of messages, which shows their texts, and sets no `\Seen`
abbrev pub fetch_of : List Key → Bool → Ask
fetch_of keys strict = Fetch inbox keys false true strict 0

-- the maildrop is entered where the store has recorded that its messages were shown; of more than 65,536 the store would refuse it (TooMany)
abbrev pub enter : User → Maildrop → Dialog → Took
enter u drop d =
    if nat_lt 65536 (length drop.messages) then says TooMany (nameless d)
    else asks (fetch_of (keys_of drop.messages) false) (on.Enter u drop) d

-- nobody enters a maildrop in which a session of that user is (RFC 1939, 4: exclusive access)
abbrev pub log_in : MailStore → List (BoxId × ℕ) → (Body → Option ℕ) → List User → Option ℕ → Dialog → Took
log_in s stamps sizes in_use None d = says LoginFailed (nameless d)
log_in s stamps sizes in_use (Some number) d =
    let u : User = record { 0 = number } in
    if list_any (same_user u) in_use then says InUse (nameless d) else enter u (maildrop_of s stamps sizes u) d

-- the name that USER gave
abbrev pub given_name : Stage → Option (List ℕ)
given_name (Authorization name) = name
given_name (Transaction u drop) = None

abbrev pub give_password : House → MailStore → List (BoxId × ℕ) → (Body → Option ℕ) → List User → Option (List ℕ) → List ℕ → Dialog → Took
give_password house s stamps sizes in_use None password d = says WrongState d
give_password house s stamps sizes in_use (Some name) password d = log_in s stamps sizes in_use (account_of house name password) d

-- ---- TRANSACTION (RFC 1939, 5 and 7)

-- of a user who is logged in
abbrev pub inside : (User → Maildrop → Took) → Stage → Dialog → Took
inside act (Authorization name) d = says WrongState d
inside act (Transaction u drop) d = act u drop

-- of a message that is there and is not marked
abbrev pub on_message : (Message → Took) → Option Message → Dialog → Took
on_message act None d = says NoSuchMessage d
on_message act (Some m) d = act m

abbrev pub with_messages : User → Maildrop → List Message → Dialog → Dialog
with_messages u drop messages d = record d { stage = Transaction u (record drop { messages = messages }) }

abbrev pub stat : Stage → Dialog → Took
stat stage d = inside (λ u drop. says (Total (count drop.messages) (octets drop.messages)) d) stage d

-- LIST and UIDL of one message, or of all that are not marked
abbrev pub tell : Detail → Option ℕ → Maildrop → Dialog → Took
tell detail None drop d = took (Say (listing detail drop)) d
tell detail (Some number) drop d = on_message (λ m. says (detail_answer detail drop.stamp number m) d) (message_at drop.messages number) d

abbrev pub list : Detail → Option ℕ → Stage → Dialog → Took
list detail number stage d = inside (λ u drop. tell detail number drop d) stage d

-- the text is read first, where the message is still in INBOX
abbrev pub read_text : Option Entry → Wanted → Dialog → Took
read_text None wanted d = says MessageGone d
read_text (Some e) wanted d = took (Read e.body) (record d { awaits = Text wanted })

-- RETR, and TOP with its number of lines
abbrev pub retrieve : MailStore → ℕ → Option ℕ → Stage → Dialog → Took
retrieve s number lines stage d =
    inside (λ u drop. on_message (λ m. read_text (entry_of (mail_of s (Some u) inbox) m.key) (record { key = m.key; size = m.size; lines = lines }) d)
    (message_at drop.messages number) d) stage d

abbrev pub mark : ℕ → Stage → Dialog → Took
mark number stage d =
    inside (λ u drop. on_message (λ m. says Marked (with_messages u drop (with_mark drop.messages number m) d)) (message_at drop.messages number) d) stage d

abbrev pub reset : Stage → Dialog → Took
reset stage d = inside (λ u drop. says Done (with_messages u drop (without_marks drop.messages) d)) stage d

abbrev pub wait : Stage → Dialog → Took
wait stage d = inside (λ u drop. says Done d) stage d

-- ---- UPDATE (RFC 1939, 6)

abbrev pub deleted_flag : Flags
deleted_flag = record no_flags { deleted = true }

-- a STORE that adds `\Deleted` to messages
abbrev pub store_of : List Key → Ask
store_of keys = Store inbox keys Add deleted_flag false

-- an EXPUNGE of these messages and no others
abbrev pub expunge_of : List Key → Ask
expunge_of keys = Expunge inbox (Some keys)

-- the marked messages of the maildrop that is left
abbrev pub keys_left : Stage → List Key
keys_left (Authorization name) = []
keys_left (Transaction u drop) = marked_keys drop.messages

-- the marked messages get `\Deleted` first, and are removed then; where none is marked nothing is asked
abbrev pub leave : List Key → Dialog → Took
leave [] d = ends Closing
leave (key ∷ keys) d = asks (store_of (key ∷ keys)) (on.Mark inbox (key ∷ keys)) d

abbrev pub quit : Dialog → Took
quit d = leave (keys_left d.stage) d

-- ---- one line

abbrev pub obey : House → MailStore → List (BoxId × ℕ) → (Body → Option ℕ) → List User → List ℕ → Dialog → Command → Took
obey house s stamps sizes in_use argument d command.User = give_name d.stage argument d
obey house s stamps sizes in_use argument d command.Pass = give_password house s stamps sizes in_use (given_name d.stage) argument d
obey house s stamps sizes in_use argument d command.Stat = stat d.stage d
obey house s stamps sizes in_use argument d (command.List message) = list Octets message d.stage d
obey house s stamps sizes in_use argument d (command.Retr message) = retrieve s message None d.stage d
obey house s stamps sizes in_use argument d (command.Dele message) = mark message d.stage d
obey house s stamps sizes in_use argument d command.Noop = wait d.stage d
obey house s stamps sizes in_use argument d command.Rset = reset d.stage d
obey house s stamps sizes in_use argument d (command.Top message lines) = retrieve s message (Some lines) d.stage d
obey house s stamps sizes in_use argument d (command.Uidl message) = list UniqueId message d.stage d
obey house s stamps sizes in_use argument d command.Quit = quit d

abbrev pub hears : House → MailStore → List (BoxId × ℕ) → (Body → Option ℕ) → List User → List ℕ → Dialog → Reading → Took
hears house s stamps sizes in_use argument d (Ok asked) = obey house s stamps sizes in_use argument d asked
hears house s stamps sizes in_use argument d (Err refused) = says (line_refused refused) d

-- one line; `sizes` has the lengths of texts, and `in_use` the users of other sessions
abbrev pub turn : House → MailStore → List (BoxId × ℕ) → (Body → Option ℕ) → List User → Dialog → SmtpLine → Took
turn house s stamps sizes in_use d line = hears house s stamps sizes in_use (argument_of line) d (command_of line)

-- ---- what was awaited

abbrev pub heard_in : Awaits → Result (List ℕ) ReadFault → Dialog → Took
heard_in Nothing text d = took (Say []) d
heard_in (Text wanted) (Ok text) d = asks (fetch_of (wanted.key ∷ []) true) (on.Tell (retrieved wanted.size wanted.lines text)) d
heard_in (Text wanted) (Err why) d = says (read_refused why) (at_rest d)
heard_in (Outcome pending) text d = took (Say []) d

-- the text that RETR or TOP needs, or why it can't be had
abbrev pub heard : Dialog → Result (List ℕ) ReadFault → Took
heard d text = heard_in d.awaits text d

-- what was asked is done
abbrev pub done : Pending → Dialog → Took
done (on.Enter u drop) d = says (Messages (length drop.messages)) (record d { stage = Transaction u drop })
done (on.Tell answer) d = took (Say answer) d
done (on.Mark mailbox keys) d = asks (Expunge mailbox (Some keys)) on.Remove d
done on.Remove d = ends Closing

-- of a PASS
abbrev pub is_login : Pending → Bool
is_login (on.Enter u drop) = true
is_login (on.Tell answer) = false
is_login (on.Mark mailbox keys) = false
is_login on.Remove = false

-- of a QUIT
abbrev pub is_update : Pending → Bool
is_update (on.Enter u drop) = false
is_update (on.Tell answer) = false
is_update (on.Mark mailbox keys) = true
is_update on.Remove = true

abbrev pub awaits_login : Awaits → Bool
awaits_login Nothing = false
awaits_login (Text wanted) = false
awaits_login (Outcome pending) = is_login pending

abbrev pub awaits_update : Awaits → Bool
awaits_update Nothing = false
awaits_update (Text wanted) = false
awaits_update (Outcome pending) = is_update pending

-- it is refused: a PASS leaves nobody logged in, and a QUIT closes
abbrev pub refused_in : Awaits → Answer → Dialog → Took
refused_in awaits answer d = if awaits_update awaits then ends answer else says answer (if awaits_login awaits then nameless d else d)

-- it is not done
abbrev pub undone_in : Awaits → SubmitFault → Dialog → Took
undone_in awaits (WasRefused why) d = refused_in awaits (ask_refused why) d
undone_in awaits Disk d = ends DiskFault
undone_in awaits Closed d = ends DiskFault

abbrev pub done_in : Awaits → Dialog → Took
done_in Nothing d = took (Say []) d
done_in (Text wanted) d = took (Say []) d
done_in (Outcome pending) d = done pending d

abbrev pub settle_in : Awaits → Result Item SubmitFault → Dialog → Took
settle_in awaits (Ok item) d = done_in awaits d
settle_in awaits (Err fault) d = undone_in awaits fault d

-- the outcome of what was asked
abbrev pub settle : Dialog → Result Item SubmitFault → Took
settle d outcome = settle_in d.awaits outcome (at_rest d)

-- ---- what is known of a dialog

abbrev pub is_rest : Awaits → Bool
is_rest Nothing = true
is_rest (Text wanted) = false
is_rest (Outcome pending) = false

abbrev pub is_text : Awaits → Bool
is_text Nothing = false
is_text (Text wanted) = true
is_text (Outcome pending) = false

abbrev pub is_outcome : Awaits → Bool
is_outcome Nothing = false
is_outcome (Text wanted) = false
is_outcome (Outcome pending) = true

-- nothing is awaited
abbrev pub is_free : Dialog → Bool
is_free d = is_rest d.awaits

-- a text is awaited
abbrev pub is_reading : Dialog → Bool
is_reading d = is_text d.awaits

-- the outcome of what was asked is awaited
abbrev pub is_due : Dialog → Bool
is_due d = is_outcome d.awaits

abbrev pub user_pending : Pending → Option User
user_pending (on.Enter u drop) = Some u
user_pending (on.Tell answer) = None
user_pending (on.Mark mailbox keys) = None
user_pending on.Remove = None

abbrev pub user_entering : Awaits → Option User
user_entering Nothing = None
user_entering (Text wanted) = None
user_entering (Outcome pending) = user_pending pending

abbrev pub user_in : Stage → Awaits → Option User
user_in (Authorization name) awaits = user_entering awaits
user_in (Transaction u drop) awaits = Some u

-- who is logged in; while the outcome of a PASS is awaited, whom it names
abbrev pub user_of : Dialog → Option User
user_of d = user_in d.stage d.awaits

-- who is logged in is a user of the house
abbrev pub is_at_home : House → Dialog → Bool
is_at_home house d = unwrap_or (option_map (is_known house) (user_of d)) true

-- which call is due after what comes of a call
abbrev pub IsNext : PopOut → Dialog → Type 0
IsNext (Say text) d = is_free d ≡ true
IsNext (Read body) d = is_reading d ≡ true
IsNext (Submit asked) d = is_due d ≡ true
IsNext (Bye text) d = d ≡ opening

-- a user asks, and somebody is logged in or logs in
abbrev pub AsksAsUser : PopOut → Dialog → Type 0
AsksAsUser (Submit asked) d = (is_users asked ≡ true) × (is_some (user_of d) ≡ true)
AsksAsUser (Say text) d = Unit {0}
AsksAsUser (Read body) d = Unit {0}
AsksAsUser (Bye text) d = Unit {0}

-- the bodies of all messages of a store pass a test
abbrev pub holds_all : (Body → Bool) → List (BoxId × Mailbox) → Bool
holds_all test boxes = list_all (λ (r : BoxId × Mailbox). list_all (λ (e : Entry). test e.body) r.1.entries) boxes

-- what is to be read is the text of a message of the store: whatever all of these pass, it passes
abbrev pub ReadsOf : MailStore → PopOut → Type 0
ReadsOf s (Read body) = (test : Body → Bool) → holds_all test s.boxes ≡ true → test body ≡ true
ReadsOf s (Say text) = Unit {0}
ReadsOf s (Submit asked) = Unit {0}
ReadsOf s (Bye text) = Unit {0}
