-- A POP3 client's dialog is of a user and of keys, and what it asks can be recorded.
use Rattle.std.proofs.Common.{◌≡◌, ℕ, zero, suc, ◌-◌, ◌≤◌, ◌<◌, Bool, true, false, cond, List, [], ◌∷◌, length, filter, Option, None, Some, Result, Ok, Err, nat_lt, ltb-true, slice_get, refl, arith}
use Rattle.std.specs.Prelude.{IfSome, IsTrue, slice_set}
use Rattle.std.specs.List.{AllByRecursion, Contains, list_any}
use Rattle.undo_base.specs.declared.keys.Key.{Key}
use Rattle.undo_base.specs.declared.keys.User.{User}
use Rattle.undo_base.specs.Name.{IsName}
use Rattle.seal_log.specs.declared.fault.ReadFault.{ReadFault}
use Rattle.smtp_lines.specs.declared.line.SmtpLine.{SmtpLine}
use Rattle.verb_core.specs.declared.ask.Ask.{Ask}
use Rattle.verb_core.specs.declared.ask.Ask.TheVariants.{Expunge}
use Rattle.verb_core.specs.declared.ask.SubmitFault.{SubmitFault}
use Rattle.verb_core.specs.declared.ask.SubmitFault.TheVariants.{Refused as WasRefused, Disk, Closed}
use Rattle.verb_core.specs.declared.conf.House.{House}
use Rattle.verb_core.specs.declared.item.Item.{Item}
use Rattle.verb_core.specs.declared.mailbox.Body.{Body}
use Rattle.verb_core.specs.declared.mailbox.BoxId.{BoxId}
use Rattle.verb_core.specs.declared.mailbox.Entry.{Entry}
use Rattle.verb_core.specs.Boxes.{box_of, same_user}
use Rattle.verb_core.specs.Live.{asker, mail_of}
use Rattle.verb_core.specs.Mailboxes.{entry_of}
use Rattle.verb_core.specs.Names.{inbox}
use Rattle.verb_core.specs.Store.{MailStore, is_house}
use Rattle.pop_session.specs.declared.answer.Answer.{Answer}
use Rattle.pop_session.specs.declared.answer.Answer.TheVariants.{Closing, DiskFault, Marked}
use Rattle.pop_session.specs.declared.command.Command.{Command}
use Rattle.pop_session.specs.declared.command.Command.TheVariants as command
use Rattle.pop_session.specs.declared.dialog.Awaits.{Awaits}
use Rattle.pop_session.specs.declared.dialog.Awaits.TheVariants.{Nothing, Text as AwaitsText, Outcome as AwaitsOutcome}
use Rattle.pop_session.specs.declared.dialog.Dialog.{Dialog}
use Rattle.pop_session.specs.declared.dialog.Pending.{Pending}
use Rattle.pop_session.specs.declared.dialog.Pending.TheVariants as on
use Rattle.pop_session.specs.declared.dialog.Stage.{Stage}
use Rattle.pop_session.specs.declared.dialog.Stage.TheVariants.{Authorization, Transaction}
use Rattle.pop_session.specs.declared.dialog.Wanted.{Wanted}
use Rattle.pop_session.specs.declared.maildrop.Detail.{Detail}
use Rattle.pop_session.specs.declared.maildrop.Detail.TheVariants.{Octets, UniqueId}
use Rattle.pop_session.specs.declared.maildrop.Maildrop.{Maildrop}
use Rattle.pop_session.specs.declared.maildrop.Message.{Message}
use Rattle.pop_session.specs.declared.out.PopOut.{PopOut}
use Rattle.pop_session.specs.declared.out.PopOut.TheVariants.{Say, Read, Submit, Bye}
use Rattle.pop_session.specs.Command.{Reading, argument_of, command_of}
use Rattle.pop_session.specs.Dialog.{Took, asks, at_rest, done, done_in, ends, enter, fetch_of, give_name, give_password, given_name, heard, heard_in, hears, keys_left, leave, list, log_in, mark, nameless, obey, on_message, opening, read_text, refused_in, reset, retrieve, says, settle, settle_in, stat, store_of, tell, took, turn, undone_in, user_in, user_of, wait, with_messages}
use Rattle.pop_session.specs.Maildrop.{keys_of, maildrop_of, marked_keys, message_at, message_of, only_kept, with_mark, without_marks}
use Rattle.verb_bytes.specs.Limits.{IsKey, IsUser}
use Rattle.dialog_laws.specs.Ranges.{AreAllKeys, IsRecordable, IsStored, IsStoredEntry}
use Rattle.dialog_laws.specs.ImapClient.{AskedBy}
use Rattle.dialog_laws.specs.PopClient.{AreKeyed, AsksRecordable, IsAwaited, IsFetching, IsPending, IsPlain, IsStaged, Line, Outcome, Taken, Text, asked_by, asked_in, turn_of}
use Rattle.kept_laws.proofs.Lists.{all_filtered, all_joined, all_mapped, either, member_has}
use Rattle.dialog_laws.proofs.Boxes.{mail_stored}
use Rattle.dialog_laws.proofs.Naming.{name_of_test}
use Rattle.dialog_laws.proofs.Options.{at_has}
use Rattle.dialog_laws.proofs.Reading.{CanBeRecorded}
use Rattle.cut_laws.proofs.Sizes.{few_users}

-- ---- keys of a maildrop

abbrev KeyOf : Message → Type 0
KeyOf m = IsKey m.key

inbox_named : IsName inbox
inbox_named = name_of_test inbox refl

keyed_keys : (messages : List Message) → AreKeyed messages → AreAllKeys (keys_of messages)
keyed_keys messages h = all_mapped KeyOf IsKey (λ (m : Message). m.key) (λ m k. k) messages h

marked_keyed : (messages : List Message) → AreKeyed messages → AreAllKeys (marked_keys messages)
marked_keyed messages h = keyed_keys (filter (λ (m : Message). m.marked) messages) (all_filtered KeyOf (λ (m : Message). m.marked) messages h)

set_keyed : (messages : List Message) (k : ℕ) (m : Message) → AreKeyed messages → KeyOf m → AreKeyed (slice_set messages k m)
set_keyed [] k m h is = tt
set_keyed (n ∷ messages) zero m h is = (is, h.1)
set_keyed (n ∷ messages) (suc k) m h is = (h.0, set_keyed messages k m h.1 is)

kept_keyed : (o : Option Message) → IfSome o KeyOf → IfSome (only_kept o) KeyOf
kept_keyed None h = tt
kept_keyed (Some m) h = either (λ (o : Option Message). IfSome o KeyOf) m.marked None (Some m) tt h

at_keyed : (messages : List Message) (number : ℕ) → AreKeyed messages → IfSome (message_at messages number) KeyOf
at_keyed messages number h = kept_keyed (slice_get messages (number - 1)) (at_has KeyOf messages (number - 1) h)

-- ---- what comes of a line

-- who asks is one of 200 users
user_staged : (stage : Stage) (awaits : Awaits) → IsStaged stage → IsAwaited awaits → IfSome (user_in stage awaits) IsUser
user_staged (Transaction u drop) awaits h k = h.0
user_staged (Authorization name) Nothing h k = tt
user_staged (Authorization name) (AwaitsText wanted) h k = tt
user_staged (Authorization name) (AwaitsOutcome (on.Enter u drop)) h k = k.0
user_staged (Authorization name) (AwaitsOutcome (on.Tell answer)) h k = tt
user_staged (Authorization name) (AwaitsOutcome (on.Mark mailbox keys)) h k = tt
user_staged (Authorization name) (AwaitsOutcome on.Remove) h k = tt

-- the dialog stays so, and what is asked can be recorded
record IsFine (t : Took) : Type 0 where
  fetching : IsFetching t.dialog
  asks : AsksRecordable (user_of t.dialog) t.out

pub opening_fetching : IsFetching opening
opening_fetching = record { stage = tt; awaits = tt }

fine_ends : (answer : Answer) → IsFine (ends answer)
fine_ends answer = record { fetching = opening_fetching; asks = tt }

fine_said : (text : List ℕ) (d : Dialog) → IsFetching d → IsFine (took (Say text) d)
fine_said text d h = record { fetching = h; asks = tt }

nameless_fetching : (d : Dialog) → IsFetching d → IsFetching (nameless d)
nameless_fetching d h = record { stage = tt; awaits = h.awaits }

rest_fetching : (d : Dialog) → IsFetching d → IsFetching (at_rest d)
rest_fetching d h = record { stage = h.stage; awaits = tt }

fine_asks : (ask : Ask) (pending : Pending) (d : Dialog) → IsStaged d.stage → IsRecordable ask → IsPending pending → IsFine (asks ask pending d)
fine_asks ask pending d staged can waits = record { fetching = record { stage = staged; awaits = waits }; asks = (user_staged d.stage (AwaitsOutcome pending) staged waits, can) }

module _ (d : Dialog) (h : IsFetching d) where
  fine_say : (text : List ℕ) → IsFine (took (Say text) d)
  fine_say text = fine_said text d h

  fine_name : (stage : Stage) (name : List ℕ) → IsFine (give_name stage name d)
  fine_name (Authorization old) name = record { fetching = record { stage = tt; awaits = h.awaits }; asks = tt }
  fine_name (Transaction u drop) name = fine_say _

  fine_enter : (u : User) (drop : Maildrop) → IsUser u → AreKeyed drop.messages → IsFine (enter u drop d)
  fine_enter u drop is keyed =
      either IsFine (nat_lt 65536 (length drop.messages)) _ _ (fine_said _ (nameless d) (nameless_fetching d h))
      (fine_asks (fetch_of (keys_of drop.messages) false) (on.Enter u drop) d h.stage (inbox_named, keyed_keys drop.messages keyed) (is, keyed))

  module _ (house : House) (s : MailStore) (stamps : List (BoxId × ℕ)) (sizes : Body → Option ℕ) (in_use : List User) (is : IsTrue (is_house house)) (stored : IsStored s) where
    drop_keyed : (u : User) → AreKeyed (maildrop_of s stamps sizes u).messages
    drop_keyed u = all_mapped IsStoredEntry KeyOf (message_of sizes) (λ e k. k.0) (mail_of s (Some u) inbox) (mail_stored (box_of (asker (Some u)) inbox) s.boxes stored.each)

    fine_known : (b : Bool) (number : ℕ) → nat_lt number (length house.accounts) ≡ b → IsFine (log_in s stamps sizes in_use (cond b (Some number) None) d)
    fine_known false number known = fine_said _ (nameless d) (nameless_fetching d h)
    fine_known true number known =
        let u : User = record { 0 = number } in
        let below : number < length house.accounts = ltb-true number (length house.accounts) known in
        let few : length house.accounts ≤ 200 = few_users house is in
        either IsFine (list_any (same_user u) in_use) _ _ (fine_said _ (nameless d) (nameless_fetching d h))
        (fine_enter u (maildrop_of s stamps sizes u) (omega (arith, below, few)) (drop_keyed u))

    fine_password : (name : Option (List ℕ)) (password : List ℕ) → IsFine (give_password house s stamps sizes in_use name password d)
    fine_password None password = fine_say _
    fine_password (Some name) password = fine_known _ _ refl

  fine_stat : (stage : Stage) → IsFine (stat stage d)
  fine_stat (Authorization name) = fine_say _
  fine_stat (Transaction u drop) = fine_say _

  fine_shown : (f : Message → List ℕ) (o : Option Message) → IsFine (on_message (λ m. took (Say (f m)) d) o d)
  fine_shown f None = fine_say _
  fine_shown f (Some m) = fine_say _

  fine_tell : (detail : Detail) (number : Option ℕ) (drop : Maildrop) → IsFine (tell detail number drop d)
  fine_tell detail None drop = fine_say _
  fine_tell detail (Some number) drop = fine_shown _ (message_at drop.messages number)

  fine_list : (detail : Detail) (number : Option ℕ) (stage : Stage) → IsFine (list detail number stage d)
  fine_list detail number (Authorization name) = fine_say _
  fine_list detail number (Transaction u drop) = fine_tell detail number drop

  fine_text : (o : Option Entry) (wanted : Wanted) → IsKey wanted.key → IsFine (read_text o wanted d)
  fine_text None wanted is = fine_say _
  fine_text (Some e) wanted is = record { fetching = record { stage = h.stage; awaits = is }; asks = tt }

  fine_retrieved : (es : List Entry) (lines : Option ℕ) (o : Option Message) → IfSome o KeyOf
      → IsFine (on_message (λ m. read_text (entry_of es m.key) (record { key = m.key; size = m.size; lines = lines }) d) o d)
  fine_retrieved es lines None is = fine_say _
  fine_retrieved es lines (Some m) is = fine_text (entry_of es m.key) (record { key = m.key; size = m.size; lines = lines }) is

  fine_retrieve : (s : MailStore) (number : ℕ) (lines : Option ℕ) (stage : Stage) → IsStaged stage → IsFine (retrieve s number lines stage d)
  fine_retrieve s number lines (Authorization name) staged = fine_say _
  fine_retrieve s number lines (Transaction u drop) staged = fine_retrieved (mail_of s (Some u) inbox) lines (message_at drop.messages number) (at_keyed drop.messages number staged.1)

  with_fetching : (u : User) (drop : Maildrop) (messages : List Message) → IsUser u → AreKeyed messages → IsFetching (with_messages u drop messages d)
  with_fetching u drop messages is keyed = record { stage = (is, keyed); awaits = h.awaits }

  fine_marked : (u : User) (drop : Maildrop) (number : ℕ) (answer : Answer) (o : Option Message) → IsUser u → AreKeyed drop.messages → IfSome o KeyOf
      → IsFine (on_message (λ m. says answer (with_messages u drop (with_mark drop.messages number m) d)) o d)
  fine_marked u drop number answer None is keyed k = fine_say _
  fine_marked u drop number answer (Some m) is keyed k =
      fine_said _ _ (with_fetching u drop (with_mark drop.messages number m) is (set_keyed drop.messages (number - 1) (record m { marked = true }) keyed k))

  fine_mark : (number : ℕ) (stage : Stage) → IsStaged stage → IsFine (mark number stage d)
  fine_mark number (Authorization name) staged = fine_say _
  fine_mark number (Transaction u drop) staged = fine_marked u drop number Marked (message_at drop.messages number) staged.0 staged.1 (at_keyed drop.messages number staged.1)

  fine_reset : (stage : Stage) → IsStaged stage → IsFine (reset stage d)
  fine_reset (Authorization name) staged = fine_say _
  fine_reset (Transaction u drop) staged =
      fine_said _ _ (with_fetching u drop (without_marks drop.messages) staged.0 (all_mapped KeyOf KeyOf (λ (m : Message). record m { marked = false }) (λ m k. k) drop.messages staged.1))

  fine_wait : (stage : Stage) → IsFine (wait stage d)
  fine_wait (Authorization name) = fine_say _
  fine_wait (Transaction u drop) = fine_say _

  left_keyed : (stage : Stage) → IsStaged stage → AreAllKeys (keys_left stage)
  left_keyed (Authorization name) staged = tt
  left_keyed (Transaction u drop) staged = marked_keyed drop.messages staged.1

  fine_leave : (keys : List Key) → AreAllKeys keys → IsFine (leave keys d)
  fine_leave [] all = fine_ends Closing
  fine_leave (key ∷ keys) all = fine_asks (store_of (key ∷ keys)) (on.Mark inbox (key ∷ keys)) d h.stage (inbox_named, all) (inbox_named, all)

fine_obey : (house : House) (s : MailStore) (stamps : List (BoxId × ℕ)) (sizes : Body → Option ℕ) (in_use : List User) (argument : List ℕ) (d : Dialog) (asked : Command)
    → IsTrue (is_house house) → IsStored s → IsFetching d → IsFine (obey house s stamps sizes in_use argument d asked)
fine_obey house s stamps sizes in_use argument d command.User is stored h = fine_name d h d.stage argument
fine_obey house s stamps sizes in_use argument d command.Pass is stored h = fine_password d h house s stamps sizes in_use is stored (given_name d.stage) argument
fine_obey house s stamps sizes in_use argument d command.Stat is stored h = fine_stat d h d.stage
fine_obey house s stamps sizes in_use argument d (command.List message) is stored h = fine_list d h Octets message d.stage
fine_obey house s stamps sizes in_use argument d (command.Retr message) is stored h = fine_retrieve d h s message None d.stage h.stage
fine_obey house s stamps sizes in_use argument d (command.Dele message) is stored h = fine_mark d h message d.stage h.stage
fine_obey house s stamps sizes in_use argument d command.Noop is stored h = fine_wait d h d.stage
fine_obey house s stamps sizes in_use argument d command.Rset is stored h = fine_reset d h d.stage h.stage
fine_obey house s stamps sizes in_use argument d (command.Top message lines) is stored h = fine_retrieve d h s message (Some lines) d.stage h.stage
fine_obey house s stamps sizes in_use argument d (command.Uidl message) is stored h = fine_list d h UniqueId message d.stage
fine_obey house s stamps sizes in_use argument d command.Quit is stored h = fine_leave d h (keys_left d.stage) (left_keyed d h d.stage h.stage)

fine_hears : (house : House) (s : MailStore) (stamps : List (BoxId × ℕ)) (sizes : Body → Option ℕ) (in_use : List User) (argument : List ℕ) (d : Dialog) (reading : Reading)
    → IsTrue (is_house house) → IsStored s → IsFetching d → IsFine (hears house s stamps sizes in_use argument d reading)
fine_hears house s stamps sizes in_use argument d (Ok asked) is stored h = fine_obey house s stamps sizes in_use argument d asked is stored h
fine_hears house s stamps sizes in_use argument d (Err refused) is stored h = fine_say d h _

-- ---- what was awaited

fine_heard_in : (d : Dialog) (awaits : Awaits) (text : Result (List ℕ) ReadFault) → IsFetching d → IsAwaited awaits → IsFine (heard_in awaits text d)
fine_heard_in d Nothing text h k = fine_say d h _
fine_heard_in d (AwaitsText wanted) (Ok text) h k = fine_asks (fetch_of (wanted.key ∷ []) true) (on.Tell _) d h.stage (inbox_named, (k, tt)) tt
fine_heard_in d (AwaitsText wanted) (Err why) h k = fine_said _ (at_rest d) (rest_fetching d h)
fine_heard_in d (AwaitsOutcome pending) text h k = fine_say d h _

fine_done : (d : Dialog) (pending : Pending) → IsFetching d → IsPending pending → IsFine (done pending d)
fine_done d (on.Enter u drop) h k = record { fetching = record { stage = k; awaits = h.awaits }; asks = tt }
fine_done d (on.Tell answer) h k = fine_say d h _
fine_done d (on.Mark mailbox keys) h k = fine_asks (Expunge mailbox (Some keys)) on.Remove d h.stage k.0 tt
fine_done d on.Remove h k = fine_ends Closing

fine_done_in : (d : Dialog) (awaits : Awaits) → IsFetching d → IsAwaited awaits → IsFine (done_in awaits d)
fine_done_in d Nothing h k = fine_say d h _
fine_done_in d (AwaitsText wanted) h k = fine_say d h _
fine_done_in d (AwaitsOutcome pending) h k = fine_done d pending h k

fine_unsaid : (b : Bool) (answer : Answer) (d : Dialog) → IsFetching d → IsFine (says answer (cond b (nameless d) d))
fine_unsaid true answer d h = fine_said _ (nameless d) (nameless_fetching d h)
fine_unsaid false answer d h = fine_said _ d h

fine_refused : (d : Dialog) (awaits : Awaits) (answer : Answer) → IsFetching d → IsFine (refused_in awaits answer d)
fine_refused d awaits answer h = either IsFine _ _ _ (fine_ends answer) (fine_unsaid _ answer d h)

fine_undone : (d : Dialog) (awaits : Awaits) (fault : SubmitFault) → IsFetching d → IsFine (undone_in awaits fault d)
fine_undone d awaits (WasRefused why) h = fine_refused d awaits _ h
fine_undone d awaits Disk h = fine_ends DiskFault
fine_undone d awaits Closed h = fine_ends DiskFault

fine_settled : (d : Dialog) (awaits : Awaits) (outcome : Result Item SubmitFault) → IsFetching d → IsAwaited awaits → IsFine (settle_in awaits outcome d)
fine_settled d awaits (Ok item) h k = fine_done_in d awaits h k
fine_settled d awaits (Err fault) h k = fine_undone d awaits fault h

-- ---- each turn

turn_fine : (house : House) (s : MailStore) (stamps : List (BoxId × ℕ)) (sizes : Body → Option ℕ) (in_use : List User) (d : Dialog) (line : SmtpLine) → IsTrue (is_house house) → IsStored s → IsFetching d
    → IsFine (turn house s stamps sizes in_use d line)
turn_fine house s stamps sizes in_use d line is stored h = fine_hears house s stamps sizes in_use (argument_of line) d (command_of line) is stored h

heard_fine : (d : Dialog) (text : Result (List ℕ) ReadFault) → IsFetching d → IsFine (heard d text)
heard_fine d text h = fine_heard_in d d.awaits text h h.awaits

settled_fine : (d : Dialog) (outcome : Result Item SubmitFault) → IsFetching d → IsFine (settle d outcome)
settled_fine d outcome h = fine_settled (at_rest d) d.awaits outcome (rest_fetching d h) h.awaits

pub turn_fetching : (house : House) (s : MailStore) (stamps : List (BoxId × ℕ)) (sizes : Body → Option ℕ) (in_use : List User) (d : Dialog) (line : SmtpLine) → IsTrue (is_house house) → IsStored s
    → IsFetching d → IsFetching (turn house s stamps sizes in_use d line).dialog
turn_fetching house s stamps sizes in_use d line is stored h = (turn_fine house s stamps sizes in_use d line is stored h).fetching

pub turn_asks : (house : House) (s : MailStore) (stamps : List (BoxId × ℕ)) (sizes : Body → Option ℕ) (in_use : List User) (d : Dialog) (line : SmtpLine) → IsTrue (is_house house) → IsStored s
    → IsFetching d → (let t = turn house s stamps sizes in_use d line in AsksRecordable (user_of t.dialog) t.out)
turn_asks house s stamps sizes in_use d line is stored h = (turn_fine house s stamps sizes in_use d line is stored h).asks

pub heard_fetching : (d : Dialog) (text : Result (List ℕ) ReadFault) → IsFetching d → IsFetching (heard d text).dialog
heard_fetching d text h = (heard_fine d text h).fetching

pub heard_asks : (d : Dialog) (text : Result (List ℕ) ReadFault) → IsFetching d → AsksRecordable (user_of (heard d text).dialog) (heard d text).out
heard_asks d text h = (heard_fine d text h).asks

pub settled_fetching : (d : Dialog) (outcome : Result Item SubmitFault) → IsFetching d → IsFetching (settle d outcome).dialog
settled_fetching d outcome h = (settled_fine d outcome h).fetching

pub settled_asks : (d : Dialog) (outcome : Result Item SubmitFault) → IsFetching d → AsksRecordable (user_of (settle d outcome).dialog) (settle d outcome).out
settled_asks d outcome h = (settled_fine d outcome h).asks

-- ---- a whole dialog

taken_fine : (house : House) (d : Dialog) (taken : Taken) → IsTrue (is_house house) → IsPlain taken → IsFetching d → IsFine (turn_of house d taken)
taken_fine house d (Line s stamps sizes in_use line) is plain h = turn_fine house s stamps sizes in_use d line is plain h
taken_fine house d (Text text) is plain h = heard_fine d text h
taken_fine house d (Outcome outcome) is plain h = settled_fine d outcome h

asked_recordable : (user : Option User) (out : PopOut) → AsksRecordable user out → AllByRecursion CanBeRecorded (asked_by user out)
asked_recordable user (Submit ask) h = (h, tt)
asked_recordable user (Say text) h = tt
asked_recordable user (Read body) h = tt
asked_recordable user (Bye text) h = tt

dialog_asks : (house : House) (d : Dialog) (takes : List Taken) → IsTrue (is_house house) → AllByRecursion IsPlain takes → IsFetching d → AllByRecursion CanBeRecorded (asked_in house d takes)
dialog_asks house d [] is plain h = tt
dialog_asks house d (taken ∷ takes) is plain h =
    let t : Took = turn_of house d taken in
    let fine : IsFine t = taken_fine house d taken is plain.0 h in
    all_joined CanBeRecorded (asked_by (user_of t.dialog) t.out) (asked_in house t.dialog takes)
    (asked_recordable (user_of t.dialog) t.out fine.asks) (dialog_asks house t.dialog takes is plain.1 fine.fetching)

pub asked_can : (house : House) (takes : List Taken) (asked : AskedBy) → IsTrue (is_house house) → AllByRecursion IsPlain takes → Contains (asked_in house opening takes) asked → CanBeRecorded asked
asked_can house takes asked is plain c = member_has CanBeRecorded (asked_in house opening takes) asked c (dialog_asks house opening takes is plain opening_fetching)
