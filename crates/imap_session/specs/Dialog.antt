-- The dialog with an IMAP client (RFC 3501, 3 and 6). It is a function of its state, the house, the store, the lengths of texts,
-- whether names may have superiors, and one command. It gives what is said, read or asked of the store, and the state after it.
use Rattle.std.specs.Prelude.{◌≡◌, ℕ, Bool, true, false, not, ◌&&◌, ◌||◌, List, [], ◌∷◌, ◌++◌, length, bytes_eq, is_some, option_map, unwrap_or, Option, None, Some, Result, Ok, Err, if◌then◌else◌}
use Rattle.std.specs.List.{list_all}
use Rattle.undo_base.specs.declared.asks.StatusAsk.{StatusAsk}
use Rattle.undo_base.specs.declared.keys.Flags.{Flags}
use Rattle.undo_base.specs.declared.keys.User.{User}
use Rattle.seal_log.specs.declared.fault.ReadFault.{ReadFault}
use Rattle.seal_log.specs.declared.fault.ReadFault.TheVariants as read_fault
use Rattle.imap_stream.specs.declared.next.RawCommand.{RawCommand}
use Rattle.imap_lines.specs.declared.command.ImapCommand.{ImapCommand}
use Rattle.imap_lines.specs.declared.command.ImapWhat.{ImapWhat}
use Rattle.imap_lines.specs.declared.command.ImapWhat.TheVariants as what
use Rattle.imap_lines.specs.Command.{Reading, command_of}
use Rattle.imap_stream.specs.declared.picks.SetRange.{SetRange}
use Rattle.imap_text.specs.Answers.{list_lines, select_lines, status_line}
use Rattle.imap_fetch.specs.declared.asked.Attribute.{Attribute}
use Rattle.imap_fetch.specs.declared.messages.Message.{Message}
use Rattle.imap_fetch.specs.declared.lines.StoreForm.{StoreForm}
use Rattle.imap_fetch.specs.Asked.{attributes_of, octets_asked, sets_seen}
use Rattle.imap_fetch.specs.Told.{fetch_lines, store_lines}
use Rattle.verb_core.specs.declared.ask.Ask.{Ask}
use Rattle.verb_core.specs.declared.ask.Ask.TheVariants as ask
use Rattle.verb_core.specs.declared.ask.Refused.{Refused as Refusal}
use Rattle.verb_core.specs.declared.ask.Refused.TheVariants.{NoBox, NameShape, Fixed, TryCreate, NoMemory}
use Rattle.verb_core.specs.declared.ask.SubmitFault.{SubmitFault}
use Rattle.verb_core.specs.declared.ask.SubmitFault.TheVariants.{Refused as WasRefused, Disk, Closed}
use Rattle.verb_core.specs.declared.conf.House.{House}
use Rattle.verb_core.specs.declared.item.Item.{Item}
use Rattle.verb_core.specs.declared.item.Shown.{Shown}
use Rattle.verb_core.specs.declared.item.Shown.TheVariants.{Names}
use Rattle.verb_core.specs.declared.mailbox.Body.{Body}
use Rattle.verb_core.specs.declared.mailbox.BoxId.{BoxId}
use Rattle.verb_core.specs.declared.mailbox.Entry.{Entry}
use Rattle.verb_core.specs.declared.mailbox.Mailbox.{Mailbox}
use Rattle.verb_core.specs.Boxes.{same_user}
use Rattle.verb_core.specs.Names.{is_fixed, is_new_name}
use Rattle.verb_core.specs.Live.{is_users, mail_of}
use Rattle.verb_core.specs.Store.{MailStore, is_known}
use Rattle.imap_session.specs.declared.dialog.Awaits.{Awaits}
use Rattle.imap_session.specs.declared.dialog.Awaits.TheVariants.{Nothing, Texts, Outcome}
use Rattle.imap_session.specs.declared.dialog.Dialog.{Dialog}
use Rattle.imap_session.specs.declared.dialog.Fetching.{Fetching}
use Rattle.imap_session.specs.declared.dialog.Searching.{Searching}
use Rattle.imap_session.specs.declared.dialog.Wanted.{Wanted}
use Rattle.imap_session.specs.declared.dialog.Wanted.TheVariants as wanted
use Rattle.imap_session.specs.declared.dialog.Pending.{Pending}
use Rattle.imap_session.specs.declared.dialog.Pending.TheVariants as on
use Rattle.imap_session.specs.declared.dialog.Selected.{Selected}
use Rattle.imap_session.specs.declared.out.ImapOut.{ImapOut}
use Rattle.imap_session.specs.declared.out.ImapOut.TheVariants.{Say, Read, Submit, Bye}
use Rattle.imap_session.specs.declared.words.Answer.{Answer}
use Rattle.imap_session.specs.declared.words.Answer.TheVariants.{Done, Opened, NotOffered, WrongState, LoginFailed, ReadOnly, BadNumber, BadCharset, Refused, DiskFault}
use Rattle.imap_session.specs.declared.words.Word.{Word}
use Rattle.imap_session.specs.declared.words.Word.TheVariants as word
use Rattle.imap_session.specs.Words.{bye_text, capability_text, copy_word, fault_text, fetch_word, list_word, no_names_text, search_word, store_word, tagged, unread_text, word_text}
use Rattle.imap_view.specs.Names.{account_of, made_mailbox_of, mailbox_of}
use Rattle.imap_view.specs.Views.{is_current, news, view_of}
use Rattle.imap_view.specs.Named.{keys_at, places_named, rows_at}
use Rattle.imap_view.specs.Facts.{facts_at, is_there}
use Rattle.imap_session.specs.Fetching.{ask_of, bodies_of}
use Rattle.imap_session.specs.Searching.{all_places, ask_for, bare_found, found, is_known_charset, last_uid, numbers_of, search_ask, search_bodies, search_line, told}
use Rattle.search_verb.specs.Asked.{Asked}
use Rattle.search_verb.specs.Meets.{needed}

-- what comes of a command, and the dialog after it
pub record Took : Type 0 where
  pub out : ImapOut
  pub dialog : Dialog

abbrev pub took : ImapOut → Dialog → Took
took out d = record { out = out; dialog = d }

-- the connection was made just now: nobody is logged in (RFC 3501, 3.1)
abbrev pub opening : Dialog
opening = record { user = None; selected = None; awaits = Nothing }

-- nothing is awaited any more
abbrev pub at_rest : Dialog → Dialog
at_rest d = record d { awaits = Nothing }

-- no mailbox is selected any more
abbrev pub unselected : Dialog → Dialog
unselected d = record d { selected = None }

-- an answer, and the dialog goes on
abbrev pub says : List ℕ → Answer → Dialog → Took
says tag answer d = took (Say (tagged tag answer)) d

-- data and then the answer
abbrev pub tells : List ℕ → List ℕ → Answer → Dialog → Took
tells text tag answer d = took (Say (text ++ tagged tag answer)) d

-- the store is asked, and the outcome is awaited
abbrev pub asks : Ask → List ℕ → Pending → Dialog → Took
asks asked tag pending d = took (Submit asked) (record d { awaits = Outcome tag pending })

-- texts are read first, and awaited
abbrev pub reads : List ℕ → Wanted → List Body → Dialog → Took
reads tag w bodies d = took (Read bodies) (record d { awaits = Texts tag w })

-- ---- commands of any state

-- done; where a mailbox is selected, its view is told of it first, and follows it (RFC 3501, 6.1.2 and 7)
abbrev pub follow : MailStore → List ℕ → Word → Dialog → Option Selected → Took
follow s tag w d None = says tag (Done w) d
follow s tag w d (Some selected) =
    let entries = mail_of s d.user selected.mailbox in
    tells (news entries selected.view) tag (Done w) (record d { selected = Some (record selected { view = view_of entries }) })

-- CAPABILITY (RFC 3501, 6.1.1)
abbrev pub capability : List ℕ → Dialog → Took
capability tag d = tells capability_text tag (Done word.Capability) d

-- LOGOUT (RFC 3501, 6.1.3)
abbrev pub logout : List ℕ → Dialog → Took
logout tag d = took (Bye (bye_text ++ tagged tag (Done word.Logout))) d

-- ---- before login (RFC 3501, 6.2.3)

abbrev pub enter : List ℕ → Dialog → Option ℕ → Took
enter tag d None = says tag LoginFailed d
enter tag d (Some number) = says tag (Done word.Login) (record d { user = Some (record { 0 = number }) })

abbrev pub login : House → List ℕ → Dialog → Option User → List ℕ → List ℕ → Took
login house tag d None user password = enter tag d (account_of house user password)
login house tag d (Some u) user password = says tag WrongState d

-- ---- logged in

-- SELECT and EXAMINE (RFC 3501, 6.3.1 and 6.3.2): where there is no such mailbox, none is selected any more
abbrev pub select : List ℕ → Dialog → Option User → Option (List ℕ) → Bool → Took
select tag d None mailbox writes = says tag WrongState d
select tag d (Some u) None writes = says tag (Refused NoBox) (unselected d)
select tag d (Some u) (Some mailbox) writes = asks (ask.Select mailbox) tag (on.Select mailbox writes) d

-- CREATE (RFC 3501, 6.3.3)
abbrev pub create : List ℕ → Dialog → Option User → Option (List ℕ) → Took
create tag d None mailbox = says tag WrongState d
create tag d (Some u) None = says tag (Refused NameShape) d
create tag d (Some u) (Some mailbox) = asks (ask.Create mailbox) tag (on.Plain word.Create) d

-- DELETE (RFC 3501, 6.3.4)
abbrev pub delete : List ℕ → Dialog → Option User → Option (List ℕ) → Took
delete tag d None mailbox = says tag WrongState d
delete tag d (Some u) None = says tag (Refused NoBox) d
delete tag d (Some u) (Some mailbox) = asks (ask.Delete mailbox) tag (on.Leave word.Delete) d

-- why a mailbox that is not there can't get a name
abbrev pub target_refused : Bool → List ℕ → Refusal
target_refused deep target = if not (is_new_name deep target) then NameShape else if is_fixed target then Fixed else NoBox

abbrev pub rename_to : List ℕ → Dialog → Bool → List ℕ → Option (List ℕ) → Took
rename_to tag d deep target None = says tag (Refused (target_refused deep target)) d
rename_to tag d deep target (Some mailbox) = asks (ask.Rename mailbox target) tag (on.Leave word.Rename) d

-- RENAME (RFC 3501, 6.3.5)
abbrev pub rename : List ℕ → Dialog → Option User → Bool → Option (List ℕ) → Option (List ℕ) → Took
rename tag d None deep target mailbox = says tag WrongState d
rename tag d (Some u) deep None mailbox = says tag (Refused NameShape) d
rename tag d (Some u) deep (Some target) mailbox = rename_to tag d deep target mailbox

-- SUBSCRIBE and UNSUBSCRIBE, which change nothing (RFC 3501, 6.3.6 and 6.3.7)
abbrev pub subscribe : List ℕ → Dialog → Option User → Word → Took
subscribe tag d None w = says tag WrongState d
subscribe tag d (Some u) w = says tag (Done w) d

-- LIST and LSUB: the reference stands before the pattern (RFC 3501, 6.3.8 and 6.3.9)
abbrev pub list : List ℕ → Dialog → Option User → Bool → Bool → List ℕ → List ℕ → Took
list tag d None deep subscribed reference pattern = says tag WrongState d
list tag d (Some u) deep subscribed reference [] = tells (no_names_text deep subscribed) tag (Done (list_word subscribed)) d
list tag d (Some u) deep subscribed reference (b ∷ pattern) = asks (ask.List (reference ++ b ∷ pattern)) tag (on.List subscribed deep) d

-- STATUS (RFC 3501, 6.3.10)
abbrev pub status : List ℕ → Dialog → Option User → Option (List ℕ) → List StatusAsk → Took
status tag d None mailbox asked = says tag WrongState d
status tag d (Some u) None asked = says tag (Refused NoBox) d
status tag d (Some u) (Some mailbox) asked = asks (ask.Status mailbox) tag (on.Status mailbox asked) d

-- APPEND (RFC 3501, 6.3.11)
abbrev pub append : List ℕ → Dialog → Option User → Option (List ℕ) → Flags → Option ℕ → List ℕ → Took
append tag d None mailbox flags moment text = says tag WrongState d
append tag d (Some u) None flags moment text = says tag (Refused TryCreate) d
append tag d (Some u) (Some mailbox) flags moment text = asks (ask.Append mailbox flags moment text) tag (on.Follow word.Append) d

-- ---- in a selected mailbox

-- CHECK (RFC 3501, 6.4.1)
abbrev pub check : MailStore → List ℕ → Dialog → Option Selected → Took
check s tag d None = says tag WrongState d
check s tag d (Some selected) = follow s tag word.Check d (Some selected)

-- CLOSE, which removes nothing after EXAMINE (RFC 3501, 6.4.2)
abbrev pub close : List ℕ → Dialog → Option Selected → Took
close tag d None = says tag WrongState d
close tag d (Some selected) = asks (ask.Close selected.mailbox selected.writes) tag on.Close d

-- EXPUNGE (RFC 3501, 6.4.3)
abbrev pub expunge : List ℕ → Dialog → Option Selected → Took
expunge tag d None = says tag WrongState d
expunge tag d (Some selected) =
    if selected.writes then asks (ask.Expunge selected.mailbox None) tag (on.Follow word.Expunge) d else says tag ReadOnly d

-- a FETCH of messages at these places of the view
abbrev pub fetching : MailStore → (Body → Option ℕ) → Dialog → Selected → List Attribute → Bool → List ℕ → Fetching
fetching s sizes d selected attributes by_uid places =
    let rows = rows_at sizes (mail_of s d.user selected.mailbox) selected.view places in
    record {
      mailbox = selected.mailbox;
      keys = keys_at selected.view places;
      octets = octets_asked rows attributes;
      form = record { attributes = attributes; by_uid = by_uid; sets_seen = selected.writes && sets_seen attributes };
      rows = rows;
    }

-- the texts are read first, where it needs any
abbrev pub begin_fetch : List ℕ → Dialog → Fetching → List Body → Took
begin_fetch tag d f [] = asks (ask_of f) tag (on.Fetch f.form f.rows []) d
begin_fetch tag d f (body ∷ bodies) = reads tag (wanted.Fetch f) (body ∷ bodies) d

abbrev pub fetch_places : MailStore → (Body → Option ℕ) → List ℕ → Dialog → Selected → List Attribute → Bool → Option (List ℕ) → Took
fetch_places s sizes tag d selected attributes by_uid None = says tag BadNumber d
fetch_places s sizes tag d selected attributes by_uid (Some places) =
    let f = fetching s sizes d selected attributes by_uid places in begin_fetch tag d f (bodies_of f)

abbrev pub fetch_in : MailStore → (Body → Option ℕ) → List ℕ → Dialog → Option Selected → List Attribute → List SetRange → Bool → Took
fetch_in s sizes tag d None attributes set by_uid = says tag WrongState d
fetch_in s sizes tag d (Some selected) attributes set by_uid =
    fetch_places s sizes tag d selected attributes by_uid (places_named selected.view set by_uid)

-- FETCH and UID FETCH (RFC 3501, 6.4.5 and 6.4.8)
abbrev pub fetch : MailStore → (Body → Option ℕ) → List ℕ → Dialog → List Attribute → List SetRange → Bool → Took
fetch s sizes tag d attributes set by_uid = fetch_in s sizes tag d d.selected attributes set by_uid

-- a SEARCH of the selected mailbox
abbrev pub searching : MailStore → (Body → Option ℕ) → Dialog → Selected → Asked → Bool → Searching
searching s sizes d selected key by_uid = record {
  mailbox = selected.mailbox;
  key = key;
  by_uid = by_uid;
  last_place = length selected.view;
  last_uid = last_uid selected.view;
  rows = rows_at sizes (mail_of s d.user selected.mailbox) selected.view (all_places selected.view);
}

-- what is to be told of what it found
abbrev pub search_pending : Searching → List (List ℕ) → Pending
search_pending q texts = on.Search q.by_uid (numbers_of q.by_uid (found q texts))

-- the texts are read first, where it needs any
abbrev pub begin_search : List ℕ → Dialog → Searching → List Body → Took
begin_search tag d q [] = asks (search_ask q []) tag (search_pending q []) d
begin_search tag d q (body ∷ bodies) = reads tag (wanted.Search q) (body ∷ bodies) d

abbrev pub search_in : MailStore → (Body → Option ℕ) → List ℕ → Dialog → Selected → Asked → Bool → Took
search_in s sizes tag d selected key by_uid =
    let q = searching s sizes d selected key by_uid in begin_search tag d q (search_bodies q)

-- a SEARCH of the selected mailbox, without a list of the messages of its view
abbrev pub bare_searching : Selected → Asked → Bool → Searching
bare_searching selected key by_uid = record {
  mailbox = selected.mailbox;
  key = key;
  by_uid = by_uid;
  last_place = length selected.view;
  last_uid = last_uid selected.view;
  rows = [];
}

-- what is to be told of messages, however they were found
abbrev pub pending_for : Searching → List Message → Pending
pending_for q rows = on.Search q.by_uid (numbers_of q.by_uid rows)

-- what comes of one that looks at no texts
abbrev pub search_bare : MailStore → (Body → Option ℕ) → List ℕ → Dialog → Selected → Asked → Bool → Took
search_bare s sizes tag d selected key by_uid =
    let q = bare_searching selected key by_uid in let rows = bare_found (told (needed key) sizes) q (mail_of s d.user selected.mailbox) selected.view in
    asks (ask_for q rows) tag (pending_for q rows) d

-- SEARCH and UID SEARCH (RFC 3501, 6.4.4 and 6.4.8)
abbrev pub search : MailStore → (Body → Option ℕ) → List ℕ → Dialog → Option Selected → Option (List ℕ) → Asked → Bool → Took
search s sizes tag d None charset key by_uid = says tag WrongState d
search s sizes tag d (Some selected) charset key by_uid =
    if is_known_charset charset then search_in s sizes tag d selected key by_uid else says tag BadCharset d

abbrev pub store_places : MailStore → (Body → Option ℕ) → List ℕ → Dialog → Selected → StoreForm → Bool → Option (List ℕ) → Took
store_places s sizes tag d selected form silent None = says tag BadNumber d
store_places s sizes tag d selected form silent (Some places) =
    asks (ask.Store selected.mailbox (keys_at selected.view places) form.how form.flags (not form.by_uid)) tag
    (on.Store form silent (rows_at sizes (mail_of s d.user selected.mailbox) selected.view places)) d

-- STORE and UID STORE (RFC 3501, 6.4.6 and 6.4.8)
abbrev pub store : MailStore → (Body → Option ℕ) → List ℕ → Dialog → Option Selected → StoreForm → Bool → List SetRange → Took
store s sizes tag d None form silent set = says tag WrongState d
store s sizes tag d (Some selected) form silent set =
    if selected.writes then store_places s sizes tag d selected form silent (places_named selected.view set form.by_uid)
    else says tag ReadOnly d

-- why a COPY to what names no mailbox is refused: whether the selected mailbox is there is looked for first
abbrev pub no_target : MailStore → Option User → List ℕ → Refusal
no_target s by mailbox = if is_there s by mailbox then TryCreate else NoBox

abbrev pub copy_places : MailStore → List ℕ → Dialog → Selected → Option (List ℕ) → Bool → Option (List ℕ) → Took
copy_places s tag d selected target by_uid None = says tag BadNumber d
copy_places s tag d selected None by_uid (Some places) = says tag (Refused (no_target s d.user selected.mailbox)) d
copy_places s tag d selected (Some target) by_uid (Some places) =
    asks (ask.Copy selected.mailbox (keys_at selected.view places) target (not by_uid)) tag (on.Follow (copy_word by_uid)) d

-- COPY and UID COPY (RFC 3501, 6.4.7 and 6.4.8)
abbrev pub copy : MailStore → List ℕ → Dialog → Option Selected → List SetRange → Option (List ℕ) → Bool → Took
copy s tag d None set target by_uid = says tag WrongState d
copy s tag d (Some selected) set target by_uid = copy_places s tag d selected target by_uid (places_named selected.view set by_uid)

-- ---- one command

abbrev pub obey : House → MailStore → (Body → Option ℕ) → Bool → List ℕ → Dialog → ImapWhat → Took
obey house s sizes deep tag d what.Capability = capability tag d
obey house s sizes deep tag d what.Noop = follow s tag word.Noop d d.selected
obey house s sizes deep tag d what.Logout = logout tag d
obey house s sizes deep tag d (what.Login user password) = login house tag d d.user user password
obey house s sizes deep tag d (what.Select mailbox) = select tag d d.user (mailbox_of deep mailbox) true
obey house s sizes deep tag d (what.Examine mailbox) = select tag d d.user (mailbox_of deep mailbox) false
obey house s sizes deep tag d (what.Create mailbox) = create tag d d.user (made_mailbox_of deep mailbox)
obey house s sizes deep tag d (what.Delete mailbox) = delete tag d d.user (mailbox_of deep mailbox)
obey house s sizes deep tag d (what.Rename mailbox target) = rename tag d d.user deep (mailbox_of deep target) (mailbox_of deep mailbox)
obey house s sizes deep tag d (what.Subscribe mailbox) = subscribe tag d d.user word.Subscribe
obey house s sizes deep tag d (what.Unsubscribe mailbox) = subscribe tag d d.user word.Unsubscribe
obey house s sizes deep tag d (what.List reference pattern) = list tag d d.user deep false reference pattern
obey house s sizes deep tag d (what.Lsub reference pattern) = list tag d d.user deep true reference pattern
obey house s sizes deep tag d (what.Status mailbox asked) = status tag d d.user (mailbox_of deep mailbox) asked
obey house s sizes deep tag d (what.Append mailbox flags moment text) = append tag d d.user (mailbox_of deep mailbox) flags moment text
obey house s sizes deep tag d what.Check = check s tag d d.selected
obey house s sizes deep tag d what.Close = close tag d d.selected
obey house s sizes deep tag d what.Expunge = expunge tag d d.selected
obey house s sizes deep tag d (what.Fetch set asked by_uid) = fetch s sizes tag d (attributes_of asked) set by_uid
obey house s sizes deep tag d (what.Store set how silent flags by_uid) =
    store s sizes tag d d.selected (record { how = how; flags = flags; by_uid = by_uid }) silent set
obey house s sizes deep tag d (what.Copy set target by_uid) = copy s tag d d.selected set (mailbox_of deep target) by_uid
obey house s sizes deep tag d (what.Search charset key by_uid) = search s sizes tag d d.selected charset key by_uid
obey house s sizes deep tag d what.Authenticate = says tag NotOffered d

-- What a command leaves that found no memory. A SELECT or EXAMINE leaves no mailbox selected, as one that is refused does: so no
-- command behind it is taken to be of the mailbox before (RFC 3501, 6.3.1). Any other leaves all as it was.
abbrev pub without_memory : ImapWhat → Dialog → Dialog
without_memory what.Capability d = d
without_memory what.Noop d = d
without_memory what.Logout d = d
without_memory (what.Login user password) d = d
without_memory (what.Select mailbox) d = unselected d
without_memory (what.Examine mailbox) d = unselected d
without_memory (what.Create mailbox) d = d
without_memory (what.Delete mailbox) d = d
without_memory (what.Rename mailbox target) d = d
without_memory (what.Subscribe mailbox) d = d
without_memory (what.Unsubscribe mailbox) d = d
without_memory (what.List reference pattern) d = d
without_memory (what.Lsub reference pattern) d = d
without_memory (what.Status mailbox asked) d = d
without_memory (what.Append mailbox flags moment text) d = d
without_memory what.Check d = d
without_memory what.Close d = d
without_memory what.Expunge d = d
without_memory (what.Fetch set asked by_uid) d = d
without_memory (what.Store set how silent flags by_uid) d = d
without_memory (what.Copy set target by_uid) d = d
without_memory (what.Search charset key by_uid) d = d
without_memory what.Authenticate d = d

-- one command; `sizes` has the lengths of texts, and `deep` tells whether names may have superiors
abbrev pub turn : House → MailStore → (Body → Option ℕ) → Bool → Dialog → ImapCommand → Took
turn house s sizes deep d command = obey house s sizes deep command.tag d command.what

abbrev pub hears_reading : House → MailStore → (Body → Option ℕ) → Bool → Dialog → Reading → Took
hears_reading house s sizes deep d (Ok command) = turn house s sizes deep d command
hears_reading house s sizes deep d (Err unread) = took (Say (unread_text unread)) d

-- one command of a stream, by its lines and literals
abbrev pub hears : House → MailStore → (Body → Option ℕ) → Bool → Dialog → RawCommand → Took
hears house s sizes deep d raw = hears_reading house s sizes deep d (command_of raw)

-- ---- what was awaited

-- the texts are still awaited
abbrev pub awaiting_texts : List ℕ → Wanted → Dialog → Dialog
awaiting_texts tag w d = record d { awaits = Texts tag w }

-- why texts can't be had
abbrev pub fault_answer : ReadFault → Answer
fault_answer read_fault.Disk = DiskFault
fault_answer read_fault.NoMemory = Refused NoMemory

-- what is asked of the store with the texts that were needed, and what is to be told then
abbrev pub wanted_ask : Wanted → List (List ℕ) → Ask
wanted_ask (wanted.Fetch f) texts = ask_of f
wanted_ask (wanted.Search q) texts = search_ask q texts

abbrev pub wanted_pending : Wanted → List (List ℕ) → Pending
wanted_pending (wanted.Fetch f) texts = on.Fetch f.form f.rows texts
wanted_pending (wanted.Search q) texts = search_pending q texts

abbrev pub heard_in : Dialog → Awaits → Result (List (List ℕ)) ReadFault → Took
heard_in d Nothing texts = took (Say []) d
heard_in d (Texts tag w) (Ok texts) = asks (wanted_ask w texts) tag (wanted_pending w texts) d
heard_in d (Texts tag w) (Err why) = says tag (fault_answer why) (at_rest d)
heard_in d (Outcome tag pending) texts = took (Say []) d

-- the texts that a FETCH or a SEARCH needs, in order, or why they can't be had
abbrev pub heard : Dialog → Result (List (List ℕ)) ReadFault → Took
heard d texts = heard_in d d.awaits texts

-- a mailbox is selected, and tells of itself
abbrev pub selects : MailStore → List (BoxId × ℕ) → List ℕ → Dialog → List ℕ → Bool → Took
selects s stamps tag d mailbox writes =
    tells (select_lines (facts_at s stamps d.user mailbox) writes) tag (Opened writes)
    (record d { selected = Some (record { mailbox = mailbox; view = view_of (mail_of s d.user mailbox); writes = writes }) })

-- the selected mailbox is no more: the user has none of its name
abbrev pub is_lost : MailStore → Option User → Option Selected → Bool
is_lost s user None = false
is_lost s user (Some selected) = not (is_there s user selected.mailbox)

-- a mailbox stays selected, unless its name was taken away
abbrev pub still_selected : MailStore → Option User → Option Selected → Option Selected
still_selected s user selected = if is_lost s user selected then None else selected

-- the names that a LIST was shown
abbrev pub names_in : Shown → List (List ℕ)
names_in (Names names) = names
names_in _ = []

-- what was asked is done; the store is the one after it
abbrev pub done : MailStore → List (BoxId × ℕ) → List ℕ → Dialog → Item → Pending → Took
done s stamps tag d item (on.Select mailbox writes) = selects s stamps tag d mailbox writes
done s stamps tag d item (on.Fetch form rows texts) = tells (fetch_lines form rows texts) tag (Done (fetch_word form.by_uid)) d
done s stamps tag d item (on.Search by_uid numbers) = tells (search_line numbers) tag (Done (search_word by_uid)) d
done s stamps tag d item (on.Store form silent rows) = tells (if silent then [] else store_lines form rows) tag (Done (store_word form.by_uid)) d
done s stamps tag d item (on.Plain w) = says tag (Done w) d
done s stamps tag d item (on.Leave w) = says tag (Done w) (record d { selected = still_selected s d.user d.selected })
done s stamps tag d item on.Close = says tag (Done word.Close) (unselected d)
done s stamps tag d item (on.List subscribed deep) = tells (list_lines (word_text (list_word subscribed)) (names_in item.shown) deep) tag (Done (list_word subscribed)) d
done s stamps tag d item (on.Status mailbox asked) = tells (status_line mailbox asked (facts_at s stamps d.user mailbox)) tag (Done word.Status) d
done s stamps tag d item (on.Follow w) = follow s tag w d d.selected

-- a mailbox that can't be selected leaves none selected (RFC 3501, 6.3.1)
abbrev pub selected_after : Pending → Option Selected → Option Selected
selected_after (on.Select mailbox writes) selected = None
selected_after (on.Fetch form rows texts) selected = selected
selected_after (on.Search by_uid numbers) selected = selected
selected_after (on.Store form silent rows) selected = selected
selected_after (on.Plain w) selected = selected
selected_after (on.Leave w) selected = selected
selected_after on.Close selected = selected
selected_after (on.List subscribed deep) selected = selected
selected_after (on.Status mailbox asked) selected = selected
selected_after (on.Follow w) selected = selected

-- it is not done
abbrev pub undone : List ℕ → Dialog → Pending → SubmitFault → Took
undone tag d pending (WasRefused why) = says tag (Refused why) (record d { selected = selected_after pending d.selected })
undone tag d pending Disk = took (Bye fault_text) d
undone tag d pending Closed = took (Bye fault_text) d

abbrev pub settle_pending : MailStore → List (BoxId × ℕ) → List ℕ → Dialog → Pending → Result Item SubmitFault → Took
settle_pending s stamps tag d pending (Ok item) = done s stamps tag d item pending
settle_pending s stamps tag d pending (Err fault) = undone tag d pending fault

abbrev pub settle_in : MailStore → List (BoxId × ℕ) → Dialog → Awaits → Result Item SubmitFault → Took
settle_in s stamps d Nothing outcome = took (Say []) d
settle_in s stamps d (Texts tag f) outcome = took (Say []) d
settle_in s stamps d (Outcome tag pending) outcome = settle_pending s stamps tag (at_rest d) pending outcome

-- the outcome of what was asked, with the store and the stamps after it
abbrev pub settle : MailStore → List (BoxId × ℕ) → Dialog → Result Item SubmitFault → Took
settle s stamps d outcome = settle_in s stamps d d.awaits outcome

-- ---- what is known of a dialog

abbrev pub is_rest : Awaits → Bool
is_rest Nothing = true
is_rest (Texts tag f) = false
is_rest (Outcome tag pending) = false

abbrev pub is_texts : Awaits → Bool
is_texts Nothing = false
is_texts (Texts tag f) = true
is_texts (Outcome tag pending) = false

abbrev pub is_outcome : Awaits → Bool
is_outcome Nothing = false
is_outcome (Texts tag f) = false
is_outcome (Outcome tag pending) = true

-- nothing is awaited
abbrev pub is_free : Dialog → Bool
is_free d = is_rest d.awaits

-- texts are awaited
abbrev pub is_reading : Dialog → Bool
is_reading d = is_texts d.awaits

-- the outcome of what was asked is awaited
abbrev pub is_due : Dialog → Bool
is_due d = is_outcome d.awaits

-- the view of the selected mailbox, if there is one, is of exactly what lies in it
abbrev pub is_shown : MailStore → Option User → Option Selected → Bool
is_shown s user None = true
is_shown s user (Some selected) = is_current (mail_of s user selected.mailbox) selected.view

abbrev pub is_view_current : MailStore → Dialog → Bool
is_view_current s d = is_shown s d.user d.selected

-- it says something, and neither reads nor asks, nor closes the connection
abbrev pub is_said : ImapOut → Bool
is_said (Say text) = true
is_said (Read bodies) = false
is_said (Submit asked) = false
is_said (Bye text) = false

-- the command tells the view of what lies in its mailbox, and the view follows
abbrev pub follows_view : ImapWhat → Bool
follows_view what.Capability = false
follows_view what.Noop = true
follows_view what.Logout = false
follows_view (what.Login user password) = false
follows_view (what.Select mailbox) = false
follows_view (what.Examine mailbox) = false
follows_view (what.Create mailbox) = false
follows_view (what.Delete mailbox) = false
follows_view (what.Rename mailbox target) = false
follows_view (what.Subscribe mailbox) = false
follows_view (what.Unsubscribe mailbox) = false
follows_view (what.List reference pattern) = false
follows_view (what.Lsub reference pattern) = false
follows_view (what.Status mailbox asked) = false
follows_view (what.Append mailbox flags moment text) = false
follows_view what.Check = true
follows_view what.Close = false
follows_view what.Expunge = false
follows_view (what.Fetch set asked by_uid) = false
follows_view (what.Store set how silent flags by_uid) = false
follows_view (what.Copy set target by_uid) = false
follows_view (what.Search charset key by_uid) = false
follows_view what.Authenticate = false

-- the view is known to be current behind a command: it only said something, and the view was known to be current before, or followed
abbrev pub stays_current : Bool → ImapWhat → ImapOut → Bool
stays_current current asked out = is_said out && (current || follows_view asked)

-- the mailbox is selected, by its user
abbrev pub holds : Dialog → User → List ℕ → Bool
holds d u name = unwrap_or (option_map (λ own. same_user own u) d.user) false && unwrap_or (option_map (λ (selected : Selected). bytes_eq selected.mailbox name) d.selected) false

-- who is logged in is a user of the house
abbrev pub is_at_home : House → Dialog → Bool
is_at_home house d = unwrap_or (option_map (is_known house) d.user) true

-- which call is due after what comes of a command
abbrev pub IsNext : ImapOut → Dialog → Type 0
IsNext (Say text) d = is_free d ≡ true
IsNext (Read bodies) d = is_reading d ≡ true
IsNext (Submit asked) d = is_due d ≡ true
IsNext (Bye text) d = is_free d ≡ true

-- the bodies of all messages of a store pass a test
abbrev pub holds_all : (Body → Bool) → List (BoxId × Mailbox) → Bool
holds_all test boxes = list_all (λ (r : BoxId × Mailbox). list_all (λ (e : Entry). test e.body) r.1.entries) boxes

-- what is to be read are texts of messages of the store: whatever all of these pass, they pass
abbrev pub ReadsOf : MailStore → ImapOut → Type 0
ReadsOf s (Read bodies) = (test : Body → Bool) → holds_all test s.boxes ≡ true → list_all test bodies ≡ true
ReadsOf s (Say text) = Unit {0}
ReadsOf s (Submit asked) = Unit {0}
ReadsOf s (Bye text) = Unit {0}

-- what is asked is asked by a user
abbrev pub AsksAsUser : ImapOut → Dialog → Type 0
AsksAsUser (Submit asked) d = (is_users asked ≡ true) × (is_some d.user ≡ true)
AsksAsUser (Say text) d = Unit {0}
AsksAsUser (Read bodies) d = Unit {0}
AsksAsUser (Bye text) d = Unit {0}
