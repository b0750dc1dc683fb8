-- What the code's answers and replies are in the machine.
use Rattle.std.specs.Prelude.{◌≡◌, ◌⊎◌, ℕ, Bool, true, false, is_some, bytes_eq, ◌||◌, if◌then◌else◌, List, [], ◌∷◌, ◌++◌, map, filter, Option, None, Some, MatchOption, Result, Ok, Err, IsTrue}
use Rattle.std.specs.List.{list_all}
use Rattle.undo_base.specs.declared.keys.User.{User}
use Rattle.seal_log.specs.declared.fault.ReadFault.{ReadFault}
use Rattle.seal_log.specs.declared.fault.ReadFault.TheVariants.{Disk as NotRead, NoMemory as NoneForTexts}
use Rattle.console_session.specs.declared.reply.Reply.{Reply as ConsoleReply}
use Rattle.mail_loop.specs.declared.out.Out.{Out}
use Rattle.mail_loop.specs.declared.out.Out.TheVariants.{Say, Read, Submit, Bye}
use Rattle.mail_loop.specs.declared.reply.Reply.{Reply}
use Rattle.mail_loop.specs.declared.reply.Turned.{Turned}
use Rattle.verb_core.specs.declared.ask.Ask.{Ask}
use Rattle.verb_core.specs.declared.ask.Ask.TheVariants as asks
use Rattle.verb_core.specs.declared.ask.Refused.{Refused}
use Rattle.verb_core.specs.declared.ask.Refused.TheVariants.{NoMemory}
use Rattle.verb_core.specs.declared.ask.SubmitFault.{SubmitFault}
use Rattle.verb_core.specs.declared.ask.SubmitFault.TheVariants.{Refused as IsRefused, Disk, Closed}
use Rattle.verb_core.specs.declared.item.Item.{Item}
use Rattle.verb_core.specs.declared.mailbox.BoxId.{BoxId}
use Rattle.verb_core.specs.Boxes.{box_of, is_at_or_below}
use Rattle.verb_core.specs.Live.{is_users, live}
use Rattle.verb_core.specs.Names.{inbox, is_empty}
use Rattle.verb_core.specs.Store.{MailStore}
use Rattle.box_store.specs.Refusing.{IsRefusal}
use Rattle.store_kept.specs.Kept.{Kept, store_of}
use Rattle.store_kept.specs.Texts.{has_text_kept}
use Rattle.mail_desk.specs.Desk.{submitted}
use Rattle.verb_bytes.specs.declared.journal.JournalRecord.{JournalRecord}
use Rattle.verb_bytes.specs.declared.journal.JournalRecord.TheVariants.{Verb}
use Rattle.desk_journal.specs.Reading.{Reads, failed_once, none_read}
use Rattle.mail_loop.specs.TurnCounts.{TurnCounts, none_counted, wanting}
use Rattle.mail_loop.specs.State.{Seat, Seats}
use Rattle.mail_loop.specs.Afterwards.{taking}
use Rattle.mail_loop.specs.Asked.{asked_as}
use Rattle.mail_loop.specs.Turn.{Turn, lost}
use Rattle.mail_loop.specs.Session.{Speech, Took, is_answer, settled, settled_as, submits, took}
use Rattle.mail_loop.specs.Hindrance.{Hindrance, Service, under}
use Rattle.mail_loop.specs.ConsoleTurn.{ConsoleReading, no_consoles, sequel_of}
use Rattle.mail_loop.specs.Turns.{Heard, Source}
use Rattle.mail_loop.specs.Machine.{Answered as AnsweredEvent, seated, told_others, with_reply}
use Rattle.mail_loop.specs.Stands.{reply_of}

-- ---- what a session gives

-- which call is due then
abbrev pub IsNext : {D : Type 0} → Speech D → Out → D → Type 0
IsNext speech (Say said) d = speech.is_free d ≡ true
IsNext speech (Read bodies) d = speech.takes_texts d ≡ true
IsNext speech (Submit asked) d = speech.is_due d ≡ true
IsNext speech (Bye said) d = speech.is_free d ≡ true

-- a user's ask is asked by who is logged in, and any other by nobody
abbrev pub AsksAs : {D : Type 0} → Speech D → Out → D → Type 0
AsksAs speech (Say said) d = Unit {0}
AsksAs speech (Read bodies) d = Unit {0}
AsksAs speech (Submit asked) d = is_users asked ≡ is_some (speech.user d)
AsksAs speech (Bye said) d = Unit {0}

-- the items in force have the texts that are wanted
abbrev pub AreThere : Kept → Out → Type 0
AreThere kept (Say said) = Unit {0}
AreThere kept (Read bodies) = IsTrue (list_all (has_text_kept kept) bodies)
AreThere kept (Submit asked) = Unit {0}
AreThere kept (Bye said) = Unit {0}

-- what is awaited once no texts are wanted any more
abbrev pub IsAwaitedLast : {D : Type 0} → Speech D → Out → D → Type 0
IsAwaitedLast speech (Say said) d = speech.is_free d ≡ true
IsAwaitedLast speech (Read bodies) d = ⊥
IsAwaitedLast speech (Submit asked) d = speech.is_due d ≡ true
IsAwaitedLast speech (Bye said) d = speech.is_free d ≡ true

-- something is said, and no more
abbrev pub IsOnlySaid : {D : Type 0} → Speech D → Out → D → Type 0
IsOnlySaid speech (Say said) d = speech.is_free d ≡ true
IsOnlySaid speech (Read bodies) d = ⊥
IsOnlySaid speech (Submit asked) d = ⊥
IsOnlySaid speech (Bye said) d = ⊥

-- with its texts a session wants none again, and without them it says something
abbrev pub GoesOn : {D : Type 0} → Speech D → Result (List (List ℕ)) ReadFault → Out → D → Type 0
GoesOn speech (Ok texts) out d = IsAwaitedLast speech out d
GoesOn speech (Err why) out d = IsOnlySaid speech out d

-- ---- what is told

-- A string is added, whole, and the connection closes after the last one; or no memory is found for it, and the connection closes.
abbrev pub Adds : List ℕ → Bool → Reply → Reply → Type 0
Adds said last old new =
    ((new ≡ record old { said = old.said ++ said; closes = last }) ⊎ (new ≡ record old { closes = true }))

-- what is said is in the reply, or no memory was found for it
abbrev pub IsTold : Out → Reply → Reply → Type 0
IsTold (Say said) old new = Adds said false old new
IsTold (Bye said) old new = Adds said true old new
IsTold (Read bodies) old new = new ≡ old
IsTold (Submit asked) old new = new ≡ old

-- no sealing failed, nothing was read, and each write found memory
abbrev pub IsNone : List JournalRecord → TurnCounts → Type 0
IsNone failed counts = (failed ≡ []) × (counts ≡ none_counted)

-- A turn is in the reply, and S holds of the record whose sealing failed in it, and of what was counted in it. Where the connection stays open no
-- sealing failed.
pub record Takes {D : Type 0} (S : List JournalRecord → TurnCounts → Type 0) (t : Turn D) (old : Reply) (kept : Kept) (d : D) (new : Reply) : Type 0 where
  pub conn : new.conn ≡ old.conn
  pub said : new.said ≡ old.said ++ t.said
  pub kept_is : kept ≡ t.kept
  pub dialog_is : MatchOption t.dialog (new.closes ≡ true) (λ e. (d ≡ e) × (new.closes ≡ false) × (t.unsealed ≡ []))
  pub gone : new.gone ≡ old.gone ++ t.gone
  pub seals : S t.unsealed t.counts

-- whether an ask was refused
abbrev pub is_refused : Result Item SubmitFault → Bool
is_refused (Ok item) = false
is_refused (Err (IsRefused why)) = true
is_refused (Err Disk) = false
is_refused (Err Closed) = false

-- a refused ask made no write; or the last one that was made for it found no memory, and that is why
abbrev pub Wrote : (List JournalRecord → TurnCounts → Type 0) → Refused → Type 0
Wrote S why = S [] none_counted ⊎ ((why ≡ NoMemory) × S [] (wanting 1))

-- What the desk did of an ask: S holds of the record whose sealing failed, and of the writes that found no memory; nothing was read. A desk that is open
-- doesn't answer that it is closed.
abbrev pub Submits : (List JournalRecord → TurnCounts → Type 0) → ℕ → Kept → Option User → Ask → Kept → Result Item SubmitFault → Type 0
Submits S at kept by ask kept' (Ok item) = (submitted kept at by ask ≡ record { outcome = Ok item; kept = kept' }) × S [] none_counted
Submits S at kept by ask kept' (Err (IsRefused why)) = IsRefusal why (live (store_of kept) kept.next at by ask kept.deep) × (kept' ≡ kept) × Wrote S why
Submits S at kept by ask kept' (Err Disk) = (item : Item) × (live (store_of kept) kept.next at by ask kept.deep ≡ Ok item) × (kept' ≡ kept) × S (Verb item ∷ []) none_counted
Submits S at kept by ask kept' (Err Closed) = ⊥

-- the connection closes with no answer, or an ask that was refused is settled as one for which no memory was found
abbrev pub SettlesAgain : {D : Type 0} → Speech D → Bool → Kept → D → Reply → D → Reply → Type 0
SettlesAgain speech was_refused kept d old d' new =
    Takes IsNone (lost kept) old kept d' new
    ⊎ ((was_refused ≡ true) × Takes IsNone (settled speech d (asked_as (Err (IsRefused NoMemory)) kept)) old kept d' new)

-- the dialog is told what became of its ask, and answers, or is told that in its place
abbrev pub Settles : {D : Type 0} → Speech D → Result Item SubmitFault → Kept → D → Reply → D → Reply → Type 0
Settles speech outcome kept d old d' new =
    ((is_answer (speech.settle (store_of kept) kept.stamps d outcome).out ≡ true) × Takes IsNone (settled speech d (asked_as outcome kept)) old kept d' new)
    ⊎ SettlesAgain speech (is_refused outcome) kept d old d' new

-- or it asks this further, and nothing is told
abbrev pub SettlesOrAsks : {D : Type 0} → Speech D → Result Item SubmitFault → Kept → D → Reply → D → Reply → Option Ask → Type 0
SettlesOrAsks speech outcome kept d old d' new None = Settles speech outcome kept d old d' new
SettlesOrAsks speech outcome kept d old d' new (Some asked) = (speech.settle (store_of kept) kept.stamps d outcome ≡ took (Submit asked) d') × (new ≡ old)

-- which call is due then
abbrev pub IsDueNext : {D : Type 0} → Speech D → D → Option Ask → Type 0
IsDueNext speech d None = speech.is_free d ≡ true
IsDueNext speech d (Some asked) = (speech.is_due d ≡ true) × (is_users asked ≡ is_some (speech.user d))

-- whatever its outcome is, what is awaited leads to no further ask
abbrev pub IsLast : {D : Type 0} → Speech D → D → Type 0
IsLast speech d = (s : MailStore) (stamps : List (BoxId × ℕ)) (outcome : Result Item SubmitFault) → is_answer (speech.settle s stamps d outcome).out ≡ true

-- what is asked
abbrev pub asked_in : Out → Option Ask
asked_in (Say said) = None
asked_in (Read bodies) = None
asked_in (Submit asked) = Some asked
asked_in (Bye said) = None

-- The mailboxes that a user's ask takes away where it is done, of those that there are. That is the one that is deleted, or that is renamed
-- with its inferiors; that of INBOX is there again.
abbrev pub taken_of : User → Ask → List BoxId → List BoxId
taken_of u (asks.Rename mailbox target) boxes = if bytes_eq mailbox inbox || is_empty target then [] else filter (is_at_or_below u mailbox) boxes
taken_of u (asks.Delete mailbox) boxes = box_of u mailbox ∷ []
taken_of u _ boxes = []

abbrev pub taken_by : Option User → Ask → List BoxId → List BoxId
taken_by None asked boxes = []
taken_by (Some user) asked boxes = taken_of user asked boxes

-- the mailboxes that there are
abbrev pub all_boxes : Kept → List BoxId
all_boxes kept = map (λ r. r.0) (store_of kept).boxes

-- ---- texts

-- the dialog is told why its texts were not read, and what it says of that is in the reply
abbrev pub IsToldWhy : {D : Type 0} → Speech D → ReadFault → Kept → D → Reply → D → Reply → Type 0
IsToldWhy speech why kept d old d' new = Takes IsNone (let t = speech.heard d (Err why) in settled_as t.out kept t.dialog) old kept d' new

-- the dialog is told that no memory was found for its texts, or the connection closes with no answer
abbrev pub ReadsOutOfMemory : {D : Type 0} → Speech D → Kept → D → Reply → D → Reply → Type 0
ReadsOutOfMemory speech kept d old d' new = IsToldWhy speech NoneForTexts kept d old d' new ⊎ Takes IsNone (lost kept) old kept d' new

-- the dialog is told why its texts were not read, or no memory was found for that
abbrev pub ReadsNone : {D : Type 0} → Speech D → ReadFault → Kept → D → Reply → D → Reply → Type 0
ReadsNone speech why kept d old d' new = IsToldWhy speech why kept d old d' new ⊎ ReadsOutOfMemory speech kept d old d' new

-- what is counted where texts were not read
abbrev pub reads_of : ReadFault → Reads
reads_of NotRead = failed_once
reads_of NoneForTexts = none_read

-- what comes of a unit whose dialog is given these texts
abbrev pub given : {D : Type 0} → Speech D → Kept → List (List ℕ) → D → Service → Turn D
given speech kept texts d desk = let t = speech.heard d (Ok texts) in submits speech desk kept t.out t.dialog

-- the dialog was given these texts; or no memory was found for that, and nothing was done
abbrev pub TakesTexts : {D : Type 0} → Speech D → (List JournalRecord → TurnCounts → Type 0) → ℕ → Kept → List (List ℕ) → D → Reply → Kept → D → Reply → Type 0
TakesTexts speech S at kept texts d old kept' d' new =
    ((h : Hindrance) × Takes S (under h at kept (given speech kept texts d)) old kept' d' new)
    ⊎ (ReadsOutOfMemory speech kept d old d' new × (kept' ≡ kept) × S [] none_counted)

-- ---- a stream

-- nothing is served of these units: there is none, or one of which nothing comes
abbrev pub ServesNone : {D U : Type 0} → (List User → ℕ → Kept → D → U → Took D) → List U → Type 0
ServesNone takes [] = Unit {0}
ServesNone {D} takes (unit ∷ []) = (users : List User) (at : ℕ) (kept : Kept) (d : D) → takes users at kept d unit ≡ took (Say []) d
ServesNone takes (unit ∷ more ∷ units) = ⊥

-- The next unit is taken from a stream by a session that takes units so. Or none is that is to be served, and the stream is what is left of it.
abbrev pub TakesUnit : {X D U : Type 0} → Source X D U → (List User → ℕ → Kept → D → U → Took D) → X → Option U → X → Type 0
TakesUnit source takes old (Some unit) new = (source.units old ≡ unit ∷ source.units new) × (source.rest old ≡ source.rest new)
TakesUnit source takes old None new = ServesNone takes (source.units old) × (source.rest old ≡ new)

-- ---- replies and letters

-- a console's answer, and what follows it
abbrev pub turned_as : ℕ → ConsoleReply → Turned
turned_as conn r =
    let sequel = sequel_of r.after in
    record { conn = conn; said = r.said; closes = sequel.closes; stops = sequel.stops; aftermath = sequel.aftermath }

-- what is told of turns after which serving goes on, and what follows where they took mailboxes away
abbrev pub going_on_with : Reply → Turned
going_on_with reply = record { conn = reply.conn; said = reply.said; closes = reply.closes; stops = false; aftermath = taking reply.gone }

-- the seat of a connection that stays open
abbrev pub seat_left : Bool → Seat → Option Seat
seat_left true seat = None
seat_left false seat = Some seat

-- The turns of a connection's stream are in the reply, with the mailboxes that they took away. This is the record whose sealing failed, what was
-- counted in them, and its seat then.
pub record TellsTurns (h : Heard) (seats : Seats) (conn : ℕ) (reply : Reply) (kept : Kept) (failed : List JournalRecord) (counts : TurnCounts) (seat : Seat) : Type 0 where
  pub conn_is : reply.conn ≡ conn
  pub heard_is : h ≡ record { said = reply.said; state = record { kept = kept; seats = seats }; seat = seat_left reply.closes seat; aftermath = taking reply.gone; unsealed = failed; counts = counts; consoles = no_consoles }

-- a connection is told of its turns, and others of what follows
abbrev pub answered_with : ℕ → Turned → Kept → List JournalRecord → TurnCounts → List ConsoleReading → Seats → AnsweredEvent
answered_with conn turned kept failed counts readings seats = record {
  state = record { kept = kept; seats = seats };
  replies = with_reply (reply_of turned) (told_others conn turned.aftermath seats);
  unsealed = failed;
  counts = counts;
  consoles = record { readings = readings; stops = turned.stops };
}

-- the same, and its seat is now this one, or none where it is closed
abbrev pub answered_alone : ℕ → Turned → Kept → List JournalRecord → TurnCounts → List ConsoleReading → Seat → Seats → AnsweredEvent
answered_alone conn turned kept failed counts readings seat seats =
    answered_with conn turned kept failed counts readings (seated conn (seat_left turned.closes seat) seats)
