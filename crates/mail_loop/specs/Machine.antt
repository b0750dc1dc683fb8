-- The machine: what an event does to the state, and what the link does for it.
use Rattle.std.specs.Prelude.{ℕ, ◌==◌, ◌&&◌, filter_map, Bool, true, false, not, min, List, [], ◌∷◌, ◌++◌, is_none, option_map, nat_le, nat_lt, if◌then◌else◌, Option, None, Some}
use Rattle.std.specs.Ordering.{nat_cmp}
use Rattle.std.specs.Map.{lookup, set_value}
use Rattle.std.specs.BTreeMap.{insert_entry, is_at}
use Rattle.undo_base.specs.declared.limits.TheConstants.{LAST_MOMENT}
use Rattle.verb_core.specs.Names.{is_empty}
use Rattle.undo_outside.specs.declared.event.Event.{Event}
use Rattle.undo_outside.specs.declared.event.What.{What}
use Rattle.undo_outside.specs.declared.event.What.TheVariants.{Joined, Bytes, Left, Idle as NoEvent, End}
use Rattle.undo_outside.specs.declared.event.Role.{Role}
use Rattle.undo_outside.specs.declared.event.LinkNote.{LinkNote}
use Rattle.undo_outside.specs.declared.event.LinkNote.TheVariants.{Sent, Missed, Closed}
use Rattle.verb_bytes.specs.declared.journal.JournalRecord.{JournalRecord}
use Rattle.store_kept.specs.Kept.{snapshotted}
use Rattle.mail_loop.specs.TurnCounts.{TurnCounts, both_counted, none_counted, wanting}
use Rattle.desk_journal.specs.Records.{snapshot_record}
use Rattle.console_head.specs.Request.{Stage}
use Rattle.mail_loop.specs.declared.aftermath.Aftermath.{Aftermath}
use Rattle.mail_loop.specs.declared.aftermath.Aftermath.TheVariants.{Quiet}
use Rattle.mail_loop.specs.State.{Seat, Seats, State, without_seat}
use Rattle.mail_loop.specs.Roles.{row_of}
use Rattle.mail_loop.specs.Afterwards.{last_words}
use Rattle.mail_loop.specs.Hindrance.{Hindrance}
use Rattle.mail_loop.specs.ConsoleTurn.{Consoles, no_consoles}
use Rattle.mail_loop.specs.Turns.{Heard, hears_seat}

-- How the string for a connection may go.
pub data Delivery : Type 0 where
  Arrives : Delivery
  -- the link missed it
  IsMissed : Delivery
  -- no memory was found for it
  IsLeftOut : Delivery

-- How the snapshot goes that is due after an event's strings.
pub data Keeping : Type 0 where
  IsKept : Keeping
  -- no memory was found for it, and it is left out
  IsPassed : Keeping
  -- it could not be sealed, and serving ends
  IsUnkept : Keeping
  -- a write of it found no memory, as the disk says, and it is left out
  IsOutOfMemory : Keeping

-- What hinders an event: no memory for its bytes or its greeting, what hinders its turns, how each string goes, and how the snapshot that is due. And
-- what a console's bytes are read as.
pub record Hindrances : Type 0 where
  pub unfed : Bool
  pub turns : List Hindrance
  pub stage : Stage
  pub deliveries : List Delivery
  pub keeping : Keeping

-- the seat of a connection, where it is open
abbrev pub seat_at : ℕ → Seats → Option Seat
seat_at conn seats = lookup (is_at (nat_cmp conn)) seats

-- a connection is opened
abbrev pub with_new_seat : ℕ → Seat → Seats → Seats
with_new_seat conn seat seats = insert_entry nat_cmp seats conn seat

-- an open connection as it is now
abbrev pub with_seat : ℕ → Seat → Seats → Seats
with_seat conn seat seats = set_value (is_at (nat_cmp conn)) seats seat

-- What a connection is told at the end of an event, and whether it is closed then.
pub record Reply : Type 0 where
  pub conn : ℕ
  pub said : List ℕ
  pub closes : Bool

-- What an event leaves before its strings are sent: the state, the replies by rising connection, the record whose sealing failed, where one did,
-- and what came of consoles. And how many turns could not read a text or were given another, or found no memory in a write.
pub record Answered : Type 0 where
  pub state : State
  pub replies : List Reply
  pub unsealed : List JournalRecord
  pub counts : TurnCounts
  pub consoles : Consoles

abbrev pub ignored : State → Answered
ignored s = record { state = s; replies = []; unsealed = []; counts = none_counted; consoles = no_consoles }

-- a reply in its place among others, by connection
abbrev pub with_reply : Reply → List Reply → List Reply
with_reply r [] = r ∷ []
with_reply r (q ∷ qs) = if nat_lt r.conn q.conn then r ∷ q ∷ qs else q ∷ with_reply r qs

-- a connection's last words, behind which it is closed
abbrev pub parting : ℕ → List ℕ → Reply
parting conn said = record { conn = conn; said = said; closes = true }

-- what another connection is told of what follows, and whether it is told
abbrev pub told_other : ℕ → Aftermath → ℕ × Seat → Option Reply
told_other conn aftermath e = if e.0 == conn then None else option_map (parting e.0) (last_words aftermath e.1)

-- the other connections that are told of what follows, and closed
abbrev pub told_others : ℕ → Aftermath → Seats → List Reply
told_others conn aftermath seats = filter_map (told_other conn aftermath) seats

-- a connection's seat after its turns, or none where it is to be closed
abbrev pub seated : ℕ → Option Seat → Seats → Seats
seated conn None seats = without_seat conn seats
seated conn (Some seat) seats = with_seat conn seat seats

-- a connection has its turns' answers, and others are told of what follows; the replies stand by rising connection
abbrev pub heard : ℕ → Heard → Answered
heard conn h =
    let seats = seated conn h.seat h.state.seats in
    record {
      state = record { kept = h.state.kept; seats = seats };
      replies = with_reply (record { conn = conn; said = h.said; closes = is_none h.seat }) (told_others conn h.aftermath seats);
      unsealed = h.unsealed;
      counts = h.counts;
      consoles = h.consoles;
    }

-- no memory was found for the bytes that came: the connection is closed without an answer
abbrev pub unfed : ℕ → State → Answered
unfed conn s = heard conn (record { said = []; state = s; seat = None; aftermath = Quiet; unsealed = []; counts = none_counted; consoles = no_consoles })

-- this is heard of a connection's bytes, where they found memory
abbrev pub heard_if_fed : Bool → ℕ → State → Heard → Answered
heard_if_fed true conn s h = unfed conn s
heard_if_fed false conn s h = heard conn h

-- bytes come over an open connection, and find memory or none
abbrev pub hears : Bool → List Hindrance → Stage → ℕ → State → ℕ → Seat → List ℕ → Answered
hears no_memory hs stage at s conn seat bytes = heard_if_fed no_memory conn s (hears_seat hs stage at s conn seat bytes)

-- bytes for a connection that is not open are ignored
abbrev pub hears_at : Option Seat → Bool → List Hindrance → Stage → ℕ → State → ℕ → List ℕ → Answered
hears_at None no_memory hs stage at s conn bytes = ignored s
hears_at (Some seat) no_memory hs stage at s conn bytes = hears no_memory hs stage at s conn seat bytes

-- a connection is opened, and its client is greeted
abbrev pub greeted : State → ℕ → Seat → List ℕ → Answered
greeted s conn seat greeting = record {
  state = record { kept = s.kept; seats = with_new_seat conn seat s.seats };
  replies = record { conn = conn; said = greeting; closes = false } ∷ [];
  unsealed = [];
  counts = none_counted;
  consoles = no_consoles;
}

-- a connection is opened, and nothing is said
abbrev pub opened : State → ℕ → Seat → Answered
opened s conn seat = record { state = record { kept = s.kept; seats = with_new_seat conn seat s.seats }; replies = []; unsealed = []; counts = none_counted; consoles = no_consoles }

-- no memory is found for a greeting: it is left out, and the connection is closed
abbrev pub ungreeted : State → ℕ → Answered
ungreeted s conn = record { state = s; replies = record { conn = conn; said = []; closes = true } ∷ []; unsealed = []; counts = none_counted; consoles = no_consoles }

-- a connection is opened, and its client is greeted where its role has a greeting and memory is found for that
abbrev pub admitted : Bool → State → ℕ → Seat → Option (List ℕ) → Answered
admitted no_memory s conn seat None = opened s conn seat
admitted no_memory s conn seat (Some greeting) = if no_memory then ungreeted s conn else greeted s conn seat greeting

abbrev pub admits : Bool → Role → State → ℕ → Answered
admits no_memory role s conn = admitted no_memory s conn (row_of role).fresh ((row_of role).greeting s.kept.house)

-- a client joins; on a connection that is open this is ignored
abbrev pub joins : Option Seat → Bool → Role → State → ℕ → Answered
joins None no_memory role s conn = admits no_memory role s conn
joins (Some seat) no_memory role s conn = ignored s

-- what happens on a connection at a moment
abbrev pub answers : What → Bool → List Hindrance → Stage → ℕ → State → ℕ → Answered
answers (Joined role) no_memory hs stage at s conn = joins (seat_at conn s.seats) no_memory role s conn
answers (Bytes bytes) no_memory hs stage at s conn = hears_at (seat_at conn s.seats) no_memory hs stage at s conn bytes
answers Left no_memory hs stage at s conn = ignored (record { kept = s.kept; seats = without_seat conn s.seats })
answers NoEvent no_memory hs stage at s conn = ignored s
answers End no_memory hs stage at s conn = ignored s

-- what an event leaves before its strings are sent; a moment past the year 9999 is taken as its last
abbrev pub answered : Bool → List Hindrance → Stage → State → Event → Answered
answered no_memory hs stage s event = answers event.what no_memory hs stage (min event.at LAST_MOMENT) s event.conn

-- what the link does with a string: nothing where there is nothing to say
abbrev pub string_notes : Delivery → ℕ → List ℕ → List LinkNote
string_notes delivery conn [] = []
string_notes Arrives conn (b ∷ bytes) = Sent conn (b ∷ bytes) ∷ []
string_notes IsMissed conn (b ∷ bytes) = Missed conn (b ∷ bytes) ∷ []
string_notes IsLeftOut conn (b ∷ bytes) = []

-- whether a connection stays open: where its string arrives, or it has none, and it is not to be closed
abbrev pub remains : Delivery → List ℕ → Bool → Bool
remains delivery [] closes = not closes
remains Arrives (b ∷ bytes) closes = not closes
remains IsMissed (b ∷ bytes) closes = false
remains IsLeftOut (b ∷ bytes) closes = false

abbrev pub close_notes : ℕ → Bool → List LinkNote
close_notes conn stays = if stays then [] else Closed conn ∷ []

-- what the link does for a reply: its string, and then its close
abbrev pub reply_notes : Delivery → Reply → List LinkNote
reply_notes delivery r = string_notes delivery r.conn r.said ++ close_notes r.conn (remains delivery r.said r.closes)

-- the open connections after a reply
abbrev pub after_reply : Bool → ℕ → Seats → Seats
after_reply stays conn seats = if stays then seats else without_seat conn seats

abbrev pub first_delivery : List Delivery → Delivery
first_delivery [] = Arrives
first_delivery (d ∷ ds) = d

abbrev pub other_deliveries : List Delivery → List Delivery
other_deliveries [] = []
other_deliveries (d ∷ ds) = ds

-- what replies leave: the open connections, and what the link did
pub record Delivered : Type 0 where
  pub seats : Seats
  pub notes : List LinkNote

-- replies go out, one after the other, each as its delivery says
abbrev pub delivered : List Delivery → Seats → List Reply → Delivered
delivered ds seats [] = record { seats = seats; notes = [] }
delivered ds seats (r ∷ rs) =
    let d = first_delivery ds in
    let more = delivered (other_deliveries ds) (after_reply (remains d r.said r.closes) r.conn seats) rs in
    record { seats = more.seats; notes = reply_notes d r ++ more.notes }

-- What an event leaves: the state, what the link did for it, the record whose sealing failed, where one did, and what came of consoles. And
-- how many turns could not read a text or were given another, and how many writes found no memory.
pub record Outcome : Type 0 where
  pub state : State
  pub notes : List LinkNote
  pub unsealed : List JournalRecord
  pub counts : TurnCounts
  pub consoles : Consoles

abbrev pub outcome : Answered → Delivered → Outcome
outcome a d = record { state = record { kept = a.state.kept; seats = d.seats }; notes = d.notes; unsealed = a.unsealed; counts = a.counts; consoles = a.consoles }

-- the end of the events
abbrev pub is_end : What → Bool
is_end End = true
is_end (Joined role) = false
is_end (Bytes bytes) = false
is_end Left = false
is_end NoEvent = false

-- A snapshot is due after the strings of each event, the end too, where at least so many items entered the timeline since the last one, and
-- nothing was left unsealed.
abbrev pub is_snapshot_due : Outcome → Bool
is_snapshot_due o = is_empty o.unsealed && nat_le 1024 o.state.kept.marks.since

-- how many writes of a snapshot that is due found no memory
abbrev pub unwritten_by : Keeping → ℕ
unwritten_by IsKept = 0
unwritten_by IsPassed = 0
unwritten_by IsUnkept = 0
unwritten_by IsOutOfMemory = 1

-- the snapshot that is due is taken, left out, or could not be sealed
abbrev pub with_snapshot : Keeping → Outcome → Outcome
with_snapshot IsKept o = if is_snapshot_due o then record o { state = record { kept = snapshotted o.state.kept; seats = o.state.seats } } else o
with_snapshot IsPassed o = o
with_snapshot IsUnkept o = if is_snapshot_due o then record o { unsealed = snapshot_record o.state.kept ∷ [] } else o
with_snapshot IsOutOfMemory o = if is_snapshot_due o then record o { counts = both_counted o.counts (wanting 1) } else o

-- an event: its turns, its strings, and then the snapshot that is due
abbrev pub happens : Hindrances → State → Event → Outcome
happens h s event =
    let a = answered h.unfed h.turns h.stage s event in
    with_snapshot h.keeping (outcome a (delivered h.deliveries a.state.seats a.replies))
