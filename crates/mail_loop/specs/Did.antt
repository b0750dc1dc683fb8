-- What calls of the serving loop do to the link, in the machine's words.
use Rattle.std.specs.Prelude.{◌≡◌, ◌⊎◌, ℕ, ◌+◌, ◌&&◌, nat_le, not, Bool, true, List, [], ◌∷◌, ◌++◌, Result, Ok, Err, MatchResult, if◌then◌else◌}
use Rattle.undo_base.specs.declared.memory.NoMemory.{NoMemory as WantOfMemory}
use Rattle.undo_outside.specs.declared.event.LinkNote.{LinkNote}
use Rattle.undo_outside.specs.declared.event.LinkNote.TheVariants.{Closed}
use Rattle.undo_outside.specs.Calls.{LinkTold, then_told}
use Rattle.undo_outside.specs.Disk.{DiskTold}
use Rattle.verb_bytes.specs.declared.journal.JournalRecord.{JournalRecord}
use Rattle.desk_journal.specs.Lasting.{Lasting}
use Rattle.desk_journal.specs.Reading.{Counted, RoseAtLeast}
use Rattle.mail_loop.specs.TurnCounts.{TurnCounts, none_counted, wanting}
use Rattle.desk_journal.specs.Records.{snapshot_record}
use Rattle.store_kept.specs.Kept.{Kept, snapshotted}
use Rattle.mail_loop.specs.Asked.{HaveSealed}
use Rattle.mail_loop.specs.ConsoleTurn.{AreSaid}
use Rattle.mail_loop.specs.State.{Seat, Seats}
use Rattle.mail_loop.specs.Machine.{Delivery, Arrives, IsMissed, IsLeftOut, Keeping, IsKept, IsPassed, IsUnkept, IsOutOfMemory, Reply, Answered, Delivered, Outcome, string_notes, reply_notes, remains, unwritten_by, with_new_seat}

-- the link did this, and gave no event
pub record Goes (old new : LinkTold) (notes : List LinkNote) : Type 0 where
  pub log : new.log ≡ then_told old.log notes
  pub coming : new.coming ≡ old.coming
  pub faults : new.faults ≡ old.faults
  pub reliable : new.is_reliable ≡ old.is_reliable

-- how many strings were missed
abbrev pub missed_by : Delivery → ℕ
missed_by IsMissed = 1
missed_by Arrives = 0
missed_by IsLeftOut = 0

abbrev pub missed_of : List Delivery → ℕ
missed_of [] = 0
missed_of (d ∷ ds) = missed_by d + missed_of ds

-- how many strings were left out
abbrev pub left_out_by : Delivery → ℕ
left_out_by IsMissed = 0
left_out_by Arrives = 0
left_out_by IsLeftOut = 1

abbrev pub left_out_of : List Delivery → ℕ
left_out_of [] = 0
left_out_of (d ∷ ds) = left_out_by d + left_out_of ds

-- Strings are missed only where the link counted each, and not on a link that misses none. They are left out only where a call found no memory for
-- each: the link counted these, and so many a `close` that found none, and no other.
pub record AreLicensed (ds : List Delivery) (unclosed : ℕ) (old new : LinkTold) : Type 0 where
  pub rose : RoseAtLeast (missed_of ds) old.missed new.missed
  pub out_of_memory : Counted (left_out_of ds + unclosed) old.out_of_memory new.out_of_memory
  pub reliable : old.is_reliable ≡ true → missed_of ds ≡ 0

-- the string of a reply went out, was missed or was left out; whether the connection stays open
pub record Told (old new : LinkTold) (r : Reply) (stays : Bool) : Type 0 where
  pub delivery : Delivery
  pub licensed : AreLicensed (delivery ∷ []) 0 old new
  pub stays_is : stays ≡ remains delivery r.said r.closes
  pub goes : Goes old new (string_notes delivery r.conn r.said)

-- what was not done begins with a close, for which no memory was found, and the link got no call after that
pub record StopsAtClose (more : List LinkNote) (new : LinkTold) : Type 0 where
  pub conn : ℕ
  pub rest : List LinkNote
  pub more_is : more ≡ Closed conn ∷ rest
  pub out_of_memory_last : new.out_of_memory_last ≡ true

-- a reply went out: its string, and its close where it is to be closed; or no memory was found for the close
abbrev pub Replied : LinkTold → LinkTold → Reply → Result Bool WantOfMemory → Type 0
Replied old new r (Ok stays) =
    (delivery : Delivery) × AreLicensed (delivery ∷ []) 0 old new × (stays ≡ remains delivery r.said r.closes) × Goes old new (reply_notes delivery r)
Replied old new r (Err e) =
    (delivery : Delivery) × AreLicensed (delivery ∷ []) 1 old new × (more : List LinkNote) × (notes : List LinkNote)
    × (reply_notes delivery r ≡ notes ++ more) × Goes old new notes × StopsAtClose more new

-- the link did all of this, or memory was wanted before it had done all: C holds then of what it did and of what it did not
pub record Did {T : Type 0} (C : List LinkNote → List LinkNote → Type 0) (all : List LinkNote) (old new : LinkTold) (result : Result T WantOfMemory) : Type 0 where
  pub notes : List LinkNote
  pub goes : Goes old new notes
  pub whole : MatchResult result (λ _. all ≡ notes) (λ _. (more : List LinkNote) × (all ≡ notes ++ more) × C notes more)

-- how many a `close` found no memory
abbrev pub unclosed_by : {T : Type 0} → Result T WantOfMemory → ℕ
unclosed_by (Ok x) = 0
unclosed_by (Err e) = 1

-- replies went out, and these are the open connections then, unless no memory was found for a close
pub record Sends (d : Delivered) (old new : LinkTold) (seats : Seats) (result : Result (Unit {0}) WantOfMemory) : Type 0 where
  pub did : Did (λ notes more. StopsAtClose more new) d.notes old new result
  pub seats_are : MatchResult result (λ _. seats ≡ d.seats) (λ _. Unit {0})

-- Memory was wanted in an event for its bytes and its strings, before anything was sealed, read and done: what was kept before is kept. Or it was
-- wanted for a close of it.
abbrev pub WantsIn : Outcome → Kept → ℕ → LinkTold → List LinkNote → List LinkNote → Type 0
WantsIn o before unclosed new notes more =
    ((notes ≡ []) × (unclosed ≡ 0) × (o.unsealed ≡ []) × (o.counts ≡ none_counted) × (o.state.kept ≡ before)) ⊎ ((unclosed ≡ 1) × StopsAtClose more new)

-- An event, before which this was kept, led to this outcome, and serving is asked to stop or not; or memory was wanted before the link had done all
-- of it. S holds of the record whose sealing failed and of what was counted, and what consoles' bytes were read as is so. Where memory was wanted no
-- snapshot was taken.
pub record Leads (S : List JournalRecord → TurnCounts → Type 0) (unclosed : ℕ) (keeping : Keeping) (before : Kept) (o : Outcome) (old new : LinkTold) (kept : Kept) (seats : Seats) (result : Result Bool WantOfMemory) : Type 0 where
  pub did : Did (WantsIn o before unclosed new) o.notes old new result
  pub kept_is : kept ≡ o.state.kept
  pub seats_are : MatchResult result (λ stops. (seats ≡ o.state.seats) × (stops ≡ o.consoles.stops)) (λ _. Unit {0})
  pub closed : MatchResult result (λ _. unclosed ≡ 0) (λ _. Unit {0})
  pub passed : MatchResult result (λ _. Unit {0}) (λ _. keeping ≡ IsPassed)
  pub seals : S o.unsealed o.counts
  pub read : AreSaid o.consoles.readings

-- what an event leaves before its strings are sent, or memory was wanted for it or for the replies, and nothing was sealed and nothing counted
abbrev pub AnswersWith : {T : Type 0} → Answered → Kept → Seats → (T → List Reply) → (T → Bool) → Result T WantOfMemory → Type 0
AnswersWith a kept seats view stops (Ok replies) =
    (kept ≡ a.state.kept) × (seats ≡ a.state.seats) × (view replies ≡ a.replies) × (stops replies ≡ a.consoles.stops)
AnswersWith a kept seats view stops (Err e) = (kept ≡ a.state.kept) × (a.unsealed ≡ []) × (a.counts ≡ none_counted)

-- S holds of the record whose sealing failed and of what was counted, and what consoles' bytes were read as is so
abbrev pub Answers : {T : Type 0} → (List JournalRecord → TurnCounts → Type 0) → Answered → Kept → Seats → (T → List Reply) → (T → Bool) → Result T WantOfMemory → Type 0
Answers S a kept seats view stops result = AnswersWith a kept seats view stops result × S a.unsealed a.counts × AreSaid a.consoles.readings

-- a connection is opened with this seat, and these are its replies; or memory was wanted
abbrev pub Opens : {T : Type 0} → ℕ → Seat → List Reply → Seats → Seats → (T → List Reply) → Result T WantOfMemory → Type 0
Opens conn seat replies old new view (Ok letters) = (new ≡ with_new_seat conn seat old) × (view letters ≡ replies)
Opens conn seat replies old new view (Err e) = Unit {0}

-- what is kept after the snapshot that is due
abbrev pub kept_by : Keeping → Kept → Kept
kept_by IsKept kept = snapshotted kept
kept_by IsPassed kept = kept
kept_by IsUnkept kept = kept
kept_by IsOutOfMemory kept = kept

-- the record whose sealing failed then
abbrev pub unkept_by : Keeping → Kept → List JournalRecord
unkept_by IsKept kept = []
unkept_by IsPassed kept = []
unkept_by IsUnkept kept = snapshot_record kept ∷ []
unkept_by IsOutOfMemory kept = []

-- whether a snapshot of what an open desk keeps is due
abbrev pub is_due_on : {D : Type 0} → Lasting D → Bool
is_due_on desk = not desk.closed && nat_le 1024 desk.kept.marks.since

-- A desk took the snapshot that is due, or left it out, or its sealing failed. A write found no memory only where it is left out for that. A closed
-- desk stays as it was.
pub record Keeps {D : Type 0} (told : D → DiskTold) (k : Keeping) (old new : Lasting D) : Type 0 where
  pub kept_is : new.kept ≡ (if is_due_on old then kept_by k old.kept else old.kept)
  pub closed : old.closed ≡ true → new ≡ old
  pub seals : HaveSealed told old new (if is_due_on old then unkept_by k old.kept else []) (if is_due_on old then wanting (unwritten_by k) else none_counted)
