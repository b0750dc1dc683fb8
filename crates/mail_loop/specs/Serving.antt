-- Serving: the machine over a whole run of events.
use Rattle.std.specs.Prelude.{◌≡◌, ◌≢◌, ◌⊎◌, ℕ, ◌<◌, ◌≤◌, Bool, true, false, List, [], ◌∷◌, ◌++◌, length, map, ◌+◌, Option, None, Some, Result, Ok, Err}
use Rattle.std.specs.List.{AllByRecursion}
use Rattle.undo_outside.specs.declared.event.Event.{Event}
use Rattle.undo_outside.specs.declared.event.LinkNote.{LinkNote}
use Rattle.undo_outside.specs.declared.event.LinkNote.TheVariants.{Came, Closed}
use Rattle.undo_outside.specs.Calls.{LinkTold, Rose, then_told}
use Rattle.mail_loop.specs.declared.serve.ServeFault.{ServeFault}
use Rattle.mail_loop.specs.declared.serve.ServeFault.TheVariants.{Link, Disk, Turns, NoMemory}
use Rattle.store_kept.specs.Kept.{Kept}
use Rattle.verb_bytes.specs.declared.journal.JournalRecord.{JournalRecord}
use Rattle.desk_journal.specs.Reading.{Counted, Reads, RoseAtLeast}
use Rattle.mail_loop.specs.TurnCounts.{TurnCounts, both_counted, none_counted}
use Rattle.mail_loop.specs.State.{State}
use Rattle.mail_loop.specs.ConsoleTurn.{AreSaid, Consoles, ConsoleReading, both, no_consoles}
use Rattle.mail_loop.specs.Machine.{Hindrances, IsPassed, Outcome, happens, is_end}
use Rattle.mail_loop.specs.Did.{left_out_of, missed_of}

-- an event that came, and what hindered it
pub record Step : Type 0 where
  pub event : Event
  pub hindrances : Hindrances

-- an outcome after what the link did before, the record that was not sealed then, what was counted, and what came of consoles
abbrev pub after_notes : List LinkNote → List JournalRecord → TurnCounts → Consoles → Outcome → Outcome
after_notes notes unsealed counts consoles o = record {
  state = o.state;
  notes = notes ++ o.notes;
  unsealed = unsealed ++ o.unsealed;
  counts = both_counted counts o.counts;
  consoles = both consoles o.consoles;
}

-- what steps leave, one after the other
abbrev pub run : List Step → State → Outcome
run [] s = record { state = s; notes = []; unsealed = []; counts = none_counted; consoles = no_consoles }
run (step ∷ steps) s =
    let o = happens step.hindrances s step.event in
    after_notes (Came step.event ∷ o.notes) o.unsealed o.counts o.consoles (run steps o.state)

-- nothing served yet: no connection is open
abbrev pub at_first : Kept → State
at_first kept = record { kept = kept; seats = [] }

-- no step is the end
abbrev pub NoEnd : List Step → Type 0
NoEnd steps = AllByRecursion (λ step. is_end step.event.what ≡ false) steps

-- what the link did is what it does for the steps, and what is kept is the machine's
pub record Serves (steps : List Step) (old : Kept) (notes : List LinkNote) (new : Kept) : Type 0 where
  pub notes_are : notes ≡ (run steps (at_first old)).notes
  pub kept_is : new ≡ (run steps (at_first old)).state.kept

-- the records whose sealing failed in these steps
abbrev pub unsealed_in : List Step → Kept → List JournalRecord
unsealed_in steps old = (run steps (at_first old)).unsealed

-- what was counted in these steps
abbrev pub counts_in : List Step → Kept → TurnCounts
counts_in steps old = (run steps (at_first old)).counts

-- how many turns of these steps could not read a text, and how many were given another than was stored
abbrev pub reads_in : List Step → Kept → Reads
reads_in steps old = (counts_in steps old).reads

-- how many writes found no memory in these steps
abbrev pub out_of_memory_in : List Step → Kept → ℕ
out_of_memory_in steps old = (counts_in steps old).out_of_memory

-- what consoles' bytes were read as in these steps
abbrev pub readings_in : List Step → Kept → List ConsoleReading
readings_in steps old = (run steps (at_first old)).consoles.readings

-- whether a console asked serving to stop in these steps
abbrev pub stopped_in : List Step → Kept → Bool
stopped_in steps old = (run steps (at_first old)).consoles.stops

-- the last step is the end, and no other, and none was asked to stop; or the last is the first that was
abbrev pub Ends : List Step → Kept → Type 0
Ends steps old =
    (before : List Step) × (last : Step) × (steps ≡ before ++ last ∷ []) × NoEnd before × (stopped_in before old ≡ false)
    × ((is_end last.event.what ≡ true)
    ⊎ ((is_end last.event.what ≡ false) × ((happens last.hindrances (run before (at_first old)).state last.event).consoles.stops ≡ true)))

-- no step but the last was asked to stop
abbrev pub NoStop : List Step → Kept → Type 0
NoStop steps old = (stopped_in steps old ≡ false) ⊎ ((before : List Step) × (last : Step) × (steps ≡ before ++ last ∷ []) × (stopped_in before old ≡ false))

-- the last step's event leads to this front and then to more, which the link did not do
pub record IsOfLast (steps : List Step) (old : Kept) (front more : List LinkNote) : Type 0 where
  pub before : List Step
  pub last : Step
  pub steps_are : steps ≡ before ++ last ∷ []
  pub notes_are : (happens last.hindrances (run before (at_first old)).state last.event).notes ≡ front ++ more

-- the last step's event leads to all this, of which nothing was done: what was kept before it is kept, no text was not read, and no write found no memory
pub record IsUndone (steps : List Step) (old : Kept) (more : List LinkNote) : Type 0 where
  pub of_last : IsOfLast steps old [] more
  pub kept_is : (happens of_last.last.hindrances (run of_last.before (at_first old)).state of_last.last.event).state.kept ≡ (run of_last.before (at_first old)).state.kept
  pub counts_are : (happens of_last.last.hindrances (run of_last.before (at_first old)).state of_last.last.event).counts ≡ none_counted

-- no memory was found for a close in the last step: the link did all before it, and no snapshot was taken
pub record IsCutAtClose (wants : ℕ) (steps : List Step) (old : Kept) (more : List LinkNote) : Type 0 where
  pub front : List LinkNote
  pub conn : ℕ
  pub rest : List LinkNote
  pub more_is : more ≡ Closed conn ∷ rest
  pub of_last : IsOfLast steps old front more
  pub passed : of_last.last.hindrances.keeping ≡ IsPassed
  pub wanted : wants ≡ 1

-- what the link did not do where sealing failed: nothing, or what follows from a close on for which no memory was found
abbrev pub IsLeftUnsealed : ℕ → List Step → Kept → List LinkNote → Type 0
IsLeftUnsealed wants steps old more = ((more ≡ []) × (wants ≡ 0)) ⊎ IsCutAtClose wants steps old more

-- What the link did not do where memory was wanted. Nothing, where `next` found none; all that the last step leads to, where none was found for its
-- bytes or strings and nothing of it was done. Or what follows from a close on for which none was found.
abbrev pub IsLeftOutOfMemory : ℕ → List Step → Kept → List LinkNote → Type 0
IsLeftOutOfMemory wants steps old more =
    ((more ≡ []) × (wants ≡ 1)) ⊎ (IsUndone steps old more × (wants ≡ 0)) ⊎ IsCutAtClose wants steps old more

-- the last step, which may be the end, is the first in which sealing failed
abbrev pub EndsUnsealed : List Step → Kept → Type 0
EndsUnsealed steps old =
    (before : List Step) × (last : Step) × (steps ≡ before ++ last ∷ []) × NoEnd before × (unsealed_in before old ≡ [])
    × ((happens last.hindrances (run before (at_first old)).state last.event).unsealed ≢ [])

-- Serving ended: with the end or as a console asked; after so many turns without it; or where the link failed. Or where sealing failed in the last
-- step, or where memory was wanted, somewhere in the last step or for the next. No more events were taken than so many. So many a `next` or a `close`
-- found no memory: the last, or none.
abbrev pub Served : ℕ → ℕ → List Step → Kept → List LinkNote → Kept → Result (Unit {0}) ServeFault → Type 0
Served turns wants steps old notes new (Ok x) =
    Serves steps old notes new × Ends steps old × (unsealed_in steps old ≡ []) × (length steps ≤ turns) × (wants ≡ 0)
Served turns wants steps old notes new (Err Turns) =
    Serves steps old notes new × NoEnd steps × (length steps ≡ turns) × (unsealed_in steps old ≡ []) × (stopped_in steps old ≡ false) × (wants ≡ 0)
Served turns wants steps old notes new (Err Link) =
    Serves steps old notes new × NoEnd steps × (length steps < turns) × (unsealed_in steps old ≡ []) × (stopped_in steps old ≡ false) × (wants ≡ 0)
Served turns wants steps old notes new (Err Disk) =
    (more : List LinkNote) × Serves steps old (notes ++ more) new × IsLeftUnsealed wants steps old more × EndsUnsealed steps old × (length steps ≤ turns)
    × NoStop steps old
Served turns wants steps old notes new (Err NoMemory) =
    (more : List LinkNote) × Serves steps old (notes ++ more) new × NoEnd steps × IsLeftOutOfMemory wants steps old more × (unsealed_in steps old ≡ []) × (length steps ≤ turns)
    × NoStop steps old

-- whether serving ended because sealing failed
abbrev pub is_disk : Result (Unit {0}) ServeFault → Bool
is_disk (Ok x) = false
is_disk (Err Link) = false
is_disk (Err Disk) = true
is_disk (Err Turns) = false
is_disk (Err NoMemory) = false

-- how serving ends with the end of the events: the snapshot that is due then was sealed or left out, or its sealing failed, and the desk is closed
abbrev pub ended_as : Bool → Result (Unit {0}) ServeFault
ended_as false = Ok tt
ended_as true = Err Disk

-- how many strings the steps missed
abbrev pub missed_in : List Step → ℕ
missed_in [] = 0
missed_in (step ∷ steps) = missed_of step.hindrances.deliveries + missed_in steps

-- how many strings the steps left out
abbrev pub left_out_in : List Step → ℕ
left_out_in [] = 0
left_out_in (step ∷ steps) = left_out_of step.hindrances.deliveries + left_out_in steps

-- the events are those that were to come, as far as these were told
abbrev pub ComeInOrder : Option (List Event) → List Event → Option (List Event) → Type 0
ComeInOrder coming [] now = now ≡ coming
ComeInOrder (Some (x ∷ rest)) (event ∷ events) now = (event ≡ x) × ComeInOrder (Some rest) events now
ComeInOrder (Some []) (event ∷ events) now = Unit {0}
ComeInOrder None (event ∷ events) now = Unit {0}

abbrev pub events_of : List Step → List Event
events_of steps = map (λ step. step.event) steps

-- The last `next` failed, it alone, and the link counted that; or none failed, and the count is as it was.
abbrev pub CountsFaults : Result (Unit {0}) ServeFault → LinkTold → LinkTold → Type 0
CountsFaults (Err Link) old new = Rose old.faults new.faults × (old.is_reliable ≡ false) × (new.failed_last ≡ true) × (new.faults ≤ old.faults + 1)
CountsFaults (Ok x) old new = new.faults ≡ old.faults
CountsFaults (Err Turns) old new = new.faults ≡ old.faults
CountsFaults (Err Disk) old new = new.faults ≡ old.faults
CountsFaults (Err NoMemory) old new = new.faults ≡ old.faults

-- How serving went: the machine's steps for the events that came, in order, and what the link did. A string was missed, and `next` failed, only where
-- the link counted it. A string was left out only where a call found no memory for it. The link counted these and the last `next` or `close` that
-- found none, if one did, and no other; there was no call after that.
pub record ServedOver (turns : ℕ) (steps : List Step) (notes : List LinkNote) (old new : LinkTold) (kept kept' : Kept) (result : Result (Unit {0}) ServeFault) : Type 0 where
  pub wants : ℕ
  pub served : Served turns wants steps kept notes kept' result
  pub log : new.log ≡ then_told old.log notes
  pub order : ComeInOrder old.coming (events_of steps) new.coming
  pub missed : RoseAtLeast (missed_in steps) old.missed new.missed
  pub none_missed : old.is_reliable ≡ true → missed_in steps ≡ 0
  pub out_of_memory : Counted (left_out_in steps + wants) old.out_of_memory new.out_of_memory
  pub out_of_memory_last : wants ≡ 1 → new.out_of_memory_last ≡ true
  pub faults : CountsFaults result old new
  pub read : AreSaid (readings_in steps kept)
