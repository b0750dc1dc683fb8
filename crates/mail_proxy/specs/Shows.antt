-- How the output of a command was written, and the status after that.
use Rattle.std.specs.Prelude.{◌≡◌, ℕ, ◌==◌, List, Result, Ok, Err, if◌then◌else◌}
use Rattle.undo_outside.specs.declared.fault.Fault.{Fault}
use Rattle.undo_outside.specs.declared.fault.Fault.TheVariants.{Failed, NoMemory}
use Rattle.undo_outside.specs.Calls.{SinkTold}
use Rattle.base_cut.specs.Writing.{WritesAll}

-- a status where no fault came before, or the one of the first fault
abbrev pub first_fault : ℕ → ℕ → ℕ
first_fault status later = if status == 0 then later else status

-- the status after the output was written, or was not
abbrev pub status_after : ℕ → Result (Unit {0}) Fault → ℕ
status_after planned (Ok x) = planned
status_after planned (Err Failed) = first_fault planned 9
status_after planned (Err NoMemory) = first_fault planned 8

-- The output was written whole, or a first part of it up to a write that failed or found no memory.
abbrev pub Shows : ℕ → List ℕ → ℕ → SinkTold → SinkTold → Type 0
Shows planned output status old new = (wrote : Result (Unit {0}) Fault) × WritesAll old new output wrote × (status ≡ status_after planned wrote)
