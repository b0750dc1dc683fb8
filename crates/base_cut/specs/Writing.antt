-- Writing bytes whole, and what a sink took where they were not.
use Rattle.std.specs.Prelude.{◌≡◌, ◌⊎◌, ◌<◌, List, ℕ, ◌++◌, length, Result, Ok, Err}
use Rattle.undo_outside.specs.declared.fault.Fault.{Fault}
use Rattle.undo_outside.specs.declared.fault.Fault.TheVariants.{Failed, NoMemory}
use Rattle.undo_outside.specs.Calls.{SinkTold, FailsToWrite, WantsToWrite, then_told}

-- the sink has taken this, and no write has failed or found no memory
pub record SinkTook (old new : SinkTold) (bytes : List ℕ) : Type 0 where
  pub written : new.written ≡ then_told old.written bytes
  pub faults : new.faults ≡ old.faults
  pub out_of_memory : new.out_of_memory ≡ old.out_of_memory
  pub reliable : new.is_reliable ≡ old.is_reliable

-- a write was refused: it failed, or it found no memory
abbrev pub Refuses : Fault → SinkTold → SinkTold → Type 0
Refuses Failed before new = FailsToWrite before new
Refuses NoMemory before new = WantsToWrite before new

-- the sink took a first part of this, and not all, and then writing stopped in this way
pub record TookFront (Stopped : SinkTold → SinkTold → Type 0) (old new : SinkTold) (bytes : List ℕ) : Type 0 where
  pub front : List ℕ
  pub back : List ℕ
  pub split : bytes ≡ front ++ back
  pub some : 0 < length back
  pub before : SinkTold
  pub took : SinkTook old before front
  pub stops : Stopped before new

-- bytes that are at hand were written whole, or a first part of them up to a write that was refused
abbrev pub PutsAll : SinkTold → SinkTold → List ℕ → Result (Unit {0}) Fault → Type 0
PutsAll old new bytes (Ok x) = SinkTook old new bytes
PutsAll old new bytes (Err fault) = TookFront (Refuses fault) old new bytes

-- The sink took a first part of this, and not all, and then a write failed. It is as that write left it, so that there was no write after it.
abbrev pub WriteFails : SinkTold → SinkTold → List ℕ → Type 0
WriteFails old new bytes =
    (front : List ℕ) × (back : List ℕ) × (bytes ≡ front ++ back) × (0 < length back) × (before : SinkTold) × SinkTook old before front × FailsToWrite before new

-- The sink took a first part of this, and not all, and then a write found no memory. The sink is as that write left it, so there was no write after
-- it. Or no memory was found for what was to be written next, and there was none.
abbrev pub WriteRunsOutOfMemory : SinkTold → SinkTold → List ℕ → Type 0
WriteRunsOutOfMemory old new bytes =
    (front : List ℕ) × (back : List ℕ) × (bytes ≡ front ++ back) × (0 < length back) × (before : SinkTold) × SinkTook old before front
    × (WantsToWrite before new ⊎ (new ≡ before))

-- bytes were written whole, or a first part of them up to a write that failed or found no memory
abbrev pub WritesAll : SinkTold → SinkTold → List ℕ → Result (Unit {0}) Fault → Type 0
WritesAll old new bytes (Ok x) = SinkTook old new bytes
WritesAll old new bytes (Err Failed) = WriteFails old new bytes
WritesAll old new bytes (Err NoMemory) = WriteRunsOutOfMemory old new bytes

-- this was written, or a first part of it up to a write that failed or found no memory, and nothing else
abbrev pub Wrote : SinkTold → SinkTold → List ℕ → Type 0
Wrote old new output = (wrote : Result (Unit {0}) Fault) × WritesAll old new output wrote
