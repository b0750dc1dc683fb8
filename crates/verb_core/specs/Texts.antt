-- What an object that reads texts tells of itself, and what a call does to that.
use Rattle.std.specs.Prelude.{◌≡◌, ℕ, ◌+◌, ◌-◌, ◌^◌, ◌≤◌, min, Bool, Option, Some, Result, Ok, Err, List}
use Rattle.verb_core.specs.declared.mailbox.Body.{Body}
use Rattle.verb_core.specs.declared.bodies.BodiesFault.{BodiesFault}
use Rattle.verb_core.specs.declared.bodies.BodiesFault.TheVariants.{Failed, NoMemory}

-- a count went up, or stands at its last value
abbrev pub Rose : ℕ → ℕ → Type 0
Rose before now = (before ≤ now) × (min (before + 1) (2 ^ 64 - 1) ≤ now)

-- Which bodies are held; the text that was stored of each; whether what is read is what was stored; and how often a read failed.
pub record BodiesTold : Type 1 where
  pub holds : Body → Bool
  pub texts : Body → Option (List ℕ)
  pub honest : Type 0
  pub faults : ℕ

-- a call leaves which bodies are held and their texts, and what is honest stays so
pub record StaysTold (old new : BodiesTold) : Type 0 where
  pub holds : new.holds ≡ old.holds
  pub texts : new.texts ≡ old.texts
  pub honest : old.honest → new.honest

-- a call gave the body's text, where what is read is what was stored; or it failed and the count rose; or it found no memory
abbrev pub Answers : BodiesTold → BodiesTold → Body → Result (List ℕ) BodiesFault → Type 0
Answers old new body (Ok text) = (new.faults ≡ old.faults) × (old.honest → old.texts body ≡ Some text)
Answers old new body (Err Failed) = Rose old.faults new.faults
Answers old new body (Err NoMemory) = new.faults ≡ old.faults

-- the same, and the call leaves which bodies are held and their texts
abbrev pub Gives : BodiesTold → BodiesTold → Body → Result (List ℕ) BodiesFault → Type 0
Gives old new body result = StaysTold old new × Answers old new body result
