-- A disk that a journal lies on.
use Rattle.std.specs.Prelude.{◌≡◌, ◌⊎◌, ◌≤◌, ℕ, List, [], ◌∷◌, ◌++◌, length}
use Rattle.undo_outside.specs.Disk.{DiskTold}
use Rattle.undo_outside.specs.Moments.{OnlyReads}
use Rattle.seal_log.specs.Causes.{FindsMemory}
use Rattle.seal_log.specs.Journal.{frame, sealed, StandsFor}
use Rattle.seal_log.specs.Loading.{IsNotFormatted}

-- The images of now all stand for these payloads, and right behind them stands the last gate, not open.
pub record IsSettled (disk : DiskTold) (gate : ℕ) (payloads : List (List ℕ)) : Type 0 where
  pub honest : disk.honest
  pub gate_is : gate ≡ length (sealed payloads)
  pub images : (c : List ℕ) → disk.images c → StandsFor c payloads

-- each image of now begins with these payloads
pub record Holds (disk : DiskTold) (payloads : List (List ℕ)) : Type 0 where
  pub honest : disk.honest
  pub front : (c : List ℕ) → disk.images c → (rest : List ℕ) × (c ≡ sealed payloads ++ rest)

-- From old to new there is a moment at which the frame of a payload stood behind a gate that was not open. Whatever a crash may
-- have left since, there the frame stands behind the first byte, with a gate behind it.
pub record IsFrameFirst (payload : List ℕ) (old new : DiskTold) : Type 0 where
  pub moment : ℕ
  pub later : old.moment ≤ moment
  pub shut : new.since moment (0 ∷ (frame payload ++ 0 ∷ []))
  pub behind : (c : List ℕ) → new.since moment c → (gate : ℕ) × (c ≡ gate ∷ (frame payload ++ 0 ∷ []))

-- each image of now is one of before, or no journal
abbrev pub LeavesNoJournal : DiskTold → DiskTold → Type 0
LeavesNoJournal old new = (c : List ℕ) → new.images c → old.images c ⊎ IsNotFormatted c

-- From old to new the disk was only read. No write was made, so none found no memory.
pub record ReadsAlone (old new : DiskTold) : Type 0 where
  pub reads : OnlyReads old new
  pub finds_memory : FindsMemory old new
