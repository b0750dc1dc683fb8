-- What crashes leave of a disk while calls go on.
use Rattle.std.specs.Prelude.{◌≡◌, ◌≤◌, ◌⊎◌, ℕ, List}
use Rattle.undo_outside.specs.Disk.{DiskTold, IsTorn}

-- A crash at any moment since old leaves an image that has P.
pub record LeavesOnly (old new : DiskTold) (P : List ℕ → Type 0) : Type 0 where
  pub later : old.moment ≤ new.moment
  pub each : (c : List ℕ) → new.since old.moment c → P c
  -- for a run that began earlier
  pub before : (t : ℕ) (c : List ℕ) → t ≤ old.moment → new.since t c → old.since t c ⊎ P c

-- one of the images, whole or torn by a write of so many bytes at this place
abbrev pub IsTornOf : ℕ → ℕ → ℕ → (List ℕ → Type 0) → List ℕ → Type 0
IsTornOf place count size images c = images c ⊎ ((d : List ℕ) × images d × IsTorn place count size d c)

-- From old to new the disk was only read.
pub record OnlyReads (old new : DiskTold) : Type 0 where
  pub size : new.size ≡ old.size
  pub reads : old.failed_reads ≤ new.failed_reads
  pub writes : new.failed_writes ≡ old.failed_writes
  pub reliable : new.is_reliable ≡ old.is_reliable
  pub honest : old.honest → new.honest
  pub content : old.honest → new.content ≡ old.content
  pub images : old.honest → (c : List ℕ) → new.images c → old.images c
  pub any_moment : old.honest → LeavesOnly old new old.images
