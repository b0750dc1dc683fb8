-- What a disk tells of itself, what its calls do to that, and what a crash may leave.
use Rattle.std.specs.Prelude.{◌≡◌, ◌⊎◌, ◌+◌, ◌<◌, ◌≤◌, ◌↔◌, ℕ, Bool, true, false, List, ◌++◌, length, take, drop, max, slice_index}
use Rattle.std.specs.Prelude.{Result, Ok, Err, OnOk, OnErr, IfOk, IsErrOf}
use Rattle.std.specs.List.{slice_range}
use Rattle.undo_outside.specs.declared.fault.Failed.{Failed as Failure}
use Rattle.undo_outside.specs.declared.fault.Fault.{Fault}
use Rattle.undo_outside.specs.declared.fault.Fault.TheVariants.{Failed, NoMemory}
use Rattle.undo_outside.specs.Calls.{Rose, RoseOnce}

-- What a disk tells: whether what it tells of its bytes is true; its length; what reads give; and which images a crash now may
-- leave. The moment is a number that doesn't fall; `since` tells which images a crash at some moment since an earlier one may have
-- left. `failed_reads` counts reads and calls of `len` that failed, `failed_writes` writes and syncs; `failed_last` tells whether
-- the last call that found memory failed. `out_of_memory` counts writes that found no memory, and `out_of_memory_last` tells
-- whether the last one did. The rest tells whether no call will fail.
pub record DiskTold : Type 1 where
  pub honest : Type 0
  pub size : ℕ
  pub content : List ℕ
  pub images : List ℕ → Type 0
  pub moment : ℕ
  pub since : ℕ → List ℕ → Type 0
  pub failed_reads : ℕ
  pub failed_writes : ℕ
  pub failed_last : Bool
  pub out_of_memory : ℕ
  pub out_of_memory_last : Bool
  pub is_reliable : Bool

-- What an honest disk tells fits together. The length is that of what reads give, which is one of the images of now. The images
-- of now are those since now, and among those since any earlier moment.
pub record IsHonest (disk : DiskTold) : Type 0 where
  pub size_of_content : disk.size ≡ length disk.content
  pub content_is_image : disk.images disk.content
  pub counts_now : (t : ℕ) (c : List ℕ) → t ≤ disk.moment → disk.images c → disk.since t c
  pub only_now : (c : List ℕ) → disk.since disk.moment c → disk.images c

-- new is old with these bytes at this place
abbrev pub IsOverwritten : List ℕ → ℕ → List ℕ → List ℕ → Type 0
IsOverwritten old place bytes new = new ≡ take place old ++ bytes ++ drop (place + length bytes) old

-- A write of so many bytes at this place, over a disk of this length, may leave new where there was old. It differs only in the
-- written range and past its end.
pub record IsTorn (place count size : ℕ) (old new : List ℕ) : Type 0 where
  pub same : (i : ℕ) → i < length old → (i < place) ⊎ (place + count ≤ i) → slice_index new i ≡ slice_index old i
  pub no_shorter : length old ≤ length new
  pub no_longer : length new ≤ max size (place + count)

-- the two are the same images
abbrev pub SameImages : (List ℕ → Type 0) → (List ℕ → Type 0) → Type 0
SameImages old new = (c : List ℕ) → new c ↔ old c

-- the images are those of before, and each that the write may leave of one of them
abbrev pub AddsTorn : ℕ → ℕ → ℕ → (List ℕ → Type 0) → (List ℕ → Type 0) → Type 0
AddsTorn place count size old new = (c : List ℕ) → new c ↔ (old c ⊎ ((d : List ℕ) × old d × IsTorn place count size d c))

-- a write that was done, or that failed, adds what it may have torn; one that found no memory adds nothing
abbrev pub MayTear : ℕ → ℕ → ℕ → (List ℕ → Type 0) → (List ℕ → Type 0) → {T : Type 0} → Result T Fault → Type 0
MayTear place count size old new (Ok x) = AddsTorn place count size old new
MayTear place count size old new (Err Failed) = AddsTorn place count size old new
MayTear place count size old new (Err NoMemory) = SameImages old new

-- a crash leaves this and nothing else
abbrev pub Only : List ℕ → (List ℕ → Type 0) → Type 0
Only content images = (c : List ℕ) → images c → c ≡ content

-- Time goes on from before to now: the images since an earlier moment are those of then, and those with P.
pub record Elapses (before now : ℕ) (past since : ℕ → List ℕ → Type 0) (P : List ℕ → Type 0) : Type 0 where
  pub later : before ≤ now
  pub added : (t : ℕ) (c : List ℕ) → t ≤ before → since t c → past t c ⊎ P c
  pub kept : (t : ℕ) (c : List ℕ) → t ≤ before → past t c → since t c

-- the moments of one call: its images are those of now before it and those of now after it
abbrev pub CallTime : DiskTold → DiskTold → Type 0
CallTime old new = Elapses old.moment new.moment old.since new.since (λ c. old.images c ⊎ new.images c)

-- what a call leaves that only looks at the disk
pub record IsLook (old new : DiskTold) : Type 0 where
  pub size : new.size ≡ old.size
  pub honest : old.honest → new.honest
  pub content : old.honest → new.content ≡ old.content
  pub images : old.honest → SameImages old.images new.images
  pub time : old.honest → CallTime old new

-- a read failed, on a disk whose calls may fail: its count rose, by one at most, and no call came after it
abbrev pub ReadFailed : DiskTold → DiskTold → Type 0
ReadFailed old new = Rose old.failed_reads new.failed_reads × (new.failed_reads ≤ old.failed_reads + 1) × (new.failed_last ≡ true) × (old.is_reliable ≡ false)

-- the same of a write or a sync
abbrev pub WriteFailed : DiskTold → DiskTold → Type 0
WriteFailed old new = Rose old.failed_writes new.failed_writes × (new.failed_writes ≤ old.failed_writes + 1) × (new.failed_last ≡ true) × (old.is_reliable ≡ false)

-- a write found no memory: the count of these rose by one, and no write came after it
abbrev pub WriteOutOfMemory : DiskTold → DiskTold → Type 0
WriteOutOfMemory old new = RoseOnce old.out_of_memory new.out_of_memory × (new.out_of_memory_last ≡ true)

-- a write found no memory exactly where it says so
pub record WriteWants {T : Type 0} (old new : DiskTold) (result : Result T Fault) : Type 0 where
  pub ok : OnOk result (new.out_of_memory ≡ old.out_of_memory)
  pub ok_last : OnOk result (new.out_of_memory_last ≡ false)
  pub failed : IsErrOf result Failed → new.out_of_memory ≡ old.out_of_memory
  pub failed_last : IsErrOf result Failed → new.out_of_memory_last ≡ false
  pub no_memory : IsErrOf result NoMemory → WriteOutOfMemory old new

-- no write was made: what is told of those that found no memory is as before
pub record WantsNone (old new : DiskTold) : Type 0 where
  pub count : new.out_of_memory ≡ old.out_of_memory
  pub last : new.out_of_memory_last ≡ old.out_of_memory_last

-- a read answers `Failed` exactly where it failed, and no other count changes
pub record ReadCause {T : Type 0} (old new : DiskTold) (result : Result T Failure) : Type 0 where
  pub ok : OnOk result (new.failed_reads ≡ old.failed_reads)
  pub ok_last : OnOk result (new.failed_last ≡ false)
  pub failed : OnErr result (ReadFailed old new)
  pub writes : new.failed_writes ≡ old.failed_writes
  pub reliable : new.is_reliable ≡ old.is_reliable

-- the same of a write
pub record WriteCause {T : Type 0} (old new : DiskTold) (result : Result T Fault) : Type 0 where
  pub ok : OnOk result (new.failed_writes ≡ old.failed_writes)
  pub ok_last : OnOk result (new.failed_last ≡ false)
  pub failed : IsErrOf result Failed → WriteFailed old new
  pub no_memory : IsErrOf result NoMemory → new.failed_writes ≡ old.failed_writes
  pub reads : new.failed_reads ≡ old.failed_reads
  pub reliable : new.is_reliable ≡ old.is_reliable

-- the same of a sync
pub record SyncCause {T : Type 0} (old new : DiskTold) (result : Result T Failure) : Type 0 where
  pub ok : OnOk result (new.failed_writes ≡ old.failed_writes)
  pub ok_last : OnOk result (new.failed_last ≡ false)
  pub failed : OnErr result (WriteFailed old new)
  pub reads : new.failed_reads ≡ old.failed_reads
  pub reliable : new.is_reliable ≡ old.is_reliable

-- `len` gives the length
pub record Measures (old new : DiskTold) (result : Result ℕ Failure) : Type 0 where
  pub length : IfOk result (λ n. n ≡ old.size)
  pub look : IsLook old new
  pub cause : ReadCause old new result
  pub wants : WantsNone old new

-- `read` gives so many bytes from a place on
pub record ReadsAt (old new : DiskTold) (place count : ℕ) (buffer : List ℕ) (result : Result (Unit {0}) Failure) : Type 0 where
  pub bytes : old.honest → OnOk result (buffer ≡ slice_range old.content place (place + count))
  pub look : IsLook old new
  pub cause : ReadCause old new result
  pub wants : WantsNone old new

-- `write_at` writes over what is there, and past the end
pub record WritesAt (old new : DiskTold) (place : ℕ) (bytes : List ℕ) (result : Result (Unit {0}) Fault) : Type 0 where
  pub size : old.size ≤ new.size
  pub grown : OnOk result (place + length bytes ≤ new.size)
  pub honest : old.honest → new.honest
  pub written : old.honest → OnOk result (IsOverwritten old.content place bytes new.content)
  pub torn : old.honest → MayTear place (length bytes) old.size old.images new.images result
  pub no_memory : IsErrOf result NoMemory → IsLook old new
  pub time : old.honest → CallTime old new
  pub cause : WriteCause old new result
  pub wants : WriteWants old new result

-- `sync` leaves one image, what reads give; one that failed adds none
pub record Syncs (old new : DiskTold) (result : Result (Unit {0}) Failure) : Type 0 where
  pub size : new.size ≡ old.size
  pub honest : old.honest → new.honest
  pub content : old.honest → OnOk result (new.content ≡ old.content)
  pub durable : old.honest → OnOk result (Only old.content new.images)
  pub images : old.honest → (c : List ℕ) → new.images c → old.images c
  pub time : old.honest → CallTime old new
  pub cause : SyncCause old new result
  pub wants : WantsNone old new
