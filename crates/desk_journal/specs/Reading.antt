-- What a turn leaves that reads texts from the disk.
use Rattle.std.specs.Prelude.{◌≡◌, ℕ, zero, suc, ◌+◌, ◌-◌, ◌^◌, ◌≤◌, min, true}
use Rattle.undo_outside.specs.Disk.{DiskTold}
use Rattle.seal_log.specs.Settled.{ReadsAlone}
use Rattle.desk_journal.specs.Lasting.{Lasting}
use Rattle.desk_journal.specs.Stored.{HoldsTexts}

-- how many turns could not read a text, and how many were given another than was stored
pub record Reads : Type 0 where
  pub failed : ℕ
  pub wrong : ℕ

abbrev pub none_read : Reads
none_read = record { failed = 0; wrong = 0 }

abbrev pub failed_once : Reads
failed_once = record { failed = 1; wrong = 0 }

abbrev pub wrong_once : Reads
wrong_once = record { failed = 0; wrong = 1 }

-- of two runs of turns, first to last
abbrev pub both_read : Reads → Reads → Reads
both_read a b = record { failed = a.failed + b.failed; wrong = a.wrong + b.wrong }

-- a count rose by so many at least, or stands at its last value; by none, it is as it was
abbrev pub RoseAtLeast : ℕ → ℕ → ℕ → Type 0
RoseAtLeast zero before now = now ≡ before
RoseAtLeast (suc n) before now = (before ≤ now) × (min (before + suc n) (2 ^ 64 - 1) ≤ now)

-- a count rose by just so many, or stands at its last value
abbrev pub Counted : ℕ → ℕ → ℕ → Type 0
Counted n before now = RoseAtLeast n before now × (now ≤ before + n)

-- no read failed from old to new
abbrev pub ReadsWell : {D : Type 0} → (D → DiskTold) → Lasting D → Lasting D → Type 0
ReadsWell told old new = (told new.disk).failed_reads ≡ (told old.disk).failed_reads

-- The disk counted so many failed reads and no other: each of these turns made one, and no turn made two. Another text is given only where the
-- texts do not lie on the disk as they are noted.
pub record HaveRead {D : Type 0} (told : D → DiskTold) (old new : Lasting D) (r : Reads) : Type 0 where
  pub failed : Counted r.failed (told old.disk).failed_reads (told new.disk).failed_reads
  pub reliable : (told old.disk).is_reliable ≡ true → r.failed ≡ 0
  pub honest : HoldsTexts told old → r.wrong ≡ 0

-- from old to new nothing changed but what reading leaves of the disk
pub record IsStill {D : Type 0} (told : D → DiskTold) (old new : Lasting D) : Type 0 where
  pub kept : new.kept ≡ old.kept
  pub notes : new.notes ≡ old.notes
  pub marks : new.marks ≡ old.marks
  pub room : new.room ≡ old.room
  pub gate : new.gate ≡ old.gate
  pub closed : new.closed ≡ old.closed
  pub reads : ReadsAlone (told old.disk) (told new.disk)
