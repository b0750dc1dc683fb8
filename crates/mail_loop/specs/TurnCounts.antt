-- What a turn leaves of what the disk counts.
use Rattle.std.specs.Prelude.{ℕ, ◌+◌}
use Rattle.undo_outside.specs.Disk.{DiskTold}
use Rattle.desk_journal.specs.Lasting.{Lasting}
use Rattle.desk_journal.specs.Reading.{Counted, HaveRead, Reads, both_read, none_read}

-- how many turns could not read a text or were given another than was stored, and how many writes found no memory
pub record TurnCounts : Type 0 where
  pub reads : Reads
  pub out_of_memory : ℕ

-- texts were read so, and each write found memory
abbrev pub read_so : Reads → TurnCounts
read_so reads = record { reads = reads; out_of_memory = 0 }

-- so many writes found no memory, and no text was read
abbrev pub wanting : ℕ → TurnCounts
wanting out_of_memory = record { reads = none_read; out_of_memory = out_of_memory }

abbrev pub none_counted : TurnCounts
none_counted = wanting 0

-- of two runs of turns, first to last
abbrev pub both_counted : TurnCounts → TurnCounts → TurnCounts
both_counted a b = record { reads = both_read a.reads b.reads; out_of_memory = a.out_of_memory + b.out_of_memory }

-- The disk counted these turns that could not read a text (`HaveRead`), and just so many writes that found no memory: no call hides one, or makes one
-- more after it.
pub record HaveCounted {D : Type 0} (told : D → DiskTold) (old new : Lasting D) (c : TurnCounts) : Type 0 where
  pub reads : HaveRead told old new c.reads
  pub out_of_memory : Counted c.out_of_memory (told old.disk).out_of_memory (told new.disk).out_of_memory
