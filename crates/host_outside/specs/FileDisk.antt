-- What a disk over a file tells.
use Rattle.std.specs.Prelude.{◌≡◌, false, []}
use Rattle.undo_outside.specs.Disk.{DiskTold}
use Rattle.host_outside.specs.declared.file_disk.DiskOver.{DiskOver}

-- its length and its counts, and nothing of its content
abbrev pub told_by : {F : Type 0} → DiskOver F → DiskTold
told_by disk = record {
  honest = ⊥;
  size = disk.size;
  content = [];
  images = λ _. ⊥;
  moment = 0;
  since = λ _ _. ⊥;
  failed_reads = disk.failed_reads;
  failed_writes = disk.failed_writes;
  failed_last = disk.failed_last;
  out_of_memory = disk.out_of_memory;
  out_of_memory_last = disk.out_of_memory_last;
  is_reliable = false;
}

-- no call of a disk is counted as failed yet, and no write as one that found no memory
pub record NoneFailed (disk : DiskTold) : Type 0 where
  pub failed_reads : disk.failed_reads ≡ 0
  pub failed_writes : disk.failed_writes ≡ 0
  pub failed_last : disk.failed_last ≡ false
  pub out_of_memory : disk.out_of_memory ≡ 0
  pub out_of_memory_last : disk.out_of_memory_last ≡ false
