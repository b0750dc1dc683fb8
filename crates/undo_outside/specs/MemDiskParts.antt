-- What a disk in memory tells and keeps.
use Rattle.std.specs.Prelude.{◌≡◌, ◌==◌, ℕ, false, List, length}
use Rattle.undo_outside.specs.declared.failing.Failing.{Failing}
use Rattle.undo_outside.specs.declared.mem_disk.MemDisk.{MemDisk}
use Rattle.undo_outside.specs.declared.mem_disk.Write.{Write}
use Rattle.undo_outside.specs.Disk.{DiskTold}
use Rattle.undo_outside.specs.History.{image_after, image_since}
use Rattle.undo_outside.specs.MemDisk.{held, history}

-- what it tells: a crash may leave what its history says
abbrev pub told_by : MemDisk → DiskTold
told_by disk = record {
  honest = Unit {0};
  size = length (held disk.start disk.latest);
  content = held disk.start disk.latest;
  images = image_after disk.start (history disk.writes.items);
  moment = length (history disk.writes.items);
  since = image_since disk.start (history disk.writes.items);
  failed_reads = disk.failed_reads;
  failed_writes = disk.failed_writes;
  failed_last = disk.failed_last;
  out_of_memory = disk.memory_wants.calls;
  out_of_memory_last = disk.memory_wants.last;
  is_reliable = length disk.failing.ordinals == 0;
}

-- the bytes that it was made with
abbrev pub start_of : MemDisk → List ℕ
start_of disk = disk.start

-- the record of its writes
abbrev pub writes_of : MemDisk → List Write
writes_of disk = disk.writes.items

-- the ordinals of its calls that are to fail, and how many of its calls were made
abbrev pub disk_calls : MemDisk → Failing
disk_calls disk = disk.failing

-- a new disk: no call was made, none failed, these are to fail, and a crash leaves these bytes and nothing else
pub record IsNew (disk : MemDisk) (bytes failing : List ℕ) : Type 0 where
  pub start : start_of disk ≡ bytes
  pub content : (told_by disk).content ≡ bytes
  pub images : (c : List ℕ) → (told_by disk).images c → c ≡ bytes
  pub moment : (told_by disk).moment ≡ 0
  pub since : (t : ℕ) (c : List ℕ) → (told_by disk).since t c → c ≡ bytes
  pub reads : disk.failed_reads ≡ 0
  pub writes : disk.failed_writes ≡ 0
  pub out_of_memory : disk.memory_wants ≡ record { calls = 0; last = false }
  pub listed : disk_calls disk ≡ record { ordinals = failing; calls = 0 }
