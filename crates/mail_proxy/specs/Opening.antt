-- What opening a store comes to.
use Rattle.std.specs.Prelude.{◌≡◌, ◌⊎◌, ℕ, List, Ok, Err}
use Rattle.undo_outside.specs.Disk.{DiskTold}
use Rattle.time_desk.specs.declared.fault.StartFault.{StartFault}
use Rattle.time_desk.specs.declared.fault.StartFault.TheVariants.{NotFormatted, Damaged, Disk, NoMemory}
use Rattle.desk_journal.specs.Lasting.{Lasting}
use Rattle.time_desk.specs.Opening.{Starts}
use Rattle.mail_proxy.specs.Lines.{not_a_store, damaged, disk_fault, no_memory}
use Rattle.mail_proxy.specs.Texts.{End}

abbrev pub start_status : StartFault → ℕ
start_status NotFormatted = 3
start_status (Damaged place) = 10
start_status Disk = 5
start_status NoMemory = 8

abbrev pub start_line : StartFault → List ℕ
start_line NotFormatted = not_a_store
start_line (Damaged place) = damaged place
start_line Disk = disk_fault
start_line NoMemory = no_memory

module _ {D : Type 0} (told : D → DiskTold) where
  -- no store was opened
  abbrev pub OpensNone : D → End D → Type 0
  OpensNone disk end =
      (fault : StartFault) × Starts (told disk) (told end.disk) (Err fault) × (end.status ≡ start_status fault) × (end.output ≡ start_line fault)

  -- a store was opened, and this follows; or none was
  abbrev pub Opens : D → (Lasting D → End D → Type 0) → End D → Type 0
  Opens disk Follows end = OpensNone disk end ⊎ ((desk : Lasting D) × Starts (told disk) (told desk.disk) (Ok (desk.kept, desk.gate)) × Follows desk end)
