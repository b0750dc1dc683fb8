-- What the command `init` answers, and what it leaves of the disk.
use Rattle.std.specs.Prelude.{◌≡◌, ◌⊎◌, ℕ, List, [], None, Some, Result, Ok, Err, IsUtf8}
use Rattle.verb_core.specs.declared.conf.Conf.{Conf}
use Rattle.verb_core.specs.declared.conf.House.{House}
use Rattle.undo_outside.specs.Calls.{SourceTold}
use Rattle.undo_outside.specs.Disk.{DiskTold}
use Rattle.store_kept.specs.Kept.{Kept}
use Rattle.house_text.specs.Configuration.{configured}
use Rattle.desk_journal.specs.declared.fault.MakeFault.{MakeFault}
use Rattle.desk_journal.specs.declared.fault.MakeFault.TheVariants.{NotEmpty, Disk, NoMemory}
use Rattle.desk_journal.specs.Making.{Makes}
use Rattle.mail_proxy.specs.Lines.{bad_configuration, not_empty, disk_fault, no_memory}
use Rattle.mail_proxy.specs.Texts.{End, ending, FromText}

-- the text configures this
abbrev pub IsConfig : List ℕ → House → Conf → Type 0
IsConfig text house conf = IsUtf8 text × (configured text ≡ Some (house, conf))

-- the text configures nothing
abbrev pub IsNoConfig : List ℕ → Type 0
IsNoConfig text = IsUtf8 text → configured text ≡ None

abbrev pub made_status : Result (Kept × ℕ) MakeFault → ℕ
made_status (Ok x) = 0
made_status (Err NotEmpty) = 3
made_status (Err Disk) = 5
made_status (Err NoMemory) = 8

abbrev pub made_line : Result (Kept × ℕ) MakeFault → List ℕ
made_line (Ok x) = []
made_line (Err NotEmpty) = not_empty
made_line (Err Disk) = disk_fault
made_line (Err NoMemory) = no_memory

module _ {D : Type 0} (told : D → DiskTold) where
  -- an empty disk was formatted: it has the one record of the configuration, also after a crash from then on; or it was not
  abbrev pub Formats : D → House → Conf → End D → Type 0
  Formats disk house conf end =
      (made : Result (Kept × ℕ) MakeFault) × Makes house conf (told disk) (told end.disk) made × (end.status ≡ made_status made) × (end.output ≡ made_line made)

  -- a text is a configuration, for which the disk is formatted, or it is none
  abbrev pub Configures : D → List ℕ → End D → Type 0
  Configures disk text end =
      (IsNoConfig text × (end ≡ ending 2 bad_configuration disk))
      ⊎ ((house : House) × (conf : Conf) × IsConfig text house conf × Formats disk house conf end)

  -- what `init` comes to
  abbrev pub Inits : SourceTold → SourceTold → D → End D → Type 0
  Inits old new disk end = FromText old new disk (Configures disk) end
