-- What the command `audit` writes.
use Rattle.std.specs.Prelude.{◌≡◌, ◌⊎◌, ℕ, List, ◌++◌, codes, length, Option, None, Some}
use Rattle.std.specs.List.{AllByRecursion}
use Rattle.undo_outside.specs.Disk.{DiskTold, ReadFailed}
use Rattle.seal_log.specs.declared.fault.ReadFault.{ReadFault}
use Rattle.seal_log.specs.declared.fault.ReadFault.TheVariants.{Disk, NoMemory}
use Rattle.verb_bytes.specs.declared.journal.JournalRecord.{JournalRecord}
use Rattle.desk_journal.specs.Lasting.{Lasting}
use Rattle.desk_journal.specs.Reading.{IsStill, ReadsWell}
use Rattle.desk_journal.specs.Records.{StandsForRecords, payloads_of, state}
use Rattle.seal_log.specs.Journal.{sealed, IsPayload}
use Rattle.seal_log.specs.Settled.{Holds}
use Rattle.store_kept.specs.Kept.{Kept}
use Rattle.time_desk.specs.Auditing.{false_record}
use Rattle.mail_proxy.specs.Check.{IsOnlyRead}
use Rattle.mail_proxy.specs.Cutting.{TellsFault, TellsWant}
use Rattle.mail_proxy.specs.Lines.{false_record_at, lf}
use Rattle.mail_proxy.specs.Opening.{Opens}
use Rattle.mail_proxy.specs.Texts.{End}

-- what is told where the first record that is not true has its gate here, or where each is true
abbrev pub TellsTruth : Option ℕ → ℕ → List ℕ → Type 0
TellsTruth None status output = (status ≡ 0) × (output ≡ codes "true" ++ lf)
TellsTruth (Some place) status output = (status ≡ 12) × (output ≡ false_record_at place)

-- the same, or no memory is found for it
abbrev pub TellsAudit : Option ℕ → ℕ → List ℕ → Type 0
TellsAudit found status output = TellsTruth found status output ⊎ TellsWant status output

-- what is told where the records were not read to their end
abbrev pub TellsUnaudited : ReadFault → ℕ → List ℕ → Type 0
TellsUnaudited Disk status output = TellsFault status output
TellsUnaudited NoMemory status output = TellsWant status output

-- it is told whether the records are true: these, as far as they are known
pub record IsAudited (of : List JournalRecord → Type 0) (status : ℕ) (output : List ℕ) : Type 0 where
  pub found : Option ℕ
  pub tells : TellsTruth found status output
  pub exact : (records : List JournalRecord) → of records → found ≡ false_record records

module _ {D : Type 0} (told : D → DiskTold) where
  -- the records that an honest disk stood for, which left what is kept
  pub record WereOpened (disk : D) (kept : Kept) (records : List JournalRecord) : Type 0 where
    pub honest : (told disk).honest
    pub stands : StandsForRecords records (told disk).content
    pub state_is : state records ≡ Some kept

  -- records that can stand, and lie on the disk of a desk up to its last gate
  pub record LieThere (desk : Lasting D) (records : List JournalRecord) : Type 0 where
    pub kept : Kept
    pub state_is : state records ≡ Some kept
    pub held : Holds (told desk.disk) (payloads_of records)
    pub short : AllByRecursion IsPayload (payloads_of records)
    pub gate_is : desk.gate ≡ length (sealed (payloads_of records))

  -- how the audit of a desk ended: no read failed; or one did, and there was none after it
  abbrev pub AuditsAt : (List JournalRecord → Type 0) → Lasting D → Lasting D → ℕ → List ℕ → Type 0
  AuditsAt of first last status output =
      (ReadsWell told first last × (IsAudited of status output ⊎ TellsWant status output))
      ⊎ (ReadFailed (told first.disk) (told last.disk) × TellsFault status output)

  -- a store that was opened is audited; of its disk nothing changes but what reading leaves
  abbrev pub AuditsOpened : D → Lasting D → End D → Type 0
  AuditsOpened disk first end =
      (last : Lasting D) × IsStill told first last × (end.disk ≡ last.disk) × AuditsAt (WereOpened disk first.kept) first last end.status end.output

  -- what `audit` comes to
  abbrev pub Audits : D → End D → Type 0
  Audits disk end = Opens told disk (AuditsOpened disk) end × ((told disk).honest → IsOnlyRead end.status (told disk) (told end.disk))
