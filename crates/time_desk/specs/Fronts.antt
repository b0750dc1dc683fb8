-- What becomes of a journal's front while it is read.
use Rattle.std.specs.Prelude.{◌≡◌, ◌<◌, ℕ, Bool, true, false, List, [], ◌∷◌, ◌++◌, length, Option, Some, None, Result, IfErr, IfOk, OnOk}
use Rattle.std.specs.List.{AllByRecursion, list_all}
use Rattle.undo_outside.specs.Disk.{DiskTold}
use Rattle.verb_core.specs.declared.conf.Conf.{Conf}
use Rattle.verb_core.specs.declared.conf.House.{House}
use Rattle.verb_core.specs.declared.item.Item.{Item}
use Rattle.verb_core.specs.declared.mailbox.Body.{Body}
use Rattle.verb_bytes.specs.declared.journal.JournalRecord.{JournalRecord}
use Rattle.verb_bytes.specs.declared.journal.JournalRecord.TheVariants.{Base as BaseRecord}
use Rattle.verb_bytes.specs.Spelling.{Spells}
use Rattle.seal_log.specs.Journal.{LiesAt, sealed}
use Rattle.seal_log.specs.Settled.{Holds}
use Rattle.seal_log.specs.declared.place.Place.{Place}
use Rattle.store_kept.specs.Founding.{entries_of, founded, is_entry_below, names_body}
use Rattle.store_kept.specs.Kept.{Kept}
use Rattle.mail_desk.specs.Founding.{Founded}
use Rattle.mail_desk.specs.declared.founding.BaseParts.{BaseParts}
use Rattle.desk_journal.specs.Founding.{Fore, first_fore, fore_of, goes_on, own, settled}
use Rattle.desk_journal.specs.Lasting.{PastTold}
use Rattle.desk_journal.specs.Records.{payloads_of}
use Rattle.desk_journal.specs.Stored.{TextsNoted, TextsStored}
use Rattle.desk_journal.specs.Telling.{IsPastRead}
use Rattle.time_desk.specs.declared.fault.StartFault.{StartFault}
use Rattle.time_desk.specs.declared.fault.StartFault.TheVariants.{NotFormatted, Damaged, Disk, NoMemory}
use Rattle.time_desk.specs.Opening.{SpellsNone, fits}
use Rattle.time_desk.specs.Standing.{BreaksInFront, ReadCounts}

-- ---- what was read of it

-- a Format alone, with this house and configuration
abbrev pub fore_at : House → Conf → Fore
fore_at house opening = record { house = house; opening = opening; based = None }

-- a desk that is founded
abbrev pub fore_in : Founded → Fore
fore_in f = record { house = f.house; opening = f.opening; based = Some f.based }

-- what is kept where it is over, and nothing is lacking
abbrev pub kept_in : Founded → Kept
kept_in f = founded f.house f.opening f.based

-- each text that has come is noted as lying before a gate
abbrev pub FoundNoted : ℕ → Founded → Type 0
FoundNoted gate f = TextsNoted gate f.notes (kept_in f)

-- and lies where it is noted, in a journal of these payloads
abbrev pub FoundStored : List (List ℕ) → Founded → Type 0
FoundStored payloads f = TextsStored payloads f.notes (kept_in f)

-- What it has is below its next number: the entries of its mailboxes, and the revs of the items; and each text that has come is named
-- in it.
pub record IsGrounded (f : Founded) : Type 0 where
  pub below : list_all (is_entry_below f.based.next) (entries_of f.based.rows) ≡ true
  pub named : AllByRecursion (λ (t : Body × List ℕ). names_body f.based.rows t.0 ≡ true) f.based.texts
  pub revs : AllByRecursion (λ (i : Item). i.rev < f.based.next) f.based.items

-- ---- one record

-- a payload spells a Format with which a journal can begin
pub record IsFirst (payload : List ℕ) (house : House) (conf : Conf) : Type 0 where
  pub what : JournalRecord
  pub spells : Spells what payload
  pub is : first_fore what ≡ Some (fore_at house conf)

-- the record of these parts
abbrev pub record_of : BaseParts → JournalRecord
record_of parts = BaseRecord parts.next parts.deep parts.conf parts.rows parts.stamps parts.reports

-- a record is a Base of these parts, or one that no front goes on with
abbrev pub BaseOf : JournalRecord → Option BaseParts → Type 0
BaseOf what None = goes_on what ≡ false
BaseOf what (Some parts) = what ≡ record_of parts

-- a payload spells such a record
pub record SpellsBase (payload : List ℕ) (base : Option BaseParts) : Type 0 where
  pub what : JournalRecord
  pub spells : Spells what payload
  pub is : BaseOf what base

-- the second payload does, where there is one
abbrev pub SecondIs : List (List ℕ) → Option BaseParts → Type 0
SecondIs (p ∷ q ∷ payloads) base = SpellsBase q base
SecondIs payloads base = base ≡ None

-- the payload spells no record that can stand behind what was read, and that is told of its gate
abbrev pub FailsFront : Option Fore → List ℕ → ℕ → StartFault → Type 0
FailsFront fore payload gate NotFormatted = ⊥
FailsFront fore payload gate (Damaged place) = SpellsNone (fits fore) payload × (place ≡ gate)
FailsFront fore payload gate Disk = Unit {0}
FailsFront fore payload gate NoMemory = Unit {0}

-- the second payload does not, where there is one
abbrev pub FailsSecond : Fore → List (List ℕ) → StartFault → Type 0
FailsSecond fore (p ∷ q ∷ payloads) fault = FailsFront (Some fore) q (length (sealed (p ∷ []))) fault
FailsSecond fore payloads NotFormatted = ⊥
FailsSecond fore payloads (Damaged place) = ⊥
FailsSecond fore payloads Disk = Unit {0}
FailsSecond fore payloads NoMemory = Unit {0}

-- a record went on with a front, or is of another kind, and nothing changed
abbrev pub GoesWith : Founded → JournalRecord → Bool → Founded → Type 0
GoesWith old what true new = own (fore_in old) what ≡ Some (fore_in new)
GoesWith old what false new = (goes_on what ≡ false) × (new ≡ old)

-- a payload spells such a record
pub record GoesOnWith (old : Founded) (payload : List ℕ) (went : Bool) (new : Founded) : Type 0 where
  pub what : JournalRecord
  pub spells : Spells what payload
  pub is : GoesWith old what went new

-- What comes of the record at a place that is read behind what was read of a front. It goes on with it or is of another kind, and the texts that
-- have come lie where they are noted; or it can't stand there, and its gate is told. The disk was read alone, and a read failed exactly where
-- that is why.
pub record GoesOnAt {D : Type 0} (told : D → DiskTold) (place : Place) (old new : PastTold D) (before after : Founded) (result : Result Bool StartFault) : Type 0 where
  pub goes : (payloads : List (List ℕ)) (payload : List ℕ) → Holds (told old.disk) payloads → LiesAt payloads place.gate place.length payload
      → IfOk result (λ went. GoesOnWith before payload went after)
  pub bad : (payloads : List (List ℕ)) (payload : List ℕ) → Holds (told old.disk) payloads → LiesAt payloads place.gate place.length payload
      → IfErr result (FailsFront (Some (fore_in before)) payload place.gate)
  pub noted : OnOk result (FoundNoted old.end after)
  pub grounded : OnOk result (IsGrounded after)
  pub stored : (payloads : List (List ℕ)) (payload : List ℕ) → Holds (told old.disk) payloads → LiesAt payloads place.gate place.length payload
      → FoundStored payloads before → OnOk result (FoundStored payloads after)
  pub still : IsPastRead told old new
  pub ok : OnOk result ((told new.disk).failed_reads ≡ (told old.disk).failed_reads)
  pub fault : IfErr result (ReadCounts (told old.disk) (told new.disk))

-- ---- many

-- there is no more payload, or the next spells a record that no front goes on with
abbrev pub IsOther : List (List ℕ) → Type 0
IsOther [] = Unit {0}
IsOther (payload ∷ payloads) = (what : JournalRecord) × Spells what payload × (goes_on what ≡ false)

-- So many of the payloads spell records that go on with what was read, and lead to this; and there the front is over.
pub record WentOn (records : List JournalRecord) (payloads : List (List ℕ)) (count : ℕ) (new : Founded) : Type 0 where
  pub more : List JournalRecord
  pub others : List (List ℕ)
  pub split : payloads ≡ payloads_of more ++ others
  pub count_is : count ≡ length more
  pub is_fore : fore_of (records ++ more) ≡ Some (fore_in new)
  pub other : IsOther others

-- why they do not lead on
abbrev pub StopsInFront : List (List ℕ) → StartFault → Type 0
StopsInFront payloads NotFormatted = ⊥
StopsInFront payloads (Damaged place) = BreaksInFront payloads place
StopsInFront payloads Disk = Unit {0}
StopsInFront payloads NoMemory = Unit {0}

-- ---- all of it

-- the front is over, and its base lacks something; or it ends in a frame that is cut
abbrev pub LacksOrEnds : Fore → Bool → Type 0
LacksOrEnds fore true = Unit {0}
LacksOrEnds fore false = settled fore ≡ None

-- the first payload spells a Format with this house and configuration
abbrev pub BeginsWith : List (List ℕ) → House → Conf → Type 0
BeginsWith [] house conf = ⊥
BeginsWith (payload ∷ payloads) house conf = IsFirst payload house conf

-- the first two payloads spell a Format and a Base on which a desk is founded, behind which nothing has come
pub record BeginsBased (payloads : List (List ℕ)) (founding : Founded) : Type 0 where
  pub records : List JournalRecord
  pub others : List (List ℕ)
  pub split : payloads ≡ payloads_of records ++ others
  pub two : length records ≡ 2
  pub is_fore : fore_of records ≡ Some (fore_in founding)
  pub none : founding.notes ≡ []
  pub texts : founding.based.texts ≡ []
  pub items : founding.based.items ≡ []
