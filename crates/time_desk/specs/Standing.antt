-- Payloads that are read in order, and the records that stand one behind the other.
use Rattle.std.specs.Prelude.{◌≡◌, ◌⊎◌, ◌≤◌, ◌+◌, ℕ, Bool, true, false, ◌&&◌, not, List, [], ◌∷◌, ◌++◌, length, take, Option, Some, None, Result, IfErr, OnOk, IsTrue, if◌then◌else◌}
use Rattle.std.specs.List.{list_all}
use Rattle.undo_base.specs.declared.keys.User.{User}
use Rattle.verb_core.specs.declared.conf.Conf.{Conf}
use Rattle.verb_core.specs.declared.conf.House.{House}
use Rattle.verb_core.specs.declared.item.Deed.{Deed}
use Rattle.verb_core.specs.declared.item.Item.{Item}
use Rattle.verb_core.specs.Items.{has_form, is_own, keys_in, users_in}
use Rattle.verb_core.specs.Store.{is_known}
use Rattle.verb_bytes.specs.declared.journal.JournalRecord.{JournalRecord}
use Rattle.verb_bytes.specs.Spelling.{Spells}
use Rattle.undo_outside.specs.Disk.{DiskTold, ReadFailed}
use Rattle.seal_log.specs.Journal.{LiesAt, sealed}
use Rattle.seal_log.specs.Loading.{places_from}
use Rattle.seal_log.specs.declared.fault.ReadFault.{ReadFault}
use Rattle.seal_log.specs.declared.fault.ReadFault.TheVariants as read_faults
use Rattle.seal_log.specs.declared.place.Place.{Place}
use Rattle.shelf.specs.Marks.{with_mark}
use Rattle.mail_desk.specs.Held.{Held}
use Rattle.store_kept.specs.Kept.{new_desk, passed, performed, snapshotted, Kept}
use Rattle.store_kept.specs.Texts.{items_asked}
use Rattle.house_text.specs.Beginning.{can_begin}
use Rattle.time_desk.specs.declared.fault.StartFault.{StartFault}
use Rattle.time_desk.specs.declared.fault.StartFault.TheVariants.{NotFormatted, Damaged, Disk, NoMemory}
use Rattle.time_desk.specs.Opening.{IsFore, SpellsNone, can_come, fits}
use Rattle.desk_journal.specs.Founding.{Fore, behind, fore_of, front, goes_on, opening_state, settled}
use Rattle.desk_journal.specs.Lasting.{PastTold}
use Rattle.desk_journal.specs.Records.{after_record, after_records, can_follow, payloads_of, state}
use Rattle.desk_journal.specs.Stored.{AreNoted, TextsHeld}
use Rattle.desk_journal.specs.Telling.{IsPastRead}

-- ---- one record

-- what is kept at first, where a journal can begin so
abbrev pub begun : House → Conf → Option Kept
begun house conf = if can_begin house conf then Some (new_desk house conf) else None

-- what a spelling says of an item: it shows what its deed shows, and it has few keys
pub record IsFormed (i : Item) : Type 0 where
  pub form : IsTrue (has_form i.deed i.shown)
  pub keys : length (keys_in i.deed) ≤ 65536

-- whether an actor is such as a deed has: a known user exactly where the deed is a user's own
abbrev pub is_actor : House → Option User → Deed → Bool
is_actor house None deed = not (is_own deed)
is_actor house (Some user) deed = is_own deed && is_known house user

-- whether those who act and are named in an item are such as a record may have
abbrev pub has_users : House → Item → Bool
has_users house i = is_actor house i.by i.deed && list_all (is_known house) (users_in i.deed)

-- an item was performed where it can follow, and nothing was done where it can't
abbrev pub Enters : Kept → Item → Bool → Kept → Type 0
Enters kept item true new = (can_follow kept item ≡ true) × (new ≡ performed kept item)
Enters kept item false new = can_follow kept item ≡ false

-- what is kept after a snapshot that can stand, by whether it is true
abbrev pub kept_as : Kept → Bool → Kept
kept_as kept true = snapshotted kept
kept_as kept false = record kept { marks = passed kept.marks }

-- where the snapshots lie after one at a place
abbrev pub marked_as : Held → Bool → Place → List (ℕ × Place)
marked_as old true place = with_mark (length old.kept.timeline) place old.marks
marked_as old false place = old.marks

-- the same texts may be asked for, and each is noted where it was
pub record AsksAlike (old new : Held) : Type 0 where
  pub notes : new.notes ≡ old.notes
  pub items : items_asked new.kept ≡ items_asked old.kept
  pub texts : new.kept.texts ≡ old.kept.texts
  pub first : new.kept.first ≡ old.kept.first

-- a record was performed where it can stand, and nothing was done where it can't
abbrev pub Performs : Option Kept → Bool → Kept → Type 0
Performs due true new = due ≡ Some new
Performs due false new = due ≡ None

-- ---- faults on the way

-- why a desk is not started, where a payload was not read
abbrev pub fault_of_read : ReadFault → StartFault
fault_of_read read_faults.Disk = Disk
fault_of_read read_faults.NoMemory = NoMemory

-- a read failed where the fault says so, and none did elsewhere
abbrev pub ReadCounts : DiskTold → DiskTold → StartFault → Type 0
ReadCounts old new NotFormatted = new.failed_reads ≡ old.failed_reads
ReadCounts old new (Damaged place) = new.failed_reads ≡ old.failed_reads
ReadCounts old new Disk = ReadFailed old new
ReadCounts old new NoMemory = new.failed_reads ≡ old.failed_reads

-- a record can't stand, and that is told of its gate
abbrev pub Fails : Type 0 → ℕ → StartFault → Type 0
Fails none gate NotFormatted = ⊥
Fails none gate (Damaged place) = none × (place ≡ gate)
Fails none gate Disk = ⊥
Fails none gate NoMemory = Unit {0}

-- the same where texts are read
abbrev pub FailsReading : Type 0 → ℕ → StartFault → Type 0
FailsReading none gate NotFormatted = ⊥
FailsReading none gate (Damaged place) = none × (place ≡ gate)
FailsReading none gate Disk = Unit {0}
FailsReading none gate NoMemory = Unit {0}

-- the payload spells no record that comes to something
abbrev pub ComesToNone : (JournalRecord → Option Kept) → List ℕ → Type 0
ComesToNone due payload = (what : JournalRecord) → Spells what payload → due what ≡ None

-- and that is told of its gate
abbrev pub FailsPayload : (JournalRecord → Option Kept) → List ℕ → ℕ → StartFault → Type 0
FailsPayload due payload gate NotFormatted = ⊥
FailsPayload due payload gate (Damaged place) = ComesToNone due payload × (place ≡ gate)
FailsPayload due payload gate Disk = Unit {0}
FailsPayload due payload gate NoMemory = Unit {0}

-- the payload spells no record, and that is told of its gate
abbrev pub SpellsNothing : List ℕ → ℕ → StartFault → Type 0
SpellsNothing payload gate NotFormatted = ⊥
SpellsNothing payload gate (Damaged place) = ((what : JournalRecord) → Spells what payload → ⊥) × (place ≡ gate)
SpellsNothing payload gate Disk = Unit {0}
SpellsNothing payload gate NoMemory = Unit {0}

-- the payload spells a record that comes to this
pub record Performed (due : JournalRecord → Option Kept) (payload : List ℕ) (kept : Kept) : Type 0 where
  pub what : JournalRecord
  pub spells : Spells what payload
  pub is : due what ≡ Some kept

-- What comes of the record at a place that is read and performed. What is kept is what it comes to, and the texts lie where they are noted;
-- or it comes to nothing, and its gate is told. The disk was read alone, and a read failed exactly where that is why.
pub record PerformsAt {D T : Type 0} (told : D → DiskTold) (place : Place) (old new : PastTold D) (before after : Held) (result : Result T StartFault) : Type 0 where
  pub performed : (payloads : List (List ℕ)) (payload : List ℕ) → TextsHeld (told old.disk) payloads before.kept before.notes before.marks
      → LiesAt payloads place.gate place.length payload → OnOk result (Performed (after_record before.kept) payload after.kept)
  pub bad : (payloads : List (List ℕ)) (payload : List ℕ) → TextsHeld (told old.disk) payloads before.kept before.notes before.marks
      → LiesAt payloads place.gate place.length payload → IfErr result (FailsPayload (after_record before.kept) payload place.gate)
  pub texts : (payloads : List (List ℕ)) (payload : List ℕ) → TextsHeld (told old.disk) payloads before.kept before.notes before.marks
      → LiesAt payloads place.gate place.length payload → OnOk result (TextsHeld (told new.disk) payloads after.kept after.notes after.marks)
  pub noted : OnOk result (AreNoted old.end after)
  pub still : IsPastRead told old new
  pub ok : OnOk result ((told new.disk).failed_reads ≡ (told old.disk).failed_reads)
  pub fault : IfErr result (ReadCounts (told old.disk) (told new.disk))

-- ---- many payloads

-- the payloads spell records that lead from what is kept to this
pub record LeadsTo (kept : Kept) (payloads : List (List ℕ)) (new : Kept) : Type 0 where
  pub records : List JournalRecord
  pub spelled : payloads ≡ payloads_of records
  pub leaves : after_records kept records ≡ Some new

-- The first of the payloads spell records that can stand, and the next spells none that can stand there; its gate is here.
pub record StopsAt (kept : Kept) (gate : ℕ) (payloads : List (List ℕ)) (place : ℕ) : Type 0 where
  pub first : List (List ℕ)
  pub payload : List ℕ
  pub after : List (List ℕ)
  pub split : payloads ≡ first ++ payload ∷ after
  pub mid : Kept
  pub leads : LeadsTo kept first mid
  pub stands_none : ComesToNone (after_record mid) payload
  pub place_is : place ≡ gate + length (sealed first)

-- why the payloads do not lead on from what is kept
abbrev pub StopsFor : Kept → ℕ → List (List ℕ) → StartFault → Type 0
StopsFor kept gate payloads NotFormatted = ⊥
StopsFor kept gate payloads (Damaged place) = StopsAt kept gate payloads place
StopsFor kept gate payloads Disk = Unit {0}
StopsFor kept gate payloads NoMemory = Unit {0}

-- the payloads spell records that leave this
pub record SpellsAll (payloads : List (List ℕ)) (kept : Kept) : Type 0 where
  pub records : List JournalRecord
  pub spelled : payloads ≡ payloads_of records
  pub state_is : state records ≡ Some kept

-- ---- all payloads of a journal

-- The first of the payloads spell the records that a journal opens with, and leave this; what the others spell, which lie at
-- these places, stands behind them.
pub record Opens (payloads : List (List ℕ)) (kept : Kept) (places : List Place) : Type 0 where
  pub records : List JournalRecord
  pub others : List (List ℕ)
  pub split : payloads ≡ payloads_of records ++ others
  pub state_is : opening_state records ≡ Some kept
  pub fronts : (more : List JournalRecord) (rest : List (List ℕ)) → others ≡ payloads_of more ++ rest → front (records ++ more) ≡ records
  pub behinds : (more : List JournalRecord) (rest : List (List ℕ)) → others ≡ payloads_of more ++ rest → behind (records ++ more) ≡ more
  pub places_are : places ≡ places_from (length (sealed (payloads_of records))) others

-- ---- a journal's payloads that leave nothing

-- The front is broken. The first payloads spell what was read of it, and the next spells neither a record that goes on with it nor
-- one of another kind; its gate is here.
pub record BreaksInFront (payloads : List (List ℕ)) (place : ℕ) : Type 0 where
  pub records : List JournalRecord
  pub fore : Option Fore
  pub is_fore : IsFore records fore
  pub payload : List ℕ
  pub after : List (List ℕ)
  pub split : payloads ≡ payloads_of records ++ payload ∷ after
  pub stands_none : SpellsNone (fits fore) payload
  pub place_is : place ≡ length (sealed (payloads_of records))

-- behind a front all payloads were read, and no frame that is cut stands there; or the next spells a record of another kind
abbrev pub IsOver : Bool → List (List ℕ) → Type 0
IsOver cut [] = cut ≡ false
IsOver cut (payload ∷ payloads) = (what : JournalRecord) × Spells what payload × (goes_on what ≡ false)

-- The first payloads spell a front whose base lacks what was to stand behind it; the gate of the Base is here.
pub record BreaksInBase (cut : Bool) (payloads : List (List ℕ)) (place : ℕ) : Type 0 where
  pub records : List JournalRecord
  pub fore : Fore
  pub is_fore : fore_of records ≡ Some fore
  pub lacks : settled fore ≡ None
  pub others : List (List ℕ)
  pub split : payloads ≡ payloads_of records ++ others
  pub over : IsOver cut others
  pub place_is : place ≡ length (sealed (payloads_of (take 1 records)))

-- all payloads spell what was read of a front, and behind them, here, stands a frame that is cut
pub record BreaksAtEnd (cut : Bool) (end : ℕ) (payloads : List (List ℕ)) (place : ℕ) : Type 0 where
  pub is_cut : cut ≡ true
  pub records : List JournalRecord
  pub fore : Option Fore
  pub is_fore : IsFore records fore
  pub split : payloads ≡ payloads_of records
  pub place_is : place ≡ end

-- the first payloads spell records that leave this, and the next spells none that can stand behind them; its gate is here
pub record BreaksBehind (payloads : List (List ℕ)) (place : ℕ) : Type 0 where
  pub records : List JournalRecord
  pub payload : List ℕ
  pub after : List (List ℕ)
  pub split : payloads ≡ payloads_of records ++ payload ∷ after
  pub kept : Kept
  pub state_is : state records ≡ Some kept
  pub stands_none : SpellsNone (can_come records kept) payload
  pub place_is : place ≡ length (sealed (payloads_of records))

-- a journal does not begin with what it can open with: its front is broken, its base lacks something, or the journal ends within it
abbrev pub FrontBreaks : Bool → ℕ → List (List ℕ) → ℕ → Type 0
FrontBreaks cut end payloads place = BreaksInFront payloads place ⊎ BreaksInBase cut payloads place ⊎ BreaksAtEnd cut end payloads place

-- a journal's payloads leave nothing: the front does not, or one of those behind it can't follow
abbrev pub BreaksAt : Bool → ℕ → List (List ℕ) → ℕ → Type 0
BreaksAt cut end payloads place = FrontBreaks cut end payloads place ⊎ BreaksBehind payloads place

-- why a journal's payloads do not begin with what it can open with, where a frame that is cut stands behind them here, or none
abbrev pub FrontBreaksFor : Bool → ℕ → List (List ℕ) → StartFault → Type 0
FrontBreaksFor cut end payloads NotFormatted = ⊥
FrontBreaksFor cut end payloads (Damaged place) = FrontBreaks cut end payloads place
FrontBreaksFor cut end payloads Disk = Unit {0}
FrontBreaksFor cut end payloads NoMemory = Unit {0}

-- why they leave nothing
abbrev pub BreaksFor : Bool → ℕ → List (List ℕ) → StartFault → Type 0
BreaksFor cut end payloads NotFormatted = ⊥
BreaksFor cut end payloads (Damaged place) = BreaksAt cut end payloads place
BreaksFor cut end payloads Disk = Unit {0}
BreaksFor cut end payloads NoMemory = Unit {0}
