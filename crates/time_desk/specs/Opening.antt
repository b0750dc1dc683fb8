-- What an image opens as, and what becomes of a disk on which a journal is opened.
use Rattle.std.specs.Prelude.{◌≡◌, ◌⊎◌, ◌<◌, ℕ, Bool, false, not, ◌&&◌, ◌||◌, List, [], ◌∷◌, ◌++◌, length, take, is_some, Option, Some, None, Result, Ok, Err, IsErrOf}
use Rattle.std.specs.List.{AllByRecursion}
use Rattle.undo_outside.specs.Disk.{DiskTold, ReadFailed, WriteFailed}
use Rattle.undo_outside.specs.Moments.{LeavesOnly}
use Rattle.verb_core.specs.Names.{is_empty}
use Rattle.verb_bytes.specs.declared.journal.JournalRecord.{JournalRecord}
use Rattle.verb_bytes.specs.Spelling.{Spells}
use Rattle.seal_log.specs.Causes.{SameCounts}
use Rattle.seal_log.specs.Journal.{frame, sealed, BeginsClosed, IsPayload}
use Rattle.seal_log.specs.Loading.{BeginsCut, IsNotFormatted}
use Rattle.seal_log.specs.Settled.{IsSettled}
use Rattle.store_kept.specs.Kept.{Kept}
use Rattle.time_desk.specs.declared.fault.StartFault.{StartFault}
use Rattle.time_desk.specs.declared.fault.StartFault.TheVariants.{NotFormatted, Damaged, Disk, NoMemory}
use Rattle.desk_journal.specs.Founding.{Fore, behind, first_fore, fore_of, goes_on, own, settled}
use Rattle.desk_journal.specs.Records.{Leaves, StandsForRecords, after_record, payloads_of, state}

-- ---- damage

-- the payload spells no record that passes
abbrev pub SpellsNone : (JournalRecord → Bool) → List ℕ → Type 0
SpellsNone stands payload = (what : JournalRecord) → Spells what payload → stands what ≡ false

-- an open gate, a frame and a gate stand first, and the payload spells no record that passes
pub record BeginsBad (stands : JournalRecord → Bool) (bytes : List ℕ) : Type 0 where
  pub payload : List ℕ
  pub more : List ℕ
  pub split : bytes ≡ 85 ∷ (frame payload ++ more)
  pub fits : IsPayload payload
  pub some : 0 < length more
  pub stands_none : SpellsNone stands payload

-- an open gate stands first, and behind it no record that passes: its frame and the next gate are not within the bytes, or its
-- payload spells none
abbrev pub BeginsBroken : (JournalRecord → Bool) → List ℕ → Type 0
BeginsBroken stands bytes = BeginsCut bytes ⊎ BeginsBad stands bytes

-- These records are what was read of a journal's front, and this is what they have; or none was read.
abbrev pub IsFore : List JournalRecord → Option Fore → Type 0
IsFore records None = records ≡ []
IsFore records (Some f) = fore_of records ≡ Some f

-- whether a record can stand behind them by its own rules: it goes on with the front, or it is of another kind, and the front is over
abbrev pub fits : Option Fore → JournalRecord → Bool
fits None what = is_some (first_fore what)
fits (Some f) what = not (goes_on what) || is_some (own f what)

-- The front is broken. Behind what was read of it an open gate stands at this place, and behind it neither a record that goes on with
-- it nor one of another kind.
pub record IsDamagedInFront (image : List ℕ) (place : ℕ) : Type 0 where
  pub records : List JournalRecord
  pub fore : Option Fore
  pub is_fore : IsFore records fore
  pub rest : List ℕ
  pub split : image ≡ sealed (payloads_of records) ++ rest
  pub short : AllByRecursion IsPayload (payloads_of records)
  pub place_is : place ≡ length (sealed (payloads_of records))
  pub bad : BeginsBroken (fits fore) rest

-- an open gate, a frame and a gate stand first, and the payload spells a record that no front goes on with
pub record BeginsOther (bytes : List ℕ) : Type 0 where
  pub payload : List ℕ
  pub more : List ℕ
  pub split : bytes ≡ 85 ∷ (frame payload ++ more)
  pub short : IsPayload payload
  pub some : 0 < length more
  pub what : JournalRecord
  pub spells : Spells what payload
  pub other : goes_on what ≡ false

-- The front is over, and its base lacks what was to stand behind it: the text of a body that it names, or the mailboxes that its stamps
-- name. The place is the gate of the Base, a journal's second record.
pub record IsDamagedInBase (image : List ℕ) (place : ℕ) : Type 0 where
  pub records : List JournalRecord
  pub fore : Fore
  pub is_fore : fore_of records ≡ Some fore
  pub lacks : settled fore ≡ None
  pub rest : List ℕ
  pub split : image ≡ sealed (payloads_of records) ++ rest
  pub short : AllByRecursion IsPayload (payloads_of records)
  pub place_is : place ≡ length (sealed (payloads_of (take 1 records)))
  pub over : BeginsClosed rest ⊎ BeginsOther rest

-- whether a record can stand behind records that leave this: it can follow, or it goes on with them, where they are a front
abbrev pub can_come : List JournalRecord → Kept → JournalRecord → Bool
can_come records kept what = (is_empty (behind records) && goes_on what) || is_some (after_record kept what)

-- Behind records that leave this, an open gate stands at this place, and behind it no record that can stand there.
pub record IsDamagedBehind (image : List ℕ) (place : ℕ) : Type 0 where
  pub records : List JournalRecord
  pub rest : List ℕ
  pub split : image ≡ sealed (payloads_of records) ++ rest
  pub short : AllByRecursion IsPayload (payloads_of records)
  pub kept : Kept
  pub state_is : state records ≡ Some kept
  pub place_is : place ≡ length (sealed (payloads_of records))
  pub bad : BeginsBroken (can_come records kept) rest

-- the image is damaged at a place: in its front, in its base, or behind them
abbrev pub IsDamaged : List ℕ → ℕ → Type 0
IsDamaged image place = IsDamagedInFront image place ⊎ IsDamagedInBase image place ⊎ IsDamagedBehind image place

-- ---- the answer that is due

-- an image opens as what its records leave, where each of them can stand; or it is no journal; or it is damaged at this place
abbrev pub OpensAs : List ℕ → Result Kept StartFault → Type 0
OpensAs image (Ok kept) = Leaves kept image
OpensAs image (Err NotFormatted) = IsNotFormatted image
OpensAs image (Err (Damaged place)) = IsDamaged image place
OpensAs image (Err Disk) = ⊥
OpensAs image (Err NoMemory) = ⊥

-- ---- the disk

-- the image stands for records that leave this, and the disk is settled behind them
pub record IsStarted (image : List ℕ) (disk : DiskTold) (kept : Kept) (gate : ℕ) : Type 0 where
  pub records : List JournalRecord
  pub stands : StandsForRecords records image
  pub state_is : state records ≡ Some kept
  pub settled : IsSettled disk gate (payloads_of records)

-- why an image does not open: what is due, or a call on the disk failed, or no memory was found
abbrev pub Refuses : List ℕ → StartFault → Type 0
Refuses image NotFormatted = OpensAs image (Err NotFormatted)
Refuses image (Damaged place) = OpensAs image (Err (Damaged place))
Refuses image Disk = Unit {0}
Refuses image NoMemory = Unit {0}

-- what is found in an image, with the last gate of the journal
abbrev pub Finds : List ℕ → DiskTold → Result (Kept × ℕ) StartFault → Type 0
Finds image disk (Ok started) = IsStarted image disk started.0 started.1
Finds image disk (Err fault) = Refuses image fault

-- a call on the disk failed where the fault says so, and none did elsewhere
abbrev pub CountsOfFault : DiskTold → DiskTold → StartFault → Type 0
CountsOfFault old new NotFormatted = SameCounts old new
CountsOfFault old new (Damaged place) = SameCounts old new
CountsOfFault old new Disk = ReadFailed old new ⊎ WriteFailed old new
CountsOfFault old new NoMemory = SameCounts old new

abbrev pub CountsOfStart : DiskTold → DiskTold → Result (Kept × ℕ) StartFault → Type 0
CountsOfStart old new (Ok started) = SameCounts old new
CountsOfStart old new (Err fault) = CountsOfFault old new fault

-- A journal is opened: nothing is written, and a crash at any moment leaves what it could have left before.
pub record Starts (old new : DiskTold) (result : Result (Kept × ℕ) StartFault) : Type 0 where
  pub found : old.honest → Finds old.content new result
  pub counts : CountsOfStart old new result
  pub reliable : new.is_reliable ≡ old.is_reliable
  pub any_moment : old.honest → LeavesOnly old new old.images
  pub size : new.size ≡ old.size
  pub honest : old.honest → new.honest
  -- what reads give is as before, but where a call failed
  pub content : old.honest → (IsErrOf result Disk → ⊥) → new.content ≡ old.content
  -- a disk without a byte is not formatted, also where it isn't honest
  pub empty : old.size ≡ 0 → IsErrOf result NotFormatted ⊎ IsErrOf result Disk
