-- What copies of a served store have of the records that were sealed.
use Rattle.std.specs.Prelude.{◌≡◌, ℕ, List, [], ◌∷◌, ◌++◌, Some}
use Rattle.undo_outside.specs.Disk.{IsOverwritten}
use Rattle.seal_log.specs.Loading.{IsDamagedAt}
use Rattle.verb_bytes.specs.declared.journal.JournalRecord.{JournalRecord}
use Rattle.store_kept.specs.Kept.{Kept}
use Rattle.desk_journal.specs.Crashing.{LeavesFront}
use Rattle.desk_journal.specs.Records.{StandsForRecords, state}

-- The bytes are damaged at a place. With one closed gate there they stand for the records and the first of the others, and each of them can stand.
pub record IsMendedTo (records others : List JournalRecord) (bytes : List ℕ) : Type 0 where
  pub place : ℕ
  pub damaged : IsDamagedAt bytes place
  pub mended : (new : List ℕ) → IsOverwritten bytes place (0 ∷ []) new → LeavesFront records others new

-- The bytes stand for these records, which leave this, and maybe for more behind them, and all of them can stand.
pub record HasAnswered (records : List JournalRecord) (kept : Kept) (bytes : List ℕ) : Type 0 where
  pub state_is : state records ≡ Some kept
  pub more : List JournalRecord
  pub leaves : LeavesFront records more bytes

-- The bytes are damaged at a place. With one closed gate there they stand for these records, which leave this, and maybe for more behind them. All of
-- them can stand.
pub record IsMendedToAnswered (records : List JournalRecord) (kept : Kept) (bytes : List ℕ) : Type 0 where
  pub state_is : state records ≡ Some kept
  pub more : List JournalRecord
  pub mended : IsMendedTo records more bytes

-- The bytes are damaged at a place, and with one closed gate there they stand for these records and maybe for more behind them.
pub record IsMendedWith (records : List JournalRecord) (bytes : List ℕ) : Type 0 where
  pub place : ℕ
  pub damaged : IsDamagedAt bytes place
  pub mended : (new : List ℕ) → IsOverwritten bytes place (0 ∷ []) new → (more : List JournalRecord) × StandsForRecords (records ++ more) new
