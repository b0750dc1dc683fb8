-- What a call seals.
use Rattle.std.specs.Prelude.{◌≡◌, ◌≤◌, ◌⊎◌, ℕ, ◌||◌, Bool, false, not, IsSome, IsTrue, List, [], ◌∷◌, ◌++◌, Some}
use Rattle.std.specs.List.{list_any}
use Rattle.undo_outside.specs.Disk.{DiskTold, WriteFailed}
use Rattle.undo_outside.specs.Moments.{LeavesOnly}
use Rattle.seal_log.specs.Journal.{StandsForFront}
use Rattle.seal_log.specs.Settled.{IsSettled}
use Rattle.verb_core.specs.Names.{is_empty}
use Rattle.verb_core.specs.declared.item.Item.{Item}
use Rattle.verb_bytes.specs.declared.journal.JournalRecord.{JournalRecord}
use Rattle.verb_bytes.specs.Spelling.{record_bytes}
use Rattle.store_kept.specs.Kept.{Kept, performed}
use Rattle.desk_journal.specs.Lasting.{Lasting}
use Rattle.desk_journal.specs.Records.{after_record, after_records, all_true, is_rewind, is_true, payloads_of}
use Rattle.desk_journal.specs.Stored.{HoldsTexts}

-- a record that can stand, and is true: these are its bytes, and this is what it leaves
pub record IsRecordTo (what : JournalRecord) (bytes : List ℕ) (kept next : Kept) : Type 0 where
  pub bytes_are : record_bytes what ≡ bytes
  pub can_stand : after_record kept what ≡ Some next
  pub truth : IsTrue (is_true kept what)

-- the record of an item: it leaves the item performed
abbrev pub IsRecordOf : JournalRecord → List ℕ → Kept → Item → Type 0
IsRecordOf what bytes kept item = IsRecordTo what bytes kept (performed kept item)

-- a write or a sync failed exactly where there is something whose sealing failed
abbrev pub FailsFor : List (List ℕ) → DiskTold → DiskTold → Type 0
FailsFor [] old new = new.failed_writes ≡ old.failed_writes
FailsFor (p ∷ ps) old new = WriteFailed old new

-- From old to new these payloads were sealed, in order, and then the sealing of these, one or none, failed. It holds behind
-- whatever payloads the disk was settled behind.
pub record SealsPayloads (added failed : List (List ℕ)) (old new : DiskTold) (gate next : ℕ) : Type 0 where
  -- where none failed the disk is settled behind them all
  pub settled : (payloads : List (List ℕ)) → IsSettled old gate payloads → failed ≡ [] → IsSettled new next (payloads ++ added)
  -- each image of now has those that were sealed, and maybe the one that failed
  pub front : (payloads : List (List ℕ)) → IsSettled old gate payloads → (c : List ℕ) → new.images c → StandsForFront (payloads ++ added) failed c
  -- a crash at any moment leaves those from before, and the first of these
  pub any_moment : (payloads : List (List ℕ)) → IsSettled old gate payloads → LeavesOnly old new (StandsForFront payloads (added ++ failed))
  pub writes : FailsFor failed old new
  pub reads : old.failed_reads ≤ new.failed_reads
  pub reliable : new.is_reliable ≡ old.is_reliable
  pub honest : old.honest → new.honest

-- whether a record's performing reads texts: a cycle or a withdrawal performs items with the texts that the disk gives
abbrev pub reads_texts : JournalRecord → Bool
reads_texts what = is_rewind what

-- none of the records performs anything with texts that are read
abbrev pub ReadNoTexts : List JournalRecord → Type 0
ReadNoTexts records = list_any reads_texts records ≡ false

-- The same of records and a desk. Each could stand and is true, what is kept is what the sealed ones leave, and the desk is closed
-- from then on where one failed. A cycle or a withdrawal performs items with the texts that are read: what it leaves is told where
-- those are what was stored.
pub record Seals {D : Type 0} (told : D → DiskTold) (added failed : List JournalRecord) (old new : Lasting D) : Type 0 where
  pub kept : HoldsTexts told old ⊎ ReadNoTexts added → after_records old.kept added ≡ Some new.kept
  pub house : new.kept.house ≡ old.kept.house
  pub could : IsSome (after_records new.kept failed)
  pub truth : HoldsTexts told old ⊎ ReadNoTexts added → IsTrue (all_true old.kept (added ++ failed))
  pub closed : new.closed ≡ (old.closed || not (is_empty failed))
  pub on_disk : SealsPayloads (payloads_of added) (payloads_of failed) (told old.disk) (told new.disk) old.gate new.gate
  pub texts : HoldsTexts told old → HoldsTexts told new
