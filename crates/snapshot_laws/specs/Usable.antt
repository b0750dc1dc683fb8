-- From which snapshots of a journal a cycle can begin, and what of a journal is counted, in the words of its records.
use Rattle.std.specs.Prelude.{◌≡◌, ℕ, ◌≤◌, true, List, ◌∷◌, ◌++◌, length, filter, Some}
use Rattle.verb_core.specs.declared.conf.Conf.{Conf}
use Rattle.verb_core.specs.declared.mailbox.BoxId.{BoxId}
use Rattle.verb_core.specs.declared.mailbox.Mailbox.{Mailbox}
use Rattle.verb_bytes.specs.declared.journal.JournalRecord.{JournalRecord}
use Rattle.verb_bytes.specs.declared.journal.JournalRecord.TheVariants.{Snapshot}
use Rattle.store_kept.specs.Kept.{Kept}
use Rattle.desk_journal.specs.Records.{is_rewind, is_snapshot, is_true, place_rewound_to, state}

-- ---- which can be used

-- no record behind the first so many goes back to a lower position than this
abbrev pub GoesNoLower : List JournalRecord → ℕ → ℕ → Type 0
GoesNoLower records count items =
    (before after : List JournalRecord) (what : JournalRecord) (kept : Kept) (place : ℕ) →
    records ≡ before ++ what ∷ after → count ≤ length before → state before ≡ Some kept → place_rewound_to kept what ≡ Some place → items ≤ place

-- among the records is a snapshot of so many items that is true, and no later record goes back to a lower position
pub record IsUsable (records : List JournalRecord) (items : ℕ) : Type 0 where
  pub before : List JournalRecord
  pub conf : Conf
  pub rows : List (BoxId × Mailbox)
  pub after : List JournalRecord
  pub split : records ≡ before ++ Snapshot items conf rows ∷ after
  pub kept : Kept
  pub state_is : state before ≡ Some kept
  pub true_is : is_true kept (Snapshot items conf rows) ≡ true
  pub lasts : GoesNoLower records (length before) items

-- ---- how many there are

-- how many records are snapshots, and how many are cycles and withdrawals
abbrev pub snapshots_in : List JournalRecord → ℕ
snapshots_in records = length (filter is_snapshot records)

abbrev pub rewinds_in : List JournalRecord → ℕ
rewinds_in records = length (filter is_rewind records)
