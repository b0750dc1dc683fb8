-- Which record of a journal is not true.
use Rattle.std.specs.Prelude.{◌≡◌, ◌⊎◌, ℕ, ◌+◌, Bool, true, false, List, [], ◌∷◌, ◌++◌, length, Option, Some, None, option_and_then, if◌then◌else◌}
use Rattle.std.specs.Option.{option_or}
use Rattle.verb_core.specs.declared.item.Item.{Item}
use Rattle.verb_core.specs.Step.{step}
use Rattle.verb_bytes.specs.declared.journal.JournalRecord.{JournalRecord}
use Rattle.verb_bytes.specs.Spelling.{Spells, record_bytes}
use Rattle.seal_log.specs.Journal.{sealed}
use Rattle.store_kept.specs.Kept.{Kept, performed, store_of}
use Rattle.desk_journal.specs.Records.{after_record, after_records, behind, front, is_true, opening_state, payloads_of, state}

-- an item is judged: it shows what the step shows, and it was performed; or it shows another
abbrev pub JudgesItem : Kept → Item → Bool → Kept → Type 0
JudgesItem kept item true new = (item.shown ≡ (step (store_of kept) item).1) × (new ≡ performed kept item)
JudgesItem kept item false new = item.shown ≡ (step (store_of kept) item).1 → ⊥

-- a record is judged: it is true of what is kept before it, and was performed; or it is not, or it can't stand
abbrev pub Judges : Kept → JournalRecord → Bool → Kept → Type 0
Judges kept what true new = (is_true kept what ≡ true) × (after_record kept what ≡ Some new)
Judges kept what false new = (is_true kept what ≡ false) ⊎ (after_record kept what ≡ None)

-- the gate of the first of more records that is not true of what is kept before it, where that of the first of all stands here
abbrev pub first_false : Kept → ℕ → List JournalRecord → Option ℕ
first_false kept gate [] = None
first_false kept gate (r ∷ rs) =
    if is_true kept r then option_and_then (λ next. first_false next (gate + 5 + length (record_bytes r)) rs) (after_record kept r) else Some gate

-- the gate of the first record behind a journal's front that is not true: the front is taken as given
abbrev pub false_record : List JournalRecord → Option ℕ
false_record records =
    option_and_then (λ kept. first_false kept (length (sealed (payloads_of (front records)))) (behind records)) (opening_state (front records))

-- ---- where a record decodes no more

-- the payload spells no record
abbrev pub SpellsNoRecord : List ℕ → Type 0
SpellsNoRecord payload = (what : JournalRecord) → Spells what payload → ⊥

-- The first of the payloads spell these records, and the next spells none.
pub record EndsUnread (payloads : List (List ℕ)) (records : List JournalRecord) : Type 0 where
  pub payload : List ℕ
  pub after : List (List ℕ)
  pub split : payloads ≡ payloads_of records ++ payload ∷ after
  pub none : SpellsNoRecord payload

-- the same of records that leave something, behind a front of their own or behind what is kept
abbrev pub LeavesUnread : List (List ℕ) → List JournalRecord → Type 0
LeavesUnread payloads records = (kept : Kept) × (state records ≡ Some kept) × EndsUnread payloads records

abbrev pub LeadsUnread : Kept → List (List ℕ) → List JournalRecord → Type 0
LeadsUnread first payloads records = (kept : Kept) × (after_records first records ≡ Some kept) × EndsUnread payloads records

-- the gate of the first of these records that is not true, or of what stands behind them
abbrev pub false_or_behind : List JournalRecord → Option ℕ
false_or_behind records = option_or (false_record records) (Some (length (sealed (payloads_of records))))
