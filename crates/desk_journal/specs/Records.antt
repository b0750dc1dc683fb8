-- Records, what they leave one after the other, and when one can stand.
--
-- A journal's records are true (`are_true`) where no record that stands in it is false. Of a record that cannot stand, and of
-- those behind it, it says nothing, since no call reads them.
use Rattle.std.specs.Prelude.{◌≡◌, ℕ, ◌==◌, nat_lt, Bool, true, false, ◌&&◌, not, List, [], ◌∷◌, map, length, nat_le, is_some, Option, Some, None, option_and_then, option_map, if◌then◌else◌}
use Rattle.std.specs.Coded.{Coded, codes}
use Rattle.std.specs.Option.{option_map_or}
use Rattle.undo_base.specs.declared.limits.TheConstants.{END_OF_NUMBERS}
use Rattle.verb_core.specs.Deeds.{act_item}
use Rattle.verb_core.specs.declared.conf.Conf.{Conf}
use Rattle.verb_core.specs.declared.item.Item.{Item}
use Rattle.verb_core.specs.declared.mailbox.BoxId.{BoxId}
use Rattle.verb_core.specs.declared.mailbox.Mailbox.{Mailbox}
use Rattle.verb_core.specs.Live.{answered}
use Rattle.verb_bytes.specs.declared.journal.CycleAsk.{CycleAsk}
use Rattle.verb_bytes.specs.declared.journal.JournalRecord.{JournalRecord}
use Rattle.verb_bytes.specs.declared.journal.JournalRecord.TheVariants.{Format, Verb, Operator, Cycle, Snapshot, Upgrade, Withdraw}
use Rattle.verb_bytes.specs.Spelling.{record_bytes}
use Rattle.seal_log.specs.Journal.{StandsFor}
use Rattle.withdraw.specs.declared.undone.UndoneBehind.{UndoneBehind}
use Rattle.box_store.specs.Making.{makes_store}
use Rattle.store_kept.specs.Kept.{Kept, passed, performed, snapshotted, store_of, undone_of, upgraded}
use Rattle.repair_desk.specs.Repairs.{are_known, position}
use Rattle.cycle_rules.specs.Asking.{Due, Repeats, NoPoint, NoNumbers, Rewinds, after_cycle, cycle_due}
use Rattle.cycle_rules.specs.Cycles.{Cycled}
use Rattle.cycle_rules.specs.Withdrawals.{after_withdrawal, withdraw_due}
use Rattle.desk_journal.specs.Sameness.{is_same}
pub use Rattle.desk_journal.specs.Formed.{agree, is_formed, is_spelled}
pub use Rattle.desk_journal.specs.Founding.{behind, first_fore, format_of, front, goes_on, is_behind, opening_state, settled}

-- ---- what a record says

-- the request of a cycle
abbrev pub cycle_in : JournalRecord → Option CycleAsk
cycle_in (Cycle number at ask) = Some ask
cycle_in _ = None

-- of how many items a snapshot is, and its configuration and its rows
abbrev pub snapshot_in : JournalRecord → Option (ℕ × Conf × List (BoxId × Mailbox))
snapshot_in (Snapshot items conf rows) = Some (items, conf, rows)
snapshot_in _ = None

-- whether a record is a cycle, and whether it is a snapshot
abbrev pub is_cycle : JournalRecord → Bool
is_cycle what = is_some (cycle_in what)

abbrev pub is_snapshot : JournalRecord → Bool
is_snapshot what = is_some (snapshot_in what)

-- whether a record goes back to a place and performs all behind it anew: it is a cycle or a withdrawal
abbrev pub is_rewind : JournalRecord → Bool
is_rewind (Cycle number at ask) = true
is_rewind (Withdraw number at key of) = true
is_rewind _ = false

-- whether a record is a withdrawal
abbrev pub is_withdrawal : JournalRecord → Bool
is_withdrawal (Withdraw number at key of) = true
is_withdrawal _ = false

-- the place of the timeline that a record goes back to, where it goes back: behind it all is performed anew. A withdrawal goes back
-- to the point of its cycle
abbrev pub place_rewound_to : Kept → JournalRecord → Option ℕ
place_rewound_to kept (Cycle number at ask) = position kept.timeline ask.point
place_rewound_to kept (Withdraw number at key of) = option_map (λ (last : UndoneBehind). last.position) (undone_of kept of)
place_rewound_to kept _ = None

-- ---- one record

-- whether an item can follow: it has the next number, there is one left, and it can be recorded
abbrev pub can_follow : Kept → Item → Bool
can_follow kept i = (i.number == kept.next) && nat_lt kept.next END_OF_NUMBERS && is_formed kept.house i

-- what is kept after the item of a record, where it can stand
abbrev pub after_item : Kept → JournalRecord → Item → Option Kept
after_item kept what item = if is_spelled what && can_follow kept item then Some (performed kept item) else None

-- what is kept after a request for a cycle or a withdrawal, where one is due: its key is new, what it goes back to is there, and
-- numbers are left
abbrev pub after_due : (Cycled → Kept) → Due → Option Kept
after_due after (Repeats report) = None
after_due after NoPoint = None
after_due after NoNumbers = None
after_due after (Rewinds due) = Some (after due)

-- whether a cycle can follow: it has the next number, and the users that its acts name are known
abbrev pub can_rewind : Kept → ℕ → CycleAsk → Bool
can_rewind kept number ask = (number == kept.next) && are_known kept.house ask.inserts

-- what is kept after the record of a cycle, where it can stand
abbrev pub after_cycle_record : Kept → ℕ → ℕ → CycleAsk → Option Kept
after_cycle_record kept number at ask =
    if is_spelled (Cycle number at ask) && can_rewind kept number ask then after_due (after_cycle kept ask) (cycle_due kept at ask) else None

-- what is kept after the record of a withdrawal, where it can stand: it has the next number
abbrev pub after_withdraw_record : Kept → ℕ → ℕ → List ℕ → ℕ → Option Kept
after_withdraw_record kept number at key of =
    if is_spelled (Withdraw number at key of) && (number == kept.next) then after_due (after_withdrawal kept key) (withdraw_due kept at key of) else None

-- the snapshot of what is kept: how many items are in force, and the store that they leave
abbrev pub snapshot_record : Kept → JournalRecord
snapshot_record kept = Snapshot (length kept.timeline) (store_of kept).conf (store_of kept).boxes

-- whether a snapshot can follow: it is of as many items as are in force, and makes a store of the house
abbrev pub can_keep : Kept → ℕ → Conf → List (BoxId × Mailbox) → Bool
can_keep kept items conf rows = (items == length kept.timeline) && makes_store kept.house conf rows

-- The record that would be true in the place of one. It is an item with the step's answer on the store of before, or the snapshot
-- of what is kept; and of any other record it is that record.
abbrev pub true_record : Kept → JournalRecord → JournalRecord
true_record kept (Verb item) = Verb (answered (store_of kept) item)
true_record kept (Snapshot items conf rows) = snapshot_record kept
true_record kept what = what

-- the code by which records are told apart
pub record_code : Coded JournalRecord
record_code = Prim.hlevel (codes)

-- whether a record is true of what is kept before it
abbrev pub is_true : Kept → JournalRecord → Bool
is_true kept what = is_same record_code what (true_record kept what)

-- what is kept after a snapshot that can stand: a cycle can begin from it where it is true, and else it is passed
abbrev pub after_kept : Kept → JournalRecord → Kept
after_kept kept what = if is_true kept what then snapshotted kept else record kept { marks = passed kept.marks }

-- what is kept after a snapshot, where it can stand
abbrev pub after_snapshot : Kept → ℕ → Conf → List (BoxId × Mailbox) → Option Kept
after_snapshot kept items conf rows =
    if is_spelled (Snapshot items conf rows) && can_keep kept items conf rows then Some (after_kept kept (Snapshot items conf rows)) else None

-- what is kept after an upgrade, where it can stand: there was none before
abbrev pub after_upgrade : Kept → ℕ → Option Kept
after_upgrade kept at = if is_spelled (Upgrade at) && not kept.deep then Some (upgraded kept) else None

-- what is kept after one more record; none where it can't stand
abbrev pub after_record : Kept → JournalRecord → Option Kept
after_record kept (Verb item) = after_item kept (Verb item) item
after_record kept (Operator number at act) = after_item kept (Operator number at act) (act_item number at act)
after_record kept (Cycle number at ask) = after_cycle_record kept number at ask
after_record kept (Snapshot items conf rows) = after_snapshot kept items conf rows
after_record kept (Upgrade at) = after_upgrade kept at
after_record kept (Withdraw number at key of) = after_withdraw_record kept number at key of
after_record kept _ = None

-- ---- many

-- what is kept after more records
abbrev pub after_records : Kept → List JournalRecord → Option Kept
after_records kept [] = Some kept
after_records kept (r ∷ rs) = option_and_then (λ next. after_records next rs) (after_record kept r)

-- whether each of more records is true of what is kept before it
abbrev pub all_true : Kept → List JournalRecord → Bool
all_true kept [] = true
all_true kept (r ∷ rs) = is_true kept r && option_map_or (λ next. all_true next rs) (after_record kept r) true

-- ---- a journal: its front, and the records behind it

-- what a journal's first record leaves, where no other goes on with it: it is a Format
abbrev pub first_state : JournalRecord → Option Kept
first_state what = option_and_then settled (first_fore what)

-- what a journal's records leave, where each of them can stand
abbrev pub state : List JournalRecord → Option Kept
state records = option_and_then (λ kept. after_records kept (behind records)) (opening_state (front records))

-- A journal is true where each record behind its front is true of what is kept before it; the front's are taken as given. Each item shows the step's
-- answer, and each snapshot holds the store.
abbrev pub are_true : List JournalRecord → Bool
are_true records = option_map_or (λ kept. all_true kept (behind records)) (opening_state (front records)) true

-- the bytes of each record
abbrev pub payloads_of : List JournalRecord → List (List ℕ)
payloads_of records = map record_bytes records

-- the image stands for these records
abbrev pub StandsForRecords : List JournalRecord → List ℕ → Type 0
StandsForRecords records image = StandsFor image (payloads_of records)

-- the image stands for records that leave this
pub record Leaves (kept : Kept) (image : List ℕ) : Type 0 where
  pub records : List JournalRecord
  pub stands : StandsForRecords records image
  pub state_is : state records ≡ Some kept
