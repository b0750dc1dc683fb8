-- A withdrawal: the last cycle is taken back, and the work since then stays.
--
-- An upgrade, a snapshot, an item and a trial leave what can be withdrawn; a cycle or a withdrawal whose key was used sets and
-- takes away nothing.
--
-- `kept` counts the notices of the withdrawn cycle, which stand behind the point as later items do.
--
-- A number that is not the last cycle's is told before missing numbers are. A key that was used is told before both, also a
-- cycle's key at a withdrawal and the other way round.
use Rattle.std.specs.Prelude.{ℕ, Option, Some, None, [], drop, length, if◌then◌else◌, List}
use Rattle.verb_core.specs.declared.item.Item.{Item}
use Rattle.withdraw.specs.declared.undone.UndoneBehind.{UndoneBehind}
use Rattle.withdraw.specs.Unediting.{unedited_behind}
use Rattle.store_kept.specs.Kept.{Kept, report_of, undone_of}
use Rattle.cycle_rules.specs.Repairing.{Cycled, Repair, leaves_numbers_for, reworked}
use Rattle.cycle_rules.specs.Asking.{Due, NoPoint, NoNumbers, Rewinds, after_repair, due_by}

-- The items: those through the cycle's point, those that stood behind it, as they are shown at present, and those that came after
-- the cycle's own, its notices first.
abbrev pub restored_items : Kept → UndoneBehind → List Item
restored_items s last = unedited_behind s.timeline last

-- The repair that takes it back. No act comes in. Each item behind the point stays, and is told of where what it shows at present,
-- or showed when it went, no longer holds.
abbrev pub unedit_of : Kept → UndoneBehind → Repair
unedit_of s last = record {
  place = last.position;
  items = restored_items s last;
  acts = 0;
  before = drop last.position (restored_items s last);
  drops = [];
  point = last.point;
  kept = length (drop last.position (restored_items s last));
  unmatched = [];
}

-- What the withdrawal leaves, at a moment.
abbrev pub withdrawn_at : Kept → ℕ → UndoneBehind → Cycled
withdrawn_at s at last = reworked s at (unedit_of s last)

-- ---- what is due to a request

-- by what the cycle of the given number left: it is not the last of all cycles and withdrawals, or numbers are left for the
-- withdrawal and a notice to each user
abbrev pub withdraw_due_at : Kept → ℕ → Option UndoneBehind → Due
withdraw_due_at s at None = NoPoint
withdraw_due_at s at (Some last) = if leaves_numbers_for s 0 then Rewinds (withdrawn_at s at last) else NoNumbers

-- under a new key
abbrev pub withdraw_due_anew : Kept → ℕ → ℕ → Due
withdraw_due_anew s at cycle = withdraw_due_at s at (undone_of s cycle)

-- at a moment: a key that a cycle or a withdrawal had is answered with its report
abbrev pub withdraw_due : Kept → ℕ → List ℕ → ℕ → Due
withdraw_due s at key cycle = due_by (report_of s.reports key) (withdraw_due_anew s at cycle)

-- what is kept after the withdrawal, which can't be withdrawn
abbrev pub after_withdrawal : Kept → List ℕ → Cycled → Kept
after_withdrawal s key due = after_repair s key due None
