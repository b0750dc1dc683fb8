-- How many records lead from what is kept to what is kept later.
use Rattle.std.proofs.Common.{◌≡◌, ℕ, suc, ◌+◌, ◌≤◌, arith, Bool, true, false, true≢false, cond, not, ◌&&◌, List, [], ◌∷◌, length, Option, None, Some, is_some, unwrap_or, ◌==◌, refl, ap, sym}
use Rattle.std.specs.Prelude.{IfSome}
use Rattle.std.specs.Option.{option_and_then}
use Rattle.std.specs.Cmp.{second_so}
use Rattle.paradox.specs.declared.reports.Report.{Report}
use Rattle.verb_core.specs.Deeds.{act_item}
use Rattle.verb_core.specs.declared.item.Item.{Item}
use Rattle.verb_bytes.specs.declared.journal.CycleAsk.{CycleAsk}
use Rattle.verb_bytes.specs.declared.journal.JournalRecord.{JournalRecord}
use Rattle.verb_bytes.specs.declared.journal.JournalRecord.TheVariants.{Format, Verb, Operator, Cycle, Snapshot, Upgrade, Withdraw, Base, Text, Kept as KeptItem}
use Rattle.withdraw.specs.declared.undone.UndoneBehind.{UndoneBehind}
use Rattle.store_kept.specs.Kept.{Kept, passed, performed, report_of, snapshotted, undone_of, upgraded}
use Rattle.repair_desk.specs.Repairs.{position}
use Rattle.cycle_rules.specs.Asking.{Due, Repeats, NoPoint, NoNumbers, Rewinds, after_cycle, cycle_due, due_at, due_by}
use Rattle.cycle_rules.specs.Cycles.{Cycled, cycled_at, leaves_numbers, repair_of}
use Rattle.cycle_rules.specs.Repairing.{leaves_numbers_for, told_in}
use Rattle.cycle_rules.specs.Withdrawals.{after_withdrawal, unedit_of, withdraw_due, withdraw_due_at, withdrawn_at}
use Rattle.desk_journal.specs.Formed.{is_spelled}
use Rattle.desk_journal.specs.Records.{after_due, after_item, after_kept, after_record, after_records, after_upgrade, can_follow, can_keep, can_rewind, is_true}
use Rattle.cost_laws.specs.Items.{all_performed}

-- how far it has gone: the numbers drawn, the snapshots, and the upgrade
abbrev pub one_if : Bool → ℕ
one_if true = 1
one_if false = 0

abbrev pub progress : Kept → ℕ
progress kept = kept.next + kept.marks.taken + one_if kept.deep

abbrev IsFurther : Kept → Kept → Type 0
IsFurther old new = progress old + 1 ≤ progress new

draws : (n t d : ℕ) → (n + t + d) + 1 ≤ (n + 1) + t + d
draws n t d = omega arith

draws_more : (n m t d : ℕ) → n + 1 ≤ m → (n + t + d) + 1 ≤ m + t + d
draws_more n m t d le = omega (arith, le)

takes : (n t d : ℕ) → (n + t + d) + 1 ≤ n + (t + 1) + d
takes n t d = omega arith

deepens : (n t d : ℕ) → d ≡ 0 → (n + t + d) + 1 ≤ n + t + 1
deepens n t d none = omega (arith, none)

above : (n acts told : ℕ) → n + 1 ≤ n + 1 + acts + told
above n acts told = omega arith

-- ---- each record

when_further : (old new : Kept) (b : Bool) → (b ≡ true → IsFurther old new) → IfSome (cond b (Some new) None) (IsFurther old)
when_further old new true h = h refl
when_further old new false h = tt

if_further : (old : Kept) (b : Bool) (o : Option Kept) → IfSome o (IsFurther old) → IfSome (cond b o None) (IsFurther old)
if_further old true o h = h
if_further old false o h = tt

item_further : (kept : Kept) (what : JournalRecord) (item : Item) → IfSome (after_item kept what item) (IsFurther kept)
item_further kept what item = when_further kept (performed kept item) (is_spelled what && can_follow kept item) (λ h. draws kept.next kept.marks.taken (one_if kept.deep))

-- a cycle or a withdrawal draws a number at least
abbrev DrawsOne : Kept → Due → Type 0
DrawsOne kept (Repeats report) = Unit {0}
DrawsOne kept NoPoint = Unit {0}
DrawsOne kept NoNumbers = Unit {0}
DrawsOne kept (Rewinds due) = kept.next + 1 ≤ due.next

draws_by : (kept : Kept) (o : Option Report) (due : Due) → DrawsOne kept due → DrawsOne kept (due_by o due)
draws_by kept None due h = h
draws_by kept (Some report) due h = tt

draws_if : (kept : Kept) (b : Bool) (due : Cycled) → kept.next + 1 ≤ due.next → DrawsOne kept (cond b (Rewinds due) NoNumbers)
draws_if kept true due h = h
draws_if kept false due h = tt

cycle_draws : (kept : Kept) (at : ℕ) (ask : CycleAsk) (place : Option ℕ) → DrawsOne kept (due_at kept at ask place)
cycle_draws kept at ask None = tt
cycle_draws kept at ask (Some place) = draws_if kept (leaves_numbers kept ask) (cycled_at kept at ask place) (above kept.next (length ask.inserts) (length (told_in kept at (repair_of kept at ask place))))

withdrawal_draws : (kept : Kept) (at : ℕ) (last : Option UndoneBehind) → DrawsOne kept (withdraw_due_at kept at last)
withdrawal_draws kept at None = tt
withdrawal_draws kept at (Some last) = draws_if kept (leaves_numbers_for kept 0) (withdrawn_at kept at last) (above kept.next 0 (length (told_in kept at (unedit_of kept last))))

due_further : (kept : Kept) (after : Cycled → Kept) (due : Due) → ((d : Cycled) → kept.next + 1 ≤ d.next → IsFurther kept (after d)) → DrawsOne kept due
    → IfSome (after_due after due) (IsFurther kept)
due_further kept after (Repeats report) so h = tt
due_further kept after NoPoint so h = tt
due_further kept after NoNumbers so h = tt
due_further kept after (Rewinds due) so h = so due h

kept_further : (kept : Kept) (b : Bool) → IsFurther kept (cond b (snapshotted kept) (record kept { marks = passed kept.marks }))
kept_further kept true = takes kept.next kept.marks.taken (one_if kept.deep)
kept_further kept false = takes kept.next kept.marks.taken (one_if kept.deep)

was_shallow : (deep : Bool) → not deep ≡ true → one_if deep ≡ 0
was_shallow true h = absurd (true≢false (sym h))
was_shallow false h = refl

upgrade_further : (kept : Kept) (at : ℕ) → IfSome (after_upgrade kept at) (IsFurther kept)
upgrade_further kept at =
    when_further kept (upgraded kept) (is_spelled (Upgrade at) && not kept.deep) (λ h.
    deepens kept.next kept.marks.taken (one_if kept.deep) (was_shallow kept.deep (second_so (is_spelled (Upgrade at)) (not kept.deep) h)))

record_further : (kept : Kept) (what : JournalRecord) → IfSome (after_record kept what) (IsFurther kept)
record_further kept (Format house conf) = tt
record_further kept (Verb item) = item_further kept (Verb item) item
record_further kept (Operator number at act) = item_further kept (Operator number at act) (act_item number at act)
record_further kept (Cycle number at ask) =
    if_further kept (is_spelled (Cycle number at ask) && can_rewind kept number ask) (after_due (after_cycle kept ask) (cycle_due kept at ask))
    (due_further kept (after_cycle kept ask) (cycle_due kept at ask) (λ d h. draws_more kept.next d.next kept.marks.taken (one_if kept.deep) h)
    (draws_by kept (report_of kept.reports ask.key) (due_at kept at ask (position kept.timeline ask.point)) (cycle_draws kept at ask (position kept.timeline ask.point))))
record_further kept (Snapshot items conf rows) =
    when_further kept (after_kept kept (Snapshot items conf rows)) (is_spelled (Snapshot items conf rows) && can_keep kept items conf rows) (λ h. kept_further kept (is_true kept (Snapshot items conf rows)))
record_further kept (Upgrade at) = upgrade_further kept at
record_further kept (Withdraw number at key of) =
    if_further kept (is_spelled (Withdraw number at key of) && (number == kept.next)) (after_due (after_withdrawal kept key) (withdraw_due kept at key of))
    (due_further kept (after_withdrawal kept key) (withdraw_due kept at key of) (λ d h. draws_more kept.next d.next kept.marks.taken (one_if kept.deep) h)
    (draws_by kept (report_of kept.reports key) (withdraw_due_at kept at (undone_of kept of)) (withdrawal_draws kept at (undone_of kept of))))
record_further kept (Base next deep conf rows stamps reports) = tt
record_further kept (Text body text) = tt
record_further kept (KeptItem item) = tt

-- ---- many

some_same : (a b : Kept) → Some a ≡ Some b → a ≡ b
some_same a b e = ap (λ (o : Option Kept). unwrap_or o a) e

one_on : (a b c n : ℕ) → a + 1 ≤ b → b + n ≤ c → a + suc n ≤ c
one_on a b c n p q = omega (arith, p, q)

then_further : (kept new : Kept) (o : Option Kept) (f : Kept → Option Kept) (n : ℕ) → IfSome o (IsFurther kept) → ((next : Kept) → f next ≡ Some new → progress next + n ≤ progress new)
    → option_and_then f o ≡ Some new → progress kept + suc n ≤ progress new
then_further kept new None f n h so e = absurd (true≢false (sym (ap (λ (o : Option Kept). is_some o) e)))
then_further kept new (Some next) f n h so e = one_on (progress kept) (progress next) (progress new) n h (so next e)

none_on : (a b : ℕ) → a ≡ b → a + 0 ≤ b
none_on a b same = omega (arith, same)

pub records_further : (kept new : Kept) (records : List JournalRecord) → after_records kept records ≡ Some new → progress kept + length records ≤ progress new
records_further kept new [] e = none_on (progress kept) (progress new) (ap progress (some_same kept new e))
records_further kept new (r ∷ rs) e =
    then_further kept new (after_record kept r) (λ next. after_records next rs) (length rs) (record_further kept r) (λ next f. records_further next new rs f) e

nothing_on : (a : ℕ) → a ≡ a + 0
nothing_on a = omega arith

performed_on : (a n t d l : ℕ) → a ≡ ((n + 1) + t + d) + l → a ≡ (n + t + d) + suc l
performed_on a n t d l same = omega (arith, same)

pub items_further : (kept : Kept) (items : List Item) → progress (all_performed kept items) ≡ progress kept + length items
items_further kept [] = nothing_on (progress kept)
items_further kept (item ∷ items) =
    performed_on (progress (all_performed (performed kept item) items)) kept.next kept.marks.taken (one_if kept.deep) (length items) (items_further (performed kept item) items)
