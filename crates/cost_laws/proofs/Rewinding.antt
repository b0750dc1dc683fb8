-- That where one cycle or one withdrawal leads no two records lead.
use Rattle.std.proofs.Common.{◌≡◌, ◌⊎◌, inl, inr, ℕ, zero, suc, ◌+◌, ◌≤◌, arith, Bool, true, false, true≢false, cond, not, ◌&&◌, List, [], ◌∷◌, ◌++◌, drop, length, length-append, Option, None, Some, is_some, unwrap_or, ◌==◌, refl, ap, sym, subst, ◌∙◌}
use Rattle.std.proofs.lemmas.List.{length-map}
use Rattle.std.specs.Prelude.{IfSome}
use Rattle.std.specs.Cmp.{second_so}
use Rattle.std.specs.FinMap.Entries as rows
use Rattle.std.specs.Option.{option_and_then}
use Rattle.std.specs.Ordering.{is_eq}
use Rattle.std.specs.declared.cmp.Ordering.{Ordering}
use Rattle.std.specs.declared.cmp.Ordering.TheVariants.{Less, Equal, Greater}
use Rattle.paradox.specs.declared.reports.Report.{Report}
use Rattle.verb_core.specs.Deeds.{act_item}
use Rattle.verb_core.specs.declared.item.Item.{Item}
use Rattle.verb_core.specs.declared.item.Shown.{Shown}
use Rattle.verb_bytes.specs.declared.journal.CycleAsk.{CycleAsk}
use Rattle.verb_bytes.specs.declared.journal.JournalRecord.{JournalRecord}
use Rattle.verb_bytes.specs.declared.journal.JournalRecord.TheVariants.{Format, Verb, Operator, Cycle, Snapshot, Upgrade, Withdraw, Base, Text, Kept as KeptItem}
use Rattle.withdraw.specs.declared.undone.UndoneBehind.{UndoneBehind}
use Rattle.store_kept.specs.Kept.{Kept, Reports, key_cmp, passed, performed, report_of, snapshotted, undone_of, upgraded, with_report}
use Rattle.repair_desk.specs.Repairs.{numbers_of, position}
use Rattle.cycle_rules.specs.Asking.{Due, NoNumbers, Rewinds, after_cycle, due_at, due_by}
use Rattle.cycle_rules.specs.Cycles.{Cycled, cycled_at, leaves_numbers, repair_of}
use Rattle.cycle_rules.specs.Judging.{shown_after}
use Rattle.cycle_rules.specs.Repairing.{compared_in, front_in, kept_in, leaves_numbers_for, told_in}
use Rattle.cycle_rules.specs.Withdrawals.{after_withdrawal, unedit_of, withdraw_due_at, withdrawn_at}
use Rattle.desk_journal.specs.Formed.{is_spelled}
use Rattle.desk_journal.specs.Records.{after_due, after_item, after_kept, after_record, after_records, can_follow, can_keep, can_rewind, is_true}
use Rattle.cost_laws.proofs.Records.{one_if, progress}

-- ---- the notices that reports tell of

abbrev pub notices_in : Reports → ℕ
notices_in [] = 0
notices_in (e ∷ es) = length e.1.notices + notices_in es

abbrev Adds : Reports → Reports → Report → Type 0
Adds old new report = (notices_in new ≡ notices_in old + length report.notices) × (length new ≡ length old + 1)

first_in : (a b : ℕ) → a + b ≡ b + a
first_in a b = omega arith

one_in : (a : ℕ) → suc a ≡ a + 1
one_in a = omega arith

behind_it : (a b c d : ℕ) → c ≡ b + d → a + c ≡ (a + b) + d
behind_it a b c d same = omega (arith, same)

one_behind : (a b : ℕ) → a ≡ b + 1 → suc a ≡ suc b + 1
one_behind a b same = omega (arith, same)

at_place : (o : Ordering) (key : List ℕ) (report : Report) (e : List ℕ × Report) (es : Reports) → (report_of es key ≡ None → Adds es (with_report key report es) report)
    → cond (is_eq o) (Some e.1) (report_of es key) ≡ None → Adds (e ∷ es) (rows.by_order o ((key, report) ∷ e ∷ es) ((e.0, report) ∷ es) (e ∷ with_report key report es)) report
at_place Less key report e es more none = (first_in (length report.notices) (notices_in (e ∷ es)), one_in (length (e ∷ es)))
at_place Equal key report e es more none = absurd (true≢false (ap (λ (o : Option Report). is_some o) none))
at_place Greater key report e es more none =
    let rest = more none in (
      behind_it (length e.1.notices) (notices_in es) (notices_in (with_report key report es)) (length report.notices) rest.0,
      one_behind (length (with_report key report es)) (length es) rest.1,
    )

-- a report under a new key comes to the others
adds : (key : List ℕ) (report : Report) (reports : Reports) → report_of reports key ≡ None → Adds reports (with_report key report reports) report
adds key report [] none = (first_in (length report.notices) 0, refl)
adds key report (e ∷ es) none = at_place (key_cmp key e.0) key report e es (adds key report es) none

-- ---- how many items stand after a repair

length_shown : (front : ℕ) (t : List Item) (now : List Shown) → length (shown_after front t now) ≡ length t
length_shown front [] now = refl
length_shown zero (i ∷ t) now = ap suc (length_shown zero t (drop 1 now))
length_shown (suc front) (i ∷ t) now = ap suc (length_shown front t now)

both_long : (a b c d e : ℕ) → e ≡ a + c → a ≡ b → d ≡ c → e ≡ b + d
both_long a b c d e p q r = omega (arith, p, q, r)

-- how many items stand before the notices, and how many notices
long_after : (kept : Kept) (at : ℕ) (ask : CycleAsk) (place : ℕ) → length (cycled_at kept at ask place).timeline ≡ (cycled_at kept at ask place).placed + length (cycled_at kept at ask place).report.notices
long_after kept at ask place =
    let repair = repair_of kept at ask place in
    let told : List Item = told_in kept at repair in
    both_long (length (kept_in kept repair)) (length repair.items) (length told) (length (numbers_of told)) (length (kept_in kept repair ++ told))
    (length-append (kept_in kept repair) told) (length_shown (front_in repair) repair.items (compared_in kept repair)) (length-map told (λ (i : Item). i.number))

-- ---- what records lead to

-- how many items are in force, how many snapshots there are, and whether names may have superiors
abbrev size : Kept → ℕ
size kept = length kept.timeline + kept.marks.taken + one_if kept.deep

-- no cycle and no withdrawal was there, and each of so many records made it longer
record Stays (n : ℕ) (old new : Kept) : Type 0 where
  reports : new.reports ≡ old.reports
  undone : new.undone ≡ old.undone
  long : size old + n ≤ size new

-- a cycle or a withdrawal was there: the last of them left nothing to be withdrawn, or has a number that was drawn
record Turns (old new : Kept) : Type 0 where
  reports : length old.reports + 1 ≤ length new.reports
  undone : IfSome new.undone (λ (u : UndoneBehind). old.next ≤ u.cycle)

-- So many records lead from one to the other: each drew a number beside those of the notices, or was a snapshot or the upgrade.
record Further (n : ℕ) (old new : Kept) : Type 0 where
  far : progress old + n + notices_in new.reports ≤ progress new + notices_in old.reports
  next : old.next ≤ new.next
  taken : old.marks.taken ≤ new.marks.taken
  deep : one_if old.deep ≤ one_if new.deep
  way : Stays n old new ⊎ Turns old new

-- ---- one record

record OfItem (old new : Kept) : Type 0 where
  reports : new.reports ≡ old.reports
  drawn : old.next + 1 ≤ new.next

record OfSnapshot (old new : Kept) : Type 0 where
  taken : old.marks.taken + 1 ≤ new.marks.taken

record OfUpgrade (old new : Kept) : Type 0 where
  deep : one_if old.deep + 1 ≤ one_if new.deep

-- a cycle: what it left to be withdrawn tells its number, and how many items stand before its notices
record OfCycle (old new : Kept) : Type 0 where
  reports : length new.reports ≡ length old.reports + 1
  undone : UndoneBehind
  undone_is : new.undone ≡ Some undone
  cycle : undone.cycle ≡ old.next
  long : length new.timeline + notices_in old.reports ≡ undone.placed + notices_in new.reports
  taken : new.marks.taken ≡ old.marks.taken
  deep : one_if new.deep ≡ one_if old.deep

record OfWithdrawal (old new : Kept) : Type 0 where
  reports : length new.reports ≡ length old.reports + 1
  undone : new.undone ≡ None

-- one record leads from one to the other
record Leads (old new : Kept) : Type 0 where
  further : Further 1 old new
  kind : OfItem old new ⊎ OfSnapshot old new ⊎ OfUpgrade old new ⊎ OfCycle old new ⊎ OfWithdrawal old new

draws : (n t d m : ℕ) → (n + t + d) + 1 + m ≤ ((n + 1) + t + d) + m
draws n t d m = omega arith

takes : (n t d m : ℕ) → (n + t + d) + 1 + m ≤ (n + (t + 1) + d) + m
takes n t d m = omega arith

deepens : (n t d e m : ℕ) → d ≡ 0 → e ≡ 1 → (n + t + d) + 1 + m ≤ (n + t + e) + m
deepens n t d e m none one = omega (arith, none, one)

at_most : (n : ℕ) → n ≤ n
at_most n = omega arith

one_up : (n : ℕ) → n ≤ n + 1
one_up n = omega arith

longer : (l t d m : ℕ) → m ≡ l + 1 → (l + t + d) + 1 ≤ m + t + d
longer l t d m more = omega (arith, more)

item_leads : (kept : Kept) (item : Item) → Leads kept (performed kept item)
item_leads kept item = record {
  further = record {
    far = draws kept.next kept.marks.taken (one_if kept.deep) (notices_in kept.reports);
    next = one_up kept.next;
    taken = at_most kept.marks.taken;
    deep = at_most (one_if kept.deep);
    way = inl (record {
      reports = refl;
      undone = refl;
      long = longer (length kept.timeline) kept.marks.taken (one_if kept.deep) (length (kept.timeline ++ item ∷ [])) (length-append kept.timeline (item ∷ []));
    });
  };
  kind = inl (record { reports = refl; drawn = at_most (kept.next + 1) });
}

keeps : (l t d : ℕ) → (l + t + d) + 1 ≤ l + (t + 1) + d
keeps l t d = omega arith

kept_leads : (kept : Kept) (b : Bool) → Leads kept (cond b (snapshotted kept) (record kept { marks = passed kept.marks }))
kept_leads kept true = record {
  further = record {
    far = takes kept.next kept.marks.taken (one_if kept.deep) (notices_in kept.reports);
    next = at_most kept.next;
    taken = one_up kept.marks.taken;
    deep = at_most (one_if kept.deep);
    way = inl (record { reports = refl; undone = refl; long = keeps (length kept.timeline) kept.marks.taken (one_if kept.deep) });
  };
  kind = inr (inl (record { taken = at_most (kept.marks.taken + 1) }));
}
kept_leads kept false = record {
  further = record {
    far = takes kept.next kept.marks.taken (one_if kept.deep) (notices_in kept.reports);
    next = at_most kept.next;
    taken = one_up kept.marks.taken;
    deep = at_most (one_if kept.deep);
    way = inl (record { reports = refl; undone = refl; long = keeps (length kept.timeline) kept.marks.taken (one_if kept.deep) });
  };
  kind = inr (inl (record { taken = at_most (kept.marks.taken + 1) }));
}

was_shallow : (deep : Bool) → not deep ≡ true → one_if deep ≡ 0
was_shallow true h = absurd (true≢false (sym h))
was_shallow false h = refl

raised : (l t d e : ℕ) → d ≡ 0 → e ≡ 1 → (l + t + d) + 1 ≤ l + t + e
raised l t d e none one = omega (arith, none, one)

up : (d e : ℕ) → d ≡ 0 → e ≡ 1 → d ≤ e
up d e none one = omega (arith, none, one)

one_above : (d e : ℕ) → d ≡ 0 → e ≡ 1 → d + 1 ≤ e
one_above d e none one = omega (arith, none, one)

upgrade_leads : (kept : Kept) → one_if kept.deep ≡ 0 → Leads kept (upgraded kept)
upgrade_leads kept shallow = record {
  further = record {
    far = deepens kept.next kept.marks.taken (one_if kept.deep) 1 (notices_in kept.reports) shallow refl;
    next = at_most kept.next;
    taken = at_most kept.marks.taken;
    deep = up (one_if kept.deep) 1 shallow refl;
    way = inl (record { reports = refl; undone = refl; long = raised (length kept.timeline) kept.marks.taken (one_if kept.deep) 1 shallow refl });
  };
  kind = inr (inr (inl (record { deep = one_above (one_if kept.deep) 1 shallow refl })));
}

-- a cycle and a withdrawal draw one number beside those of the acts and of the notices
rewinds : (n t d m acts told now : ℕ) → now ≡ m + told → (n + t + d) + 1 + now ≤ ((n + 1 + acts + told) + t + d) + m
rewinds n t d m acts told now more = omega (arith, more)

drawn_for : (n acts told : ℕ) → n ≤ n + 1 + acts + told
drawn_for n acts told = omega arith

no_less : (a b : ℕ) → a ≡ b + 1 → b + 1 ≤ a
no_less a b same = omega (arith, same)

all_long : (l m placed told now : ℕ) → l ≡ placed + told → now ≡ m + told → l + m ≡ placed + now
all_long l m placed told now long more = omega (arith, long, more)

same_told : (told : List Item) → length told ≡ length (numbers_of told)
same_told told = sym (length-map told (λ (i : Item). i.number))

told_as : (now m a b : ℕ) → now ≡ m + b → a ≡ b → now ≡ m + a
told_as now m a b more same = omega (arith, more, same)

cycle_of : (kept : Kept) (at : ℕ) (ask : CycleAsk) (place : ℕ) → report_of kept.reports ask.key ≡ None → OfCycle kept (after_cycle kept ask (cycled_at kept at ask place))
cycle_of kept at ask place none =
    let due = cycled_at kept at ask place in
    let more = adds ask.key due.report kept.reports none in
    record {
      reports = more.1;
      undone = record { cycle = kept.next; point = ask.point; later = drop place kept.timeline; position = place; placed = due.placed };
      undone_is = refl;
      cycle = refl;
      long = all_long (length due.timeline) (notices_in kept.reports) due.placed (length due.report.notices) (notices_in (with_report ask.key due.report kept.reports)) (long_after kept at ask place) more.0;
      taken = refl;
      deep = refl;
    }

cycle_leads : (kept : Kept) (at : ℕ) (ask : CycleAsk) (place : ℕ) → report_of kept.reports ask.key ≡ None → Leads kept (after_cycle kept ask (cycled_at kept at ask place))
cycle_leads kept at ask place none =
    let due = cycled_at kept at ask place in
    let told : List Item = told_in kept at (repair_of kept at ask place) in
    let more = adds ask.key due.report kept.reports none in
    let now = notices_in (with_report ask.key due.report kept.reports) in
    record {
      further = record {
        far = rewinds kept.next kept.marks.taken (one_if kept.deep) (notices_in kept.reports) (length ask.inserts) (length told) now
            (told_as now (notices_in kept.reports) (length told) (length (numbers_of told)) more.0 (same_told told));
        next = drawn_for kept.next (length ask.inserts) (length told);
        taken = at_most kept.marks.taken;
        deep = at_most (one_if kept.deep);
        way = inr (record { reports = no_less (length (with_report ask.key due.report kept.reports)) (length kept.reports) more.1; undone = at_most kept.next });
      };
      kind = inr (inr (inr (inl (cycle_of kept at ask place none))));
    }

withdrawal_leads : (kept : Kept) (at : ℕ) (key : List ℕ) (last : UndoneBehind) → report_of kept.reports key ≡ None → Leads kept (after_withdrawal kept key (withdrawn_at kept at last))
withdrawal_leads kept at key last none =
    let due = withdrawn_at kept at last in
    let told : List Item = told_in kept at (unedit_of kept last) in
    let more = adds key due.report kept.reports none in
    let now = notices_in (with_report key due.report kept.reports) in
    record {
      further = record {
        far = rewinds kept.next kept.marks.taken (one_if kept.deep) (notices_in kept.reports) 0 (length told) now
            (told_as now (notices_in kept.reports) (length told) (length (numbers_of told)) more.0 (same_told told));
        next = drawn_for kept.next 0 (length told);
        taken = at_most kept.marks.taken;
        deep = at_most (one_if kept.deep);
        way = inr (record { reports = no_less (length (with_report key due.report kept.reports)) (length kept.reports) more.1; undone = tt });
      };
      kind = inr (inr (inr (inr (record { reports = more.1; undone = refl }))));
    }

-- ---- each record

when_leads : (old new : Kept) (b : Bool) → (b ≡ true → Leads old new) → IfSome (cond b (Some new) None) (Leads old)
when_leads old new true h = h refl
when_leads old new false h = tt

if_leads : (old : Kept) (b : Bool) (o : Option Kept) → IfSome o (Leads old) → IfSome (cond b o None) (Leads old)
if_leads old true o h = h
if_leads old false o h = tt

due_leads : (kept : Kept) (after : Cycled → Kept) (b : Bool) (due : Cycled) → Leads kept (after due) → IfSome (after_due after (cond b (Rewinds due) NoNumbers)) (Leads kept)
due_leads kept after true due h = h
due_leads kept after false due h = tt

anew_leads : (kept : Kept) (after : Cycled → Kept) (o : Option Report) (due : Due) → (o ≡ None → IfSome (after_due after due) (Leads kept)) → IfSome (after_due after (due_by o due)) (Leads kept)
anew_leads kept after None due h = h refl
anew_leads kept after (Some report) due h = tt

cycle_due_leads : (kept : Kept) (at : ℕ) (ask : CycleAsk) (place : Option ℕ) → report_of kept.reports ask.key ≡ None → IfSome (after_due (after_cycle kept ask) (due_at kept at ask place)) (Leads kept)
cycle_due_leads kept at ask None none = tt
cycle_due_leads kept at ask (Some place) none = due_leads kept (after_cycle kept ask) (leaves_numbers kept ask) (cycled_at kept at ask place) (cycle_leads kept at ask place none)

withdrawal_due_leads : (kept : Kept) (at : ℕ) (key : List ℕ) (last : Option UndoneBehind) → report_of kept.reports key ≡ None → IfSome (after_due (after_withdrawal kept key) (withdraw_due_at kept at last)) (Leads kept)
withdrawal_due_leads kept at key None none = tt
withdrawal_due_leads kept at key (Some last) none = due_leads kept (after_withdrawal kept key) (leaves_numbers_for kept 0) (withdrawn_at kept at last) (withdrawal_leads kept at key last none)

item_record_leads : (kept : Kept) (what : JournalRecord) (item : Item) → IfSome (after_item kept what item) (Leads kept)
item_record_leads kept what item = when_leads kept (performed kept item) (is_spelled what && can_follow kept item) (λ h. item_leads kept item)

record_leads : (kept : Kept) (what : JournalRecord) → IfSome (after_record kept what) (Leads kept)
record_leads kept (Format house conf) = tt
record_leads kept (Verb item) = item_record_leads kept (Verb item) item
record_leads kept (Operator number at act) = item_record_leads kept (Operator number at act) (act_item number at act)
record_leads kept (Cycle number at ask) =
    let due = due_at kept at ask (position kept.timeline ask.point) in
    if_leads kept (is_spelled (Cycle number at ask) && can_rewind kept number ask) (after_due (after_cycle kept ask) (due_by (report_of kept.reports ask.key) due))
    (anew_leads kept (after_cycle kept ask) (report_of kept.reports ask.key) due (cycle_due_leads kept at ask (position kept.timeline ask.point)))
record_leads kept (Snapshot items conf rows) =
    when_leads kept (after_kept kept (Snapshot items conf rows)) (is_spelled (Snapshot items conf rows) && can_keep kept items conf rows) (λ h. kept_leads kept (is_true kept (Snapshot items conf rows)))
record_leads kept (Upgrade at) =
    when_leads kept (upgraded kept) (is_spelled (Upgrade at) && not kept.deep) (λ h. upgrade_leads kept (was_shallow kept.deep (second_so (is_spelled (Upgrade at)) (not kept.deep) h)))
record_leads kept (Withdraw number at key of) =
    let due = withdraw_due_at kept at (undone_of kept of) in
    if_leads kept (is_spelled (Withdraw number at key of) && (number == kept.next)) (after_due (after_withdrawal kept key) (due_by (report_of kept.reports key) due))
    (anew_leads kept (after_withdrawal kept key) (report_of kept.reports key) due (withdrawal_due_leads kept at key (undone_of kept of)))
record_leads kept (Base next deep conf rows stamps reports) = tt
record_leads kept (Text body text) = tt
record_leads kept (KeptItem item) = tt

-- ---- many

weaker : (n m : ℕ) → n ≤ m → (o : Option UndoneBehind) → IfSome o (λ (u : UndoneBehind). m ≤ u.cycle) → IfSome o (λ (u : UndoneBehind). n ≤ u.cycle)
weaker n m le None h = tt
weaker n m le (Some u) h = let below : m ≤ u.cycle = h in omega (arith, le, below)

then_long : (a b c n : ℕ) → a + 1 ≤ b → b + n ≤ c → a + suc n ≤ c
then_long a b c n p q = omega (arith, p, q)

then_far : (p q r a b c n : ℕ) → p + 1 + b ≤ q + a → q + n + c ≤ r + b → p + suc n + c ≤ r + a
then_far p q r a b c n one more = omega (arith, one, more)

then_up : (a b c : ℕ) → a ≤ b → b ≤ c → a ≤ c
then_up a b c p q = omega (arith, p, q)

same_up : (a b c : ℕ) → b ≡ a → b + 1 ≤ c → a + 1 ≤ c
same_up a b c p q = omega (arith, p, q)

up_same : (a b c : ℕ) → a + 1 ≤ b → c ≡ b → a + 1 ≤ c
up_same a b c p q = omega (arith, p, q)

up_more : (a b c : ℕ) → a + 1 ≤ b → b + 1 ≤ c → a + 1 ≤ c
up_more a b c p q = omega (arith, p, q)

ways : (n : ℕ) (a b c : Kept) → a.next ≤ b.next → Stays 1 a b ⊎ Turns a b → Stays n b c ⊎ Turns b c → Stays (suc n) a c ⊎ Turns a c
ways n a b c le (inl p) (inl q) = inl (record { reports = q.reports ∙ p.reports; undone = q.undone ∙ p.undone; long = then_long (size a) (size b) (size c) n p.long q.long })
ways n a b c le (inl p) (inr q) = inr (record {
  reports = same_up (length a.reports) (length b.reports) (length c.reports) (ap (λ (r : Reports). length r) p.reports) q.reports;
  undone = weaker a.next b.next le c.undone q.undone;
})
ways n a b c le (inr p) (inl q) = inr (record {
  reports = up_same (length a.reports) (length b.reports) (length c.reports) p.reports (ap (λ (r : Reports). length r) q.reports);
  undone = subst (λ (o : Option UndoneBehind). IfSome o (λ (u : UndoneBehind). a.next ≤ u.cycle)) (sym q.undone) p.undone;
})
ways n a b c le (inr p) (inr q) = inr (record {
  reports = up_more (length a.reports) (length b.reports) (length c.reports) p.reports q.reports;
  undone = weaker a.next b.next le c.undone q.undone;
})

both : (n : ℕ) (a b c : Kept) → Further 1 a b → Further n b c → Further (suc n) a c
both n a b c p q = record {
  far = then_far (progress a) (progress b) (progress c) (notices_in a.reports) (notices_in b.reports) (notices_in c.reports) n p.far q.far;
  next = then_up a.next b.next c.next p.next q.next;
  taken = then_up a.marks.taken b.marks.taken c.marks.taken p.taken q.taken;
  deep = then_up (one_if a.deep) (one_if b.deep) (one_if c.deep) p.deep q.deep;
  way = ways n a b c p.next p.way q.way;
}

not_yet : (p a : ℕ) → p + 0 + a ≤ p + a
not_yet p a = omega arith

as_long : (a : ℕ) → a + 0 ≤ a
as_long a = omega arith

none_further : (kept : Kept) → Further 0 kept kept
none_further kept = record {
  far = not_yet (progress kept) (notices_in kept.reports);
  next = at_most kept.next;
  taken = at_most kept.marks.taken;
  deep = at_most (one_if kept.deep);
  way = inl (record { reports = refl; undone = refl; long = as_long (size kept) });
}

some_same : (a b : Kept) → Some a ≡ Some b → a ≡ b
some_same a b e = ap (λ (o : Option Kept). unwrap_or o a) e

then_further : (kept new : Kept) (o : Option Kept) (f : Kept → Option Kept) (n : ℕ) → IfSome o (Leads kept) → ((next : Kept) → f next ≡ Some new → Further n next new)
    → option_and_then f o ≡ Some new → Further (suc n) kept new
then_further kept new None f n h so e = absurd (true≢false (sym (ap (λ (o : Option Kept). is_some o) e)))
then_further kept new (Some next) f n h so e = let one : Leads kept next = h in both n kept next new one.further (so next e)

records_lead : (kept new : Kept) (records : List JournalRecord) → after_records kept records ≡ Some new → Further (length records) kept new
records_lead kept new [] e = subst (λ (k : Kept). Further 0 kept k) (some_same kept new e) (none_further kept)
records_lead kept new (r ∷ rs) e =
    then_further kept new (after_record kept r) (λ next. after_records next rs) (length rs) (record_leads kept r) (λ next f. records_lead next new rs f) e

-- ---- where a cycle leads

never : (a b : ℕ) → a ≡ b → a ≡ b + 1 → ⊥
never a b p q = omega (arith, p, q)

passed_by : (a b c d : ℕ) → a + 1 ≤ b → b ≤ c → c ≡ d → d ≡ a → ⊥
passed_by a b c d p q r s = omega (arith, p, q, r, s)

gone_by : (a b c : ℕ) → a + 1 ≤ b → b ≤ c → c ≡ a → ⊥
gone_by a b c p q r = omega (arith, p, q, r)

counted_twice : (a b c : ℕ) → b ≡ a + 1 → c ≡ a + 1 → b + 1 ≤ c → ⊥
counted_twice a b c p q r = omega (arith, p, q, r)

-- what is to be withdrawn, where there is something
abbrev placed_of : Option UndoneBehind → ℕ
placed_of None = 0
placed_of (Some u) = u.placed

no_longer : (n lb lc ta tb tc da db dc pb pc ma mb mc : ℕ) → (lb + tb + db) + n ≤ lc + tc + dc → lb + ma ≡ pb + mb → lc + ma ≡ pc + mc → pc ≡ pb → mc ≡ mb → tb ≡ ta → tc ≡ ta → db ≡ da → dc ≡ da → suc n ≤ 1
no_longer n lb lc ta tb tc da db dc pb pc ma mb mc a b c d e f g h i = omega (arith, a, b, c, d, e, f, g, h, i)

module _ (n : ℕ) (a b c : Kept) (to : OfCycle a c) (more : Further n b c) where
  by_item : OfItem a b → Stays n b c ⊎ Turns b c → suc n ≤ 1
  by_item first (inl stays) = absurd (never (length c.reports) (length a.reports) (ap (λ (r : Reports). length r) (stays.reports ∙ first.reports)) to.reports)
  by_item first (inr turns) =
      let drawn : b.next ≤ to.undone.cycle = subst (λ (o : Option UndoneBehind). IfSome o (λ (u : UndoneBehind). b.next ≤ u.cycle)) to.undone_is turns.undone in
      absurd (gone_by a.next b.next to.undone.cycle first.drawn drawn to.cycle)

  by_cycle : OfCycle a b → Stays n b c ⊎ Turns b c → suc n ≤ 1
  by_cycle first (inl stays) =
      no_longer n (length b.timeline) (length c.timeline) a.marks.taken b.marks.taken c.marks.taken (one_if a.deep) (one_if b.deep) (one_if c.deep) first.undone.placed to.undone.placed
      (notices_in a.reports) (notices_in b.reports) (notices_in c.reports) stays.long first.long to.long
      (ap placed_of (sym to.undone_is ∙ stays.undone ∙ first.undone_is)) (ap notices_in stays.reports) first.taken to.taken first.deep to.deep
  by_cycle first (inr turns) = absurd (counted_twice (length a.reports) (length b.reports) (length c.reports) first.reports to.reports turns.reports)

  by_withdrawal : OfWithdrawal a b → Stays n b c ⊎ Turns b c → suc n ≤ 1
  by_withdrawal first (inl stays) = absurd (true≢false (ap (λ (o : Option UndoneBehind). is_some o) (sym to.undone_is ∙ stays.undone ∙ first.undone)))
  by_withdrawal first (inr turns) = absurd (counted_twice (length a.reports) (length b.reports) (length c.reports) first.reports to.reports turns.reports)

  by_kind : OfItem a b ⊎ OfSnapshot a b ⊎ OfUpgrade a b ⊎ OfCycle a b ⊎ OfWithdrawal a b → suc n ≤ 1
  by_kind (inl first) = by_item first more.way
  by_kind (inr (inl first)) = absurd (gone_by a.marks.taken b.marks.taken c.marks.taken first.taken more.taken to.taken)
  by_kind (inr (inr (inl first))) = absurd (gone_by (one_if a.deep) (one_if b.deep) (one_if c.deep) first.deep more.deep to.deep)
  by_kind (inr (inr (inr (inl first)))) = by_cycle first more.way
  by_kind (inr (inr (inr (inr first)))) = by_withdrawal first more.way

pub nothing_or_one : 0 ≤ 1
nothing_or_one = omega arith

then_alone : (kept new : Kept) (o : Option Kept) (f : Kept → Option Kept) (n : ℕ) → OfCycle kept new → IfSome o (Leads kept) → ((next : Kept) → f next ≡ Some new → Further n next new)
    → option_and_then f o ≡ Some new → suc n ≤ 1
then_alone kept new None f n to h so e = absurd (true≢false (sym (ap (λ (o : Option Kept). is_some o) e)))
then_alone kept new (Some next) f n to h so e = let one : Leads kept next = h in by_kind n kept next new to (so next e) one.kind

of_cycle : (kept new : Kept) (records : List JournalRecord) → OfCycle kept new → after_records kept records ≡ Some new → length records ≤ 1
of_cycle kept new [] to e = nothing_or_one
of_cycle kept new (r ∷ rs) to e =
    then_alone kept new (after_record kept r) (λ next. after_records next rs) (length rs) to (record_leads kept r) (λ next f. records_lead next new rs f) e

-- No two records lead where this leads, or none does.
abbrev pub AtMostOne : Kept → Kept → Type 0
AtMostOne kept new = (records : List JournalRecord) → after_records kept records ≡ Some new → length records ≤ 1

pub cycle_alone : (kept : Kept) (at : ℕ) (ask : CycleAsk) (place : ℕ) → report_of kept.reports ask.key ≡ None → AtMostOne kept (after_cycle kept ask (cycled_at kept at ask place))
cycle_alone kept at ask place none = λ records e. of_cycle kept (after_cycle kept ask (cycled_at kept at ask place)) records (cycle_of kept at ask place none) e

-- ---- where a withdrawal leads

no_further : (n x t d m told now : ℕ) → (x + t + d) + n + now ≤ ((x + 1 + 0 + told) + t + d) + m → now ≡ m + told → n ≤ 1
no_further n x t d m told now far more = omega (arith, far, more)

pub withdrawal_alone : (kept : Kept) (at : ℕ) (key : List ℕ) (last : UndoneBehind) → report_of kept.reports key ≡ None → AtMostOne kept (after_withdrawal kept key (withdrawn_at kept at last))
withdrawal_alone kept at key last none = λ records e.
    let due = withdrawn_at kept at last in
    let told : List Item = told_in kept at (unedit_of kept last) in
    let more = adds key due.report kept.reports none in
    let now = notices_in (with_report key due.report kept.reports) in
    let f : Further (length records) kept (after_withdrawal kept key due) = records_lead kept (after_withdrawal kept key due) records e in
    no_further (length records) kept.next kept.marks.taken (one_if kept.deep) (notices_in kept.reports) (length told) now f.far
    (told_as now (notices_in kept.reports) (length told) (length (numbers_of told)) more.0 (same_told told))
