-- What the records of a journal leave can be cut: its next number is one that a journal can have, and its reports name known users.
use Rattle.std.proofs.Common.{◌≡◌, ℕ, ◌+◌, ◌<◌, ◌≤◌, ◌==◌, ◌&&◌, not, Bool, true, false, cond, List, [], ◌∷◌, map, length, drop, nat_le, nat_lt, Option, Some, None, refl, ap, ap₂, sym, subst, ◌∙◌, arith, Ordering, Less, Equal, Greater}
use Rattle.std.specs.Prelude.{option_and_then, option_map}
use Rattle.std.specs.Cmp.{first_so, second_so}
use Rattle.std.specs.FinMap.Entries.{by_order}
use Rattle.std.specs.List.{AllByRecursion, cons_option, list_all}
use Rattle.std.proofs.lemmas.Bool.{leb-true, ltb-true}
use Rattle.std.proofs.lemmas.List.Folds.{list_all-append, list_all-map}
use Rattle.undo_base.specs.declared.keys.User.{User}
use Rattle.verb_core.specs.declared.conf.Conf.{Conf}
use Rattle.verb_core.specs.declared.conf.House.{House}
use Rattle.verb_core.specs.declared.item.Item.{Item}
use Rattle.verb_core.specs.declared.item.Shown.{Shown}
use Rattle.verb_core.specs.declared.mailbox.BoxId.{BoxId}
use Rattle.verb_core.specs.declared.mailbox.Mailbox.{Mailbox}
use Rattle.verb_core.specs.Deeds.{act_item, mailbox_in}
use Rattle.verb_core.specs.Items.{IsWellFormed, users_in}
use Rattle.verb_core.specs.Store.{is_house, is_known}
use Rattle.verb_bytes.specs.declared.journal.JournalRecord.{JournalRecord}
use Rattle.verb_bytes.specs.declared.journal.JournalRecord.TheVariants.{Format, Verb, Operator, Cycle, Snapshot, Upgrade, Withdraw, Base as BaseRecord, Text as TextRecord, Kept as KeptRecord}
use Rattle.paradox.specs.declared.reports.BrokenItem.{BrokenItem}
use Rattle.paradox.specs.declared.reports.Report.{Report}
use Rattle.paradox.specs.declared.words.Reason.{Reason}
use Rattle.paradox.specs.declared.words.Reason.TheVariants.{Withdrawn}
use Rattle.paradox.specs.declared.words.Verb.{Verb as VerbTold}
use Rattle.paradox.specs.Words.{verb_of}
use Rattle.withdraw.specs.declared.undone.UndoneBehind.{UndoneBehind}
use Rattle.withdraw.proofs.Back.{timeline_back}
use Rattle.store_kept.specs.Coming.{ComesIf}
use Rattle.box_store.specs.Making.{makes_store}
use Rattle.store_kept.specs.Founding.{Based, are_reports, are_stamps, base_stands, entries_of, founded, is_entry_below, is_whole, once_each, users_told}
use Rattle.store_kept.specs.Kept.{Kept, Reports, is_by_key, key_cmp, new_desk, origin_of, passed, performed, report_of, snapshotted, undone_as, upgraded, with_report}
use Rattle.repair_desk.specs.Repairs.{is_among, position}
use Rattle.cycle_rules.specs.Asking.{NoNumbers, Rewinds, after_cycle, after_repair, undone_at, due_anew, due_at, due_by}
use Rattle.cycle_rules.specs.Cycles.{leaves_numbers, repair_of}
use Rattle.cycle_rules.specs.Judging.{judged, reason_by, with_told}
use Rattle.cycle_rules.specs.Repairing.{Repair, broken_in, compared_in, leaves_numbers_for, renewed_by, report_in, reworked, stamps_in, told_in}
use Rattle.cycle_rules.specs.Withdrawals.{after_withdrawal, restored_items, unedit_of, withdraw_due_anew, withdraw_due_at}
use Rattle.mail_cycle.proofs.Cycled.{few_told}
use Rattle.desk_journal.specs.Formed.{is_formed, is_spelled}
use Rattle.desk_journal.specs.Founding.{Fore, first_fore, fore_of, settled, settled_by}
use Rattle.desk_journal.specs.Permanence.{IsSound}
use Rattle.verb_bytes.specs.declared.journal.CycleAsk.{CycleAsk}
use Rattle.desk_journal.specs.Records.{after_due, after_item, after_record, after_records, behind, can_follow, can_keep, can_rewind, front, is_true, opening_state, state}
use Rattle.cut_laws.specs.Cuts.{CanBeCut}
use Rattle.desk_journal.proofs.Founded.{Begun, Stood, StoodIf, fore_begun}
use Rattle.desk_journal.proofs.Fronts.{front_alone}
use Rattle.cut_laws.proofs.Cut.{stamps_known}
use Rattle.cut_laws.proofs.Parts.{all_dropped}

both_true : (a b : Bool) → a ≡ true → b ≡ true → (a && b) ≡ true
both_true a b x y = ap₂ (λ (c d : Bool). c && d) x y

-- ---- the users whom a report names

-- an item's user is known
user_known : (house : House) (i : Item) (users : List User) → list_all (is_known house) (cons_option i.by users) ≡ true → (o : Option User) → i.by ≡ o → list_all (is_known house) (cons_option o []) ≡ true
user_known house i users known None own = refl
user_known house i users known (Some u) own =
    both_true (is_known house u) true (first_so (is_known house u) (list_all (is_known house) users) (ap (λ (o : Option User). list_all (is_known house) (cons_option o users)) (sym own) ∙ known)) refl

told_known : (house : House) (i : Item) → IsWellFormed house i → (reason : Option Reason) (list : List BrokenItem) → list_all (λ (b : BrokenItem). is_known house b.user) list ≡ true
    → list_all (λ (b : BrokenItem). is_known house b.user) (with_told i reason list) ≡ true
told_known house i formed None list known = known
told_known house i formed (Some reason) list known = by i.by refl (user_known house i (users_in i.deed) formed.users i.by refl)
  where
    row : Option User → Option VerbTold → Option BrokenItem
    row o verb = option_and_then (λ (user : User). option_map (λ (v : VerbTold). record { number = i.number; user = user; verb = v; mailbox = mailbox_in i.deed; reason = reason }) verb) o

    by : (o : Option User) → i.by ≡ o → list_all (is_known house) (cons_option o []) ≡ true → list_all (λ (b : BrokenItem). is_known house b.user) (cons_option (row o (verb_of i.deed)) list) ≡ true
    by None own is = known
    by (Some u) own is = each (verb_of i.deed)
      where
        each : (verb : Option VerbTold) → list_all (λ (b : BrokenItem). is_known house b.user) (cons_option (row (Some u) verb) list) ≡ true
        each None = known
        each (Some v) = both_true (is_known house u) (list_all (λ (b : BrokenItem). is_known house b.user) list) (first_so (is_known house u) true is) known

judged_known : (house : House) (drops : List ℕ) (items : List Item) (now : List Shown) → AllByRecursion (IsWellFormed house) items → list_all (λ (b : BrokenItem). is_known house b.user) (judged drops items now) ≡ true
judged_known house drops [] now formed = refl
judged_known house drops (i ∷ items) now formed =
    by (is_among drops i.number) (judged_known house drops items now formed.1) (judged_known house drops items (drop 1 now) formed.1)
  where
    by : (b : Bool) → list_all (λ (x : BrokenItem). is_known house x.user) (judged drops items now) ≡ true → list_all (λ (x : BrokenItem). is_known house x.user) (judged drops items (drop 1 now)) ≡ true
        → list_all (λ (x : BrokenItem). is_known house x.user) (cond b (with_told i (Some Withdrawn) (judged drops items now)) (with_told i (reason_by i now) (judged drops items (drop 1 now)))) ≡ true
    by true one two = told_known house i formed.0 (Some Withdrawn) (judged drops items now) one
    by false one two = told_known house i formed.0 (reason_by i now) (judged drops items (drop 1 now)) two

filtered_known : (house : House) (c : ℕ) (stamps : List (BoxId × ℕ)) → list_all (λ (r : BoxId × ℕ). is_known house r.0.user) stamps ≡ true → list_all (λ (r : BoxId × ℕ). is_known house r.0.user) (renewed_by c stamps) ≡ true
filtered_known house c [] known = refl
filtered_known house c (r ∷ stamps) known = by (r.1 == c) (filtered_known house c stamps (second_so (is_known house r.0.user) (list_all (λ (q : BoxId × ℕ). is_known house q.0.user) stamps) known))
  where
    by : (b : Bool) → list_all (λ (q : BoxId × ℕ). is_known house q.0.user) (renewed_by c stamps) ≡ true → list_all (λ (q : BoxId × ℕ). is_known house q.0.user) (cond b (r ∷ renewed_by c stamps) (renewed_by c stamps)) ≡ true
    by true rest = both_true (is_known house r.0.user) (list_all (λ (q : BoxId × ℕ). is_known house q.0.user) (renewed_by c stamps)) (first_so (is_known house r.0.user) (list_all (λ (q : BoxId × ℕ). is_known house q.0.user) stamps) known) rest
    by false rest = rest

-- the report of a repair of well-formed items, of which the stamps name known users' mailboxes
report_known : (house : House) (s : Kept) (at : ℕ) (repair : Repair) → AllByRecursion (IsWellFormed house) repair.before → list_all (λ (r : BoxId × ℕ). is_known house r.0.user) (stamps_in s at repair) ≡ true
    → list_all (is_known house) (users_told (report_in s at repair)) ≡ true
report_known house s at repair formed stamps =
    list_all-append (is_known house) (map (λ (b : BrokenItem). b.user) (broken_in s repair)) (map (λ (r : BoxId × ℕ). r.0.user) (renewed_by s.next (stamps_in s at repair)))
    ∙ both_true (list_all (is_known house) (map (λ (b : BrokenItem). b.user) (broken_in s repair))) (list_all (is_known house) (map (λ (r : BoxId × ℕ). r.0.user) (renewed_by s.next (stamps_in s at repair))))
    (list_all-map (is_known house) (λ (b : BrokenItem). b.user) (broken_in s repair) ∙ judged_known house repair.drops repair.before (compared_in s repair) formed)
    (list_all-map (is_known house) (λ (r : BoxId × ℕ). r.0.user) (renewed_by s.next (stamps_in s at repair)) ∙ filtered_known house s.next (stamps_in s at repair) stamps)

-- ---- the reports

abbrev tells_known : House → List ℕ × Report → Bool
tells_known house r = list_all (is_known house) (users_told r.1)

put_known : (house : House) (key : List ℕ) (report : Report) (reports : Reports) → list_all (is_known house) (users_told report) ≡ true → list_all (tells_known house) reports ≡ true
    → list_all (tells_known house) (with_report key report reports) ≡ true
put_known house key report [] own all = both_true (list_all (is_known house) (users_told report)) true own refl
put_known house key report (r ∷ reports) own all = by (key_cmp key r.0) (put_known house key report reports own (second_so (tells_known house r) (list_all (tells_known house) reports) all))
  where
    by : (o : Ordering) → list_all (tells_known house) (with_report key report reports) ≡ true
        → list_all (tells_known house) (by_order o ((key, report) ∷ r ∷ reports) ((r.0, report) ∷ reports) (r ∷ with_report key report reports)) ≡ true
    by Less rest = both_true (list_all (is_known house) (users_told report)) (list_all (tells_known house) (r ∷ reports)) own all
    by Equal rest = both_true (list_all (is_known house) (users_told report)) (list_all (tells_known house) reports) own (second_so (tells_known house r) (list_all (tells_known house) reports) all)
    by Greater rest = both_true (tells_known house r) (list_all (tells_known house) (with_report key report reports)) (first_so (tells_known house r) (list_all (tells_known house) reports) all) rest

-- ---- one record more

-- with the house, the configuration at first and the reports as they were
same_but : (old new : Kept) → new.house ≡ old.house → new.opening ≡ old.opening → new.reports ≡ old.reports → new.next ≤ 4194304 → CanBeCut old → CanBeCut new
same_but old new house opening reports next can = record {
  begins = subst (λ (h : House). first_fore (Format h new.opening) ≡ Some (record { house = h; opening = new.opening; based = None })) (sym house)
      (subst (λ (o : Conf). first_fore (Format old.house o) ≡ Some (record { house = old.house; opening = o; based = None })) (sym opening) can.begins);
  next = next;
  reports = subst (λ (h : House). are_reports h new.reports ≡ true) (sym house) (subst (λ (r : Reports). are_reports old.house r ≡ true) (sym reports) can.reports);
}

item_cut : (old new : Kept) (what : JournalRecord) (i : Item) → after_item old what i ≡ Some new → CanBeCut old → CanBeCut new
item_cut old new what i is can = by (is_spelled what) (can_follow old i) refl is
  where
    by : (spelled follows : Bool) → can_follow old i ≡ follows → cond (spelled && follows) (Some (performed old i)) None ≡ Some new → CanBeCut new
    by true true e is =
        let same : performed old i ≡ new = cc is in
        let less : old.next < 4194304 = ltb-true old.next 4194304 (second_so (i.number == old.next) (nat_lt old.next 4194304) (first_so ((i.number == old.next) && nat_lt old.next 4194304) (is_formed old.house i) e)) in
        subst CanBeCut same (same_but old (performed old i) refl refl refl (omega (arith, less)) can)
    by true false e is = absurd (cc is)
    by false follows e is = absurd (cc is)

snapshot_cut : (old new : Kept) (items : ℕ) (conf : Conf) (boxes : List (BoxId × Mailbox)) → after_record old (Snapshot items conf boxes) ≡ Some new → CanBeCut old → CanBeCut new
snapshot_cut old new items conf boxes is can = by (is_spelled (Snapshot items conf boxes) && can_keep old items conf boxes) (is_true old (Snapshot items conf boxes)) is
  where
    by : (b truth : Bool) → cond b (Some (cond truth (snapshotted old) (record old { marks = passed old.marks }))) None ≡ Some new → CanBeCut new
    by true true is = let same : snapshotted old ≡ new = cc is in subst CanBeCut same (same_but old (snapshotted old) refl refl refl can.next can)
    by true false is = let same : record old { marks = passed old.marks } ≡ new = cc is in subst CanBeCut same (same_but old (record old { marks = passed old.marks }) refl refl refl can.next can)
    by false truth is = absurd (cc is)

upgrade_cut : (old new : Kept) (at : ℕ) → after_record old (Upgrade at) ≡ Some new → CanBeCut old → CanBeCut new
upgrade_cut old new at is can = by (is_spelled (Upgrade at) && not old.deep) is
  where
    by : (b : Bool) → cond b (Some (upgraded old)) None ≡ Some new → CanBeCut new
    by true is = let same : upgraded old ≡ new = cc is in subst CanBeCut same (same_but old (upgraded old) refl refl refl can.next can)
    by false is = absurd (cc is)

-- a repair whose numbers are left, of well-formed items
repair_cut : ((reports : Reports) (key : List ℕ) (report : Report) → is_by_key reports ≡ true → is_by_key (with_report key report reports) ≡ true)
    → (old new : Kept) (key : List ℕ) (at : ℕ) (repair : Repair) (undone : Option UndoneBehind) → AllByRecursion (IsWellFormed old.house) repair.before → leaves_numbers_for old repair.acts ≡ true
    → after_repair old key (reworked old at repair) undone ≡ new → list_all (λ (r : BoxId × ℕ). is_known new.house r.0.user) new.stamps ≡ true → CanBeCut old → CanBeCut new
repair_cut rises old new key at repair undone formed left is known can =
    let report : list_all (is_known old.house) (users_told (report_in old at repair)) ≡ true =
    report_known old.house old at repair formed (subst (λ (k : Kept). list_all (λ (r : BoxId × ℕ). is_known k.house r.0.user) k.stamps ≡ true) (sym is) known) in
    let few : length (told_in old at repair) ≤ length old.house.accounts = few_told old.house (old.next + repair.acts) old.next at (broken_in old repair) in
    let enough : old.next + 1 + repair.acts + length old.house.accounts ≤ 4194303 = leb-true (old.next + 1 + repair.acts + length old.house.accounts) 4194303 left in
    subst CanBeCut is (record {
      begins = can.begins;
      next = omega (arith, few, enough);
      reports = both_true (is_by_key (with_report key (report_in old at repair) old.reports)) (list_all (tells_known old.house) (with_report key (report_in old at repair) old.reports))
          (rises old.reports key (report_in old at repair) (first_so (is_by_key old.reports) (list_all (tells_known old.house) old.reports) can.reports))
          (put_known old.house key (report_in old at repair) old.reports report (second_so (is_by_key old.reports) (list_all (tells_known old.house) old.reports) can.reports));
    })

module _ (rises : (reports : Reports) (key : List ℕ) (report : Report) → is_by_key reports ≡ true → is_by_key (with_report key report reports) ≡ true) where
  cycle_cut : (old new : Kept) (number at : ℕ) (ask : CycleAsk) → IsSound old → list_all (λ (r : BoxId × ℕ). is_known new.house r.0.user) new.stamps ≡ true → after_record old (Cycle number at ask) ≡ Some new → CanBeCut old → CanBeCut new
  cycle_cut old new number at ask sound known is can = stands (is_spelled (Cycle number at ask) && can_rewind old number ask) is
    where
      left : (place : ℕ) (b : Bool) → leaves_numbers old ask ≡ b → after_due (after_cycle old ask) (cond b (Rewinds (reworked old at (repair_of old at ask place))) NoNumbers) ≡ Some new → CanBeCut new
      left place true e is =
          let same : after_repair old ask.key (reworked old at (repair_of old at ask place)) (Some (undone_at old ask place (reworked old at (repair_of old at ask place)).placed)) ≡ new = cc is in
          repair_cut rises old new ask.key at (repair_of old at ask place) (Some (undone_at old ask place (reworked old at (repair_of old at ask place)).placed))
          (all_dropped (IsWellFormed old.house) place old.timeline sound.timeline.formed) e same known can
      left place false e is = absurd (cc is)

      at_place : (o : Option ℕ) → after_due (after_cycle old ask) (due_at old at ask o) ≡ Some new → CanBeCut new
      at_place None is = absurd (cc is)
      at_place (Some place) is = left place (leaves_numbers old ask) refl is

      anew : (o : Option Report) → after_due (after_cycle old ask) (due_by o (due_anew old at ask)) ≡ Some new → CanBeCut new
      anew None is = at_place (position old.timeline ask.point) is
      anew (Some report) is = absurd (cc is)

      stands : (b : Bool) → cond b (after_due (after_cycle old ask) (due_by (report_of old.reports ask.key) (due_anew old at ask))) None ≡ Some new → CanBeCut new
      stands true is = anew (report_of old.reports ask.key) is
      stands false is = absurd (cc is)

  withdraw_cut : (old new : Kept) (number at : ℕ) (key : List ℕ) (of : ℕ) → IsSound old → list_all (λ (r : BoxId × ℕ). is_known new.house r.0.user) new.stamps ≡ true → after_record old (Withdraw number at key of) ≡ Some new → CanBeCut old
      → CanBeCut new
  withdraw_cut old new number at key of sound known is can = stands (is_spelled (Withdraw number at key of) && (number == old.next)) is
    where
      left : (last : UndoneBehind) → ComesIf (origin_of old) old.timeline old.next (Some last) → (b : Bool) → leaves_numbers_for old 0 ≡ b
          → after_due (after_withdrawal old key) (cond b (Rewinds (reworked old at (unedit_of old last))) NoNumbers) ≡ Some new → CanBeCut new
      left last comes true e is =
          let same : after_repair old key (reworked old at (unedit_of old last)) None ≡ new = cc is in
          repair_cut rises old new key at (unedit_of old last) None
          (all_dropped (IsWellFormed old.house) last.position (restored_items old last) (timeline_back old.house old.timeline last comes.back sound.timeline).formed) e same known can
      left last comes false e is = absurd (cc is)

      of_cycle : (o : Option UndoneBehind) → ComesIf (origin_of old) old.timeline old.next o → after_due (after_withdrawal old key) (withdraw_due_at old at (option_and_then (undone_as of) o)) ≡ Some new → CanBeCut new
      of_cycle None comes is = absurd (cc is)
      of_cycle (Some last) comes is = same (last.cycle == of) is
        where
          same : (b : Bool) → after_due (after_withdrawal old key) (withdraw_due_at old at (cond b (Some last) None)) ≡ Some new → CanBeCut new
          same true is = left last comes (leaves_numbers_for old 0) refl is
          same false is = absurd (cc is)

      anew : (o : Option Report) → after_due (after_withdrawal old key) (due_by o (withdraw_due_anew old at of)) ≡ Some new → CanBeCut new
      anew None is = of_cycle old.undone sound.undone is
      anew (Some report) is = absurd (cc is)

      stands : (b : Bool) → cond b (after_due (after_withdrawal old key) (due_by (report_of old.reports key) (withdraw_due_anew old at of))) None ≡ Some new → CanBeCut new
      stands true is = anew (report_of old.reports key) is
      stands false is = absurd (cc is)

  -- whatever record comes next
  record_cut : (old new : Kept) (r : JournalRecord) → IsSound old → list_all (λ (r : BoxId × ℕ). is_known new.house r.0.user) new.stamps ≡ true → after_record old r ≡ Some new → CanBeCut old → CanBeCut new
  record_cut old new (Verb i) sound known is can = item_cut old new (Verb i) i is can
  record_cut old new (Operator number at act) sound known is can = item_cut old new (Operator number at act) (act_item number at act) is can
  record_cut old new (Cycle number at ask) sound known is can = cycle_cut old new number at ask sound known is can
  record_cut old new (Snapshot items conf boxes) sound known is can = snapshot_cut old new items conf boxes is can
  record_cut old new (Upgrade at) sound known is can = upgrade_cut old new at is can
  record_cut old new (Withdraw number at key of) sound known is can = withdraw_cut old new number at key of sound known is can
  record_cut old new (Format house conf) sound known is can = absurd (cc is)
  record_cut old new (BaseRecord next deep conf boxes stamps reports) sound known is can = absurd (cc is)
  record_cut old new (TextRecord body text) sound known is can = absurd (cc is)
  record_cut old new (KeptRecord i) sound known is can = absurd (cc is)

  -- ---- the records of a journal

  -- records behind a front, each of which leaves what is sound
  records_cut : ((old new : Kept) (r : JournalRecord) → IsSound old → after_record old r ≡ Some new → IsSound new) → (old new : Kept) (rs : List JournalRecord) → IsSound old → after_records old rs ≡ Some new → CanBeCut old → CanBeCut new
  records_cut goes old new [] sound is can = let same : old ≡ new = cc is in subst CanBeCut same can
  records_cut goes old new (r ∷ rs) sound is can = by (λ next e. records_cut goes next new rs (goes old next r sound e)) (after_record old r) refl is
    where
      by : ((next : Kept) → after_record old r ≡ Some next → after_records next rs ≡ Some new → CanBeCut next → CanBeCut new) → (o : Option Kept) → after_record old r ≡ o
          → option_and_then (λ (next : Kept). after_records next rs) o ≡ Some new → CanBeCut new
      by rest None e is = absurd (cc is)
      by rest (Some next) e is = rest next e is (record_cut old next r sound (stamps_known next (goes old next r sound e)) e can)

-- ---- a front

next_stands : (house : House) (b : Based) → base_stands house b ≡ true → nat_le b.next 4194304 ≡ true
next_stands house b stands =
    let five = first_so (nat_le b.next 4194304 && makes_store house b.conf b.rows && once_each b.rows && list_all (is_entry_below b.next) (entries_of b.rows) && are_stamps house b.next b.stamps) (are_reports house b.reports) stands in
    let four = first_so (nat_le b.next 4194304 && makes_store house b.conf b.rows && once_each b.rows && list_all (is_entry_below b.next) (entries_of b.rows)) (are_stamps house b.next b.stamps) five in
    let three = first_so (nat_le b.next 4194304 && makes_store house b.conf b.rows && once_each b.rows) (list_all (is_entry_below b.next) (entries_of b.rows)) four in
    let two = first_so (nat_le b.next 4194304 && makes_store house b.conf b.rows) (once_each b.rows) three in
    first_so (nat_le b.next 4194304) (makes_store house b.conf b.rows) two

settled_cut : (f : Fore) (first : Kept) → Begun f → IsSound first → settled f ≡ Some first → CanBeCut first
settled_cut f first begun sound is = by f.based begun.based is
  where
    begins : first_fore (Format f.house f.opening) ≡ Some (record { house = f.house; opening = f.opening; based = None })
    begins = ap₂ (λ (a b : Bool). cond (a && b) (Some (let plain : Fore = record { house = f.house; opening = f.opening; based = None } in plain)) None) begun.spelled begun.begins

    whole : (b : Based) → Stood f.house b → (w : Bool) → cond w (Some (founded f.house f.opening b)) None ≡ Some first → CanBeCut first
    whole b stood true is =
        let same : founded f.house f.opening b ≡ first = cc is in
        subst CanBeCut same (record {
          begins = begins;
          next = leb-true b.next 4194304 (next_stands f.house b stood.base);
          reports = second_so (nat_le b.next 4194304 && makes_store f.house b.conf b.rows && once_each b.rows && list_all (is_entry_below b.next) (entries_of b.rows) && are_stamps f.house b.next b.stamps) (are_reports f.house b.reports) stood.base;
        })
    whole b stood false is = absurd (cc is)

    by : (o : Option Based) → StoodIf f.house o → settled_by f.house f.opening o ≡ Some first → CanBeCut first
    by None stood is =
        let same : new_desk f.house f.opening ≡ first = cc is in
        let few : f.house.first ≤ 4194303 = leb-true f.house.first 4194303
        (second_so (nat_le 1 (length f.house.accounts) && nat_le (length f.house.accounts) 200 && is_known f.house f.house.postmaster && nat_le 2 f.house.first) (nat_le f.house.first 4194303) (subst (λ (k : Kept). is_house k.house ≡ true) (sym same) sound.house)) in
        subst CanBeCut same (record { begins = begins; next = omega (arith, few); reports = refl })
    by (Some b) stood is = whole b stood (is_whole f.house b) is

pub front_cut : (rs : List JournalRecord) (first : Kept) → IsSound first → opening_state rs ≡ Some first → CanBeCut first
front_cut rs first sound is = by (fore_of rs) refl is
  where
    by : (o : Option Fore) → fore_of rs ≡ o → option_and_then settled o ≡ Some first → CanBeCut first
    by None e is = absurd (cc is)
    by (Some f) e is = settled_cut f first (fore_begun rs f e) sound is

-- ---- a journal

-- what its records leave can be cut, where what the records of each journal leave is sound, and is so behind a record more
pub state_cut : ((reports : Reports) (key : List ℕ) (report : Report) → is_by_key reports ≡ true → is_by_key (with_report key report reports) ≡ true)
    → ((records : List JournalRecord) (kept : Kept) → state records ≡ Some kept → IsSound kept) → ((old new : Kept) (r : JournalRecord) → IsSound old → after_record old r ≡ Some new → IsSound new)
    → (records : List JournalRecord) (kept : Kept) → state records ≡ Some kept → CanBeCut kept
state_cut rises sound goes records kept is = by (opening_state (front records)) refl is
  where
    by : (o : Option Kept) → opening_state (front records) ≡ o → option_and_then (λ (first : Kept). after_records first (behind records)) o ≡ Some kept → CanBeCut kept
    by None e is = absurd (cc is)
    by (Some first) e is =
        let first_sound : IsSound first = sound (front records) first (front_alone records first e) in
        records_cut rises goes first kept (behind records) first_sound is (front_cut (front records) first first_sound e)
