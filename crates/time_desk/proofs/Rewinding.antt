-- What becomes of a request for a cycle, from what a cycle leaves in memory and what became of sealing it.
use Rattle.std.proofs.Common.{◌≡◌, ◌⊎◌, ◌||◌, ◌<◌, ◌≤◌, ◌-◌, ◌∷◌, ◌++◌, ◌∙◌, ◌&&◌, [], ℕ, take, drop, List, Bool, true, false, Option, Some, None, Result, Ok, Err, IfOk, OnOk, inl, inr, map, refl, sym, ap, ap₂, subst, arith}
use Rattle.std.specs.Prelude.{◌+◌, IsErrOf, OnErr, if◌then◌else◌, is_none, length, IsSome, IsTrue}
use Rattle.std.proofs.lemmas.List.{take-append-drop}
use Rattle.cycle_rules.specs.Judging.{shown_after}
use Rattle.std.proofs.lemmas.Bool.{eq-eqb}
use Rattle.std.specs.List.{AllByRecursion}
use Rattle.undo_base.specs.declared.keys.User.{User}
use Rattle.undo_outside.specs.Disk.{DiskTold, IsHonest}
use Rattle.seal_log.specs.declared.place.Place.{Place}
use Rattle.seal_log.specs.Journal.{LiesAt}
use Rattle.seal_log.specs.declared.fault.SealFault.{SealFault}
use Rattle.seal_log.specs.declared.fault.SealFault.TheVariants as log_faults
use Rattle.seal_log.specs.Settled.{ReadsAlone}
use Rattle.verb_core.specs.declared.item.Item.{Item}
use Rattle.verb_core.specs.declared.item.Shown.{Shown}
use Rattle.verb_core.specs.declared.mailbox.BoxId.{BoxId}
use Rattle.verb_core.specs.declared.mailbox.Mailbox.{Mailbox}
use Rattle.verb_core.specs.Items.{IsTimeline, IsWellFormed, NumbersApart}
use Rattle.verb_core.specs.Step.{run}
use Rattle.verb_core.specs.Store.{IsValid, MailStore}
use Rattle.verb_core.proofs.Joins.{run_house}
use Rattle.verb_bytes.specs.declared.journal.CycleAsk.{CycleAsk}
use Rattle.verb_bytes.specs.declared.journal.JournalRecord.TheVariants.{Cycle}
use Rattle.verb_bytes.specs.Spelling.{record_bytes}
use Rattle.paradox.specs.Letters.{notices}
use Rattle.paradox.specs.declared.reports.Report.{Report}
use Rattle.store_kept.specs.Bases.{HasBase, IsNew, StandsOn}
use Rattle.store_kept.specs.Coming.{HasUndone}
use Rattle.store_kept.specs.Kept.{BaseTexts, IsRun, Kept, newest_at, origin_of, report_of, rewound, with_report}
use Rattle.store_kept.specs.Texts.{all_bodies, has_text_among, has_text_with, items_asked}
use Rattle.shelf.specs.Marks.{marks_at_or_before}
use Rattle.stored_items.specs.Stored.{AllHeard}
use Rattle.repair_desk.specs.Repairs.{are_known, position}
use Rattle.repair_desk.proofs.Everywhere.{rest_of}
use Rattle.repair_desk.proofs.Points.{within as within_point}
use Rattle.mail_cycle.specs.declared.refused.CycleRefused.{CycleRefused}
use Rattle.mail_cycle.specs.declared.refused.CycleRefused.TheVariants as refusals
use Rattle.mail_cycle.specs.declared.settling.Rewound.{Rewound}
use Rattle.cycle_rules.specs.Asking.{Due, IsRewinds, NoNumbers, NoPoint, Repeats, Rewinds, after_cycle, cycle_due, due_anew, due_by, undone_at}
use Rattle.cycle_rules.specs.Cycles.{cycled_at, front_of, repair_of, repaired_items}
use Rattle.cycle_rules.specs.Repairing.{Cycled, Repair, notice_items, reworked}
use Rattle.cycle_rules.specs.Withdrawals.{after_withdrawal}
use Rattle.withdraw.specs.declared.undone.UndoneBehind.{UndoneBehind}
use Rattle.withdraw.specs.Coming.{CanComeBack}
use Rattle.mail_cycle.specs.Comparing.{broken_by, compared_from, reached_from, reworked_from, timeline_by, timeline_from, told_by}
use Rattle.mail_cycle.specs.Leaving.{GoesOnAt, IsMade, IsMadeFrom, Leaves, LeavesAt, items_left}
use Rattle.mail_cycle.specs.Refusing.{IsRefusalOf, refused_by}
use Rattle.mail_cycle.specs.Tasks.{GoesWith, IsCycle, IsTask, Task}
use Rattle.mail_cycle.proofs.Made.{made_whole}
use Rattle.replay_crew.specs.Hearing.{CountsTextReads}
use Rattle.verb_core.specs.declared.bodies.BodiesFault.{BodiesFault}
use Rattle.verb_core.specs.declared.bodies.BodiesFault.TheVariants as bodies_faults
use Rattle.time_desk.specs.declared.fault.CycleFault.{CycleFault}
use Rattle.time_desk.specs.declared.fault.CycleFault.TheVariants as cycle_faults
use Rattle.time_desk.specs.Cycling.{CanBeUndone, CanRework, Cycles, CyclesBy, CyclesNone, IsCycled, IsFit, IsTold, Redoes, RedoesCause, RedoesCycle, RenotesAs, Reworks, RunsOutOfMemoryBy, Tries, TriesNone, after_rewound, asked_then, most_begun, most_reworked, most_tried}
use Rattle.time_desk.specs.Planning.{BodiesCause}
use Rattle.time_desk.specs.Replaying.{DeliversOn, ToldOr, cycle_reads, delivered_told, repair_reads, some_marked, some_stored}
use Rattle.std.specs.Option.{option_map_or}
use Rattle.mail_desk.specs.Held.{Held}
use Rattle.mail_desk.specs.Timeline.{SizesOf}
use Rattle.seal_log.specs.declared.log.Log.{Log}
use Rattle.desk_journal.specs.Lasting.{JournalTold, Lasting, PastTold, journal_of, lasting}
use Rattle.desk_journal.specs.declared.read_texts.Reading.{Reading}
use Rattle.desk_journal.specs.Going.{read_on}
use Rattle.desk_journal.specs.Permanence.{IsSound}
use Rattle.desk_journal.specs.Reading.{IsStill, ReadsWell}
use Rattle.desk_journal.specs.Records.{after_cycle_record, after_due, after_record, can_rewind, is_spelled}
use Rattle.desk_journal.specs.Sealing.{IsRecordTo, Seals, SealsPayloads}
use Rattle.desk_journal.specs.Stored.{HoldsTexts, IsFresh, MarksLie, TextsNoted, TextsStored, store_at}
use Rattle.mail_cycle.specs.declared.beginning.Beginning.{Beginning}
use Rattle.time_desk.specs.Serving.{CanServe, IsNewest, CanBegin, unmarked}
use Rattle.desk_journal.specs.Submitting.{SealsBytes, SealsNone, SealsNothing}
use Rattle.desk_journal.specs.Telling.{HoldsHeld, IsOnlyRead, IsPastRead}
use Rattle.time_desk.proofs.Telling.{cause_later, tells_asked}
use Rattle.time_desk.proofs.Delivering.{begun_with, deliveries_cause, held_or, honest_or, repairs_marked, repairs_stored, stored_due}
use Rattle.desk_journal.proofs.Holding.{noted_later}
use Rattle.time_desk.proofs.Bounding.{made_length, repaired_few}
use Rattle.time_desk.proofs.Marking.{made_marks}
use Rattle.time_desk.proofs.Renoting.{made_timeline, put_lies, put_noted, shown_made}
use Rattle.time_desk.proofs.Repaired.{nothing_sealed, record_sealed, record_unsealed}
use Rattle.time_desk.proofs.Standings.{if_err}
use Rattle.desk_journal.proofs.Truth.{cycle_true}

-- ---- what a cycle leaves in memory

-- Each body of a store has a text in a front, or with a base. Then each body of what items lead to has one in the front and these items, or with the
-- base.
abbrev pub BodiesOn : Type 0
BodiesOn = (texts : BaseTexts) (base : MailStore) (front t : List Item) → IsValid base → AllByRecursion (IsWellFormed base.house) t → IsTrue (all_bodies (has_text_with texts front) base.boxes) → IsTrue (all_bodies (has_text_with texts (front ++ t)) (run base t).boxes)

-- what is left can be put in place
module _ (kept : Kept) (at : ℕ) (repair : Repair) (first : MailStore) (count : ℕ) (heard : List Item) (made : Rewound) where
  abbrev Timeline : List Item
  Timeline = timeline_from kept at repair first count heard

  pub fits : BodiesOn → HasBase kept → made.from ≡ count → count ≤ repair.place → LeavesAt kept.timeline (reached_from kept at repair first count heard) (reworked_from kept at repair first count heard) made
      → GoesOnAt kept (reached_from kept at repair first count heard) (reworked_from kept at repair first count heard)
      → repair.place ≤ length kept.timeline → CanServe kept count first → take count Timeline ≡ take count kept.timeline → IsFit kept made
  fits bodies base stays few leaves goes within serves front = record {
    from = subst (λ (n : ℕ). n ≤ made.place) (sym stays) (subst (λ (n : ℕ). count ≤ n) (sym leaves.place) few);
    place = subst (λ (n : ℕ). n ≤ length kept.timeline) (sym leaves.place) within;
    house = ap (λ (s : MailStore). s.house) leaves.store ∙ run_house first (drop count Timeline) ∙ serves.house;
    texts = subst (λ (t : List Item). IsTrue (all_bodies (has_text_among kept t) made.store.store.boxes)) (sym leaves.timeline)
        (subst (λ (s : MailStore). IsTrue (all_bodies (has_text_among kept Timeline) s.boxes)) (sym leaves.store)
        (subst (λ (t : List Item). IsTrue (all_bodies (has_text_among kept t) (run first (drop count Timeline)).boxes)) (take-append-drop count Timeline)
        (bodies kept.texts first (take count Timeline) (drop count Timeline) serves.valid
        (subst (λ h. AllByRecursion (IsWellFormed h) (drop count Timeline)) (sym serves.house) (rest_of (IsWellFormed kept.house) count Timeline goes.timeline.formed))
        (subst (λ (t : List Item). IsTrue (all_bodies (has_text_among kept t) first.boxes)) (sym front) serves.texts))));
    valid = leaves.valid;
    base = subst (StandsOn (origin_of kept)) (sym leaves.timeline) (goes.base base);
    timeline = subst (IsTimeline kept.house) (sym leaves.timeline) goes.timeline;
    below = subst (λ (n : ℕ). AllByRecursion (λ (i : Item). i.number < n) (items_left kept.timeline made)) (sym leaves.next)
        (subst (AllByRecursion (λ (i : Item). i.number < (reworked_from kept at repair first count heard).next)) (sym leaves.timeline) goes.below);
    named = ap (map (λ (r : BoxId × ℕ). r.0)) leaves.stamps ∙ goes.named ∙ ap (λ (s : MailStore). map (λ (r : BoxId × Mailbox). r.0) s.boxes) (sym leaves.store);
    fresh = subst (λ (n : ℕ). AllByRecursion (λ (r : BoxId × ℕ). r.1 < n) made.stamps) (sym leaves.next)
        (subst (AllByRecursion (λ (r : BoxId × ℕ). r.1 < (reworked_from kept at repair first count heard).next)) (sym leaves.stamps) goes.fresh);
    rises = subst (λ (n : ℕ). kept.next + n < made.next) (sym leaves.entered) (subst (λ (n : ℕ). kept.next + (reworked_from kept at repair first count heard).entered < n) (sym leaves.next)
        (one_more kept.next repair.acts (length (told_by kept at repair (compared_from repair first count heard)))));
    next = below_end made.next (subst (λ (n : ℕ). n ≤ 4194303) (sym leaves.next) goes.next);
  }
    where
      below_end : (n : ℕ) → n ≤ 4194303 → n ≤ 4194304
      below_end n le = omega arith

      one_more : (a b c : ℕ) → a + (b + c) < a + 1 + b + c
      one_more a b c = omega arith

-- where the same is known of more
pub made_weaker : (kept : Kept) (at : ℕ) (repair : Repair) (told more : Type 0) (made : Rewound) → (more → told) → IsMade kept at repair told made → IsMade kept at repair more made
made_weaker kept at repair told more made so is = record {
  place = is.place;
  first = is.first;
  count = is.count;
  few = is.few;
  valid = is.valid;
  house = is.house;
  led = λ m. is.led (so m);
  made_from = record { heard = is.made_from.heard; all = is.made_from.all; same = λ m. is.made_from.same (so m); front = is.made_from.front; from = is.made_from.from; leaves = is.made_from.leaves };
}

pub cycled_weaker : (kept : Kept) (at : ℕ) (ask : CycleAsk) (told more : Type 0) (made : Rewound) → (more → told) → IsCycled kept at ask told made → IsCycled kept at ask more made
cycled_weaker kept at ask told more made so is = record { place = is.place; is_place = is.is_place; due = is.due; is_made = made_weaker kept at (repair_of kept at ask is.place) told more made so is.is_made }

-- as it is where the disk holds the texts
pub held_cycled : (kept : Kept) (at : ℕ) (ask : CycleAsk) (told : Type 0) (made : Rewound) → IsCycled kept at ask (ToldOr told (cycle_reads kept at ask)) made → IsCycled kept at ask told made
held_cycled kept at ask told made is = cycled_weaker kept at ask (ToldOr told (cycle_reads kept at ask)) told made (λ h. inl h) is

-- what is left of a cycle in memory, where the texts were told as they were stored
pub cycled_redoes : (kept : Kept) (at : ℕ) (ask : CycleAsk) (told : Type 0) (made : Rewound) → IsCycled kept at ask told made → Redoes kept at ask told made
cycled_redoes kept at ask told made is = (cycled_at kept at ask is.place, is.due, λ t. made_whole kept at (repair_of kept at ask is.place) told made is.is_made t)

-- ---- a repair in memory, from a beginning that can serve

module _ {D : Type 0} (told : D → DiskTold) (held : Held) (t : Task) (task : IsTask t) (old : PastTold D) (can : CanRework told held old.end t) (first : Beginning) (serves : CanBegin held.kept t.repair.place first) where
  abbrev Holds : Type 0
  Holds = HoldsHeld (told old.disk) held

  -- or nothing is to be read
  abbrev Told : Type 0
  Told = ToldOr Holds (repair_reads held.kept t.texts t.repair)

  within : t.repair.place ≤ length held.kept.timeline
  within = subst (λ (k : Kept). t.repair.place ≤ length k.timeline) can.kept task.place

  -- it is of the desk, whatever is known of its snapshots
  of_desk : (was : Type 0) (made : Rewound) → (Told → was) → IsMadeFrom t.kept t.at t.repair first.store.store first.count was made → IsMadeFrom held.kept t.at t.repair first.store.store first.count Told made
  of_desk was made so made_from =
      let is = subst (λ (k : Kept). IsMadeFrom k t.at t.repair first.store.store first.count was made) can.kept made_from in
      record { heard = is.heard; all = is.all; same = λ h. is.same (so h); front = is.front; from = is.from; leaves = is.leaves }

  whole_made : (was : Type 0) (made : Rewound) → (Told → was) → (Told → first.store.store ≡ store_at held.kept first.count) → IsMadeFrom t.kept t.at t.repair first.store.store first.count was made
      → IsMade held.kept t.at t.repair Told made
  whole_made was made so led made_from = record {
    place = within;
    first = first.store.store;
    count = first.count;
    few = serves.few;
    valid = serves.serves.valid;
    house = serves.serves.house;
    led = led;
    made_from = of_desk was made so made_from;
  }

  -- what came of it
  pub reworks : (mid : PastTold D) (r s : Reading D) (items : List Item) (before after : ℕ) (result : Result Rewound BodiesFault) → BodiesOn → HasBase held.kept
      → ((heard : List Item) → AllHeard t.repair.items heard → GoesOnAt held.kept (reached_from held.kept t.at t.repair first.store.store first.count heard) (reworked_from held.kept t.at t.repair first.store.store first.count heard))
      → ((heard : List Item) → take first.count heard ≡ take first.count held.kept.timeline → take first.count (timeline_from held.kept t.at t.repair first.store.store first.count heard) ≡ take first.count held.kept.timeline)
      → (Holds → IsNewest held.kept t.repair.place first) → (some_marked held.kept t.repair.place ≡ false → (first.count ≡ 0) × (first.store.store ≡ held.kept.base))
      → IsPastRead told old mid → (told mid.disk).failed_reads ≡ (told old.disk).failed_reads
      → r.past.now ≡ mid → r.desk.now ≡ held → r.failed ≡ 0 → r.cycle ≡ held.kept.next → r.replaces.now ≡ t.texts → DeliversOn told r s t.repair.items items → CountsTextReads (delivered_told told r t.repair.items) (delivered_told told s items) result
      → IfOk result (IsMadeFrom t.kept t.at t.repair first.store.store first.count (delivered_told told r t.repair.items).honest)
      → IfOk result (λ made. after ≤ before + (t.repair.place - first.count) + t.repair.acts + made.report.kept + length made.report.notices)
      → OnErr result (after ≤ before + (t.repair.place - first.count) + t.repair.acts + t.repair.kept + length t.kept.house.accounts)
      → Reworks told held t old s.past.now before after result
  reworks mid r s items before after result bodies base goes front newest unmarked still same past_is held_is none cycle_is texts_are leads counts made steps most = record {
    made = made_then result made;
    fit = fit_then result made;
    cause = cause_later told (told old.disk) (told mid.disk) (told s.past.now.disk) result same still.reads.reads.reliable
        (subst (λ (p : PastTold D). BodiesCause (told p.disk) (told s.past.now.disk) result) past_is (deliveries_cause told r s t.repair.items items result leads none counts));
    due = λ failed. repairs_stored held.kept t.texts t.repair (sym asked_same ∙ stored_due told r s t.repair.items items result leads none counts failed);
    still = read_on told old mid s.past.now still (subst (λ (p : PastTold D). IsPastRead told p s.past.now) past_is leads.reading.reads.still);
    few = λ h. few_then result made steps h;
    most = λ h. most_then result most h;
    any = any_then result most;
    steps = steps_then result made steps;
  }
    where
      some : Bool
      some = some_stored held.kept.next t.texts t.repair.items

      -- what is to be read is so by what the repair brings
      asked_same : some_stored r.cycle r.replaces.now t.repair.items ≡ some
      asked_same = ap₂ (λ (c : ℕ) (brought : List (ℕ × List ℕ)). some_stored c brought t.repair.items) cycle_is texts_are

      begun : Told → ToldOr (HoldsHeld (told mid.disk) held) some × (first.store.store ≡ store_at held.kept first.count)
      begun h = begun_with held t.repair.place some (told old.disk) (told mid.disk) first still.reads newest unmarked h

      honest : Told → (delivered_told told r t.repair.items).honest
      honest h = honest_or told r t.repair.items (told mid.disk) held some (ap (λ (p : PastTold D). told p.disk) past_is) held_is (λ none. asked_same ∙ none) (begun h).0

      led : Told → first.store.store ≡ store_at held.kept first.count
      led h = (begun h).1

      made_then : (x : Result Rewound BodiesFault) → IfOk x (IsMadeFrom t.kept t.at t.repair first.store.store first.count (delivered_told told r t.repair.items).honest) → IfOk x (IsMade held.kept t.at t.repair Told)
      made_then (Ok m) is = whole_made (delivered_told told r t.repair.items).honest m honest led is
      made_then (Err e) is = tt

      fit_then : (x : Result Rewound BodiesFault) → IfOk x (IsMadeFrom t.kept t.at t.repair first.store.store first.count (delivered_told told r t.repair.items).honest) → IfOk x (IsFit held.kept)
      fit_then (Ok m) made_from =
          let is = of_desk (delivered_told told r t.repair.items).honest m honest made_from in
          fits held.kept t.at t.repair first.store.store first.count is.heard m bodies base is.from serves.few is.leaves (goes is.heard is.all) within serves.serves (front is.heard is.front)
      fit_then (Err e) made_from = tt

      regroup : (a b c d e f : ℕ) → b ≤ a + c + d + e + f → b ≤ a + (c + d + e + f)
      regroup a b c d e f le = omega arith

      few_then : (x : Result Rewound BodiesFault) → IfOk x (IsMadeFrom t.kept t.at t.repair first.store.store first.count (delivered_told told r t.repair.items).honest)
          → IfOk x (λ made. after ≤ before + (t.repair.place - first.count) + t.repair.acts + made.report.kept + length made.report.notices) → Holds
          → OnOk x (after ≤ before + most_reworked held.kept t.repair.acts (reworked held.kept t.at t.repair))
      few_then (Ok m) made_from steps h =
          let leaves = made_whole held.kept t.at t.repair Told m (whole_made (delivered_told told r t.repair.items).honest m honest led made_from) (inl h) in
          let due = reworked held.kept t.at t.repair in
          regroup before after (t.repair.place - newest_at t.repair.place held.kept.marks.places) t.repair.acts due.report.kept (length due.report.notices)
          (subst (λ (report : Report). after ≤ before + (t.repair.place - newest_at t.repair.place held.kept.marks.places) + t.repair.acts + report.kept + length report.notices) leaves.report
          (subst (λ (n : ℕ). after ≤ before + (t.repair.place - n) + t.repair.acts + m.report.kept + length m.report.notices) (newest h).count steps))
      few_then (Err e) made_from steps h = tt

      of_house : after ≤ before + (t.repair.place - first.count) + t.repair.acts + t.repair.kept + length t.kept.house.accounts
          → after ≤ before + (t.repair.place - first.count) + t.repair.acts + t.repair.kept + length held.kept.house.accounts
      of_house le = subst (λ (k : Kept). after ≤ before + (t.repair.place - first.count) + t.repair.acts + t.repair.kept + length k.house.accounts) can.kept le

      most_then : (x : Result Rewound BodiesFault) → OnErr x (after ≤ before + (t.repair.place - first.count) + t.repair.acts + t.repair.kept + length t.kept.house.accounts) → Holds
          → OnErr x (after ≤ before + most_begun held.kept t.repair.acts (reworked held.kept t.at t.repair))
      most_then (Ok m) most h = tt
      most_then (Err e) most h =
          regroup before after (t.repair.place - newest_at t.repair.place held.kept.marks.places) t.repair.acts t.repair.kept (length held.kept.house.accounts)
          (subst (λ (n : ℕ). after ≤ before + (t.repair.place - n) + t.repair.acts + t.repair.kept + length held.kept.house.accounts) (newest h).count (of_house most))

      any_then : (x : Result Rewound BodiesFault) → OnErr x (after ≤ before + (t.repair.place - first.count) + t.repair.acts + t.repair.kept + length t.kept.house.accounts)
          → OnErr x (after ≤ before + length t.repair.items + length held.kept.house.accounts)
      any_then (Ok m) most = tt
      any_then (Err e) most = omega (arith, task.long, of_house most)

      steps_then : (x : Result Rewound BodiesFault) → IfOk x (IsMadeFrom t.kept t.at t.repair first.store.store first.count (delivered_told told r t.repair.items).honest)
          → IfOk x (λ made. after ≤ before + (t.repair.place - first.count) + t.repair.acts + made.report.kept + length made.report.notices) → IfOk x (λ made. after ≤ before + length (items_left held.kept.timeline made))
      steps_then (Ok m) made_from steps =
          let is = of_desk (delivered_told told r t.repair.items).honest m honest made_from in
          let items = made_length held.kept t.at t.repair first.store.store first.count Told m task.long is in
          omega (arith, items, steps)
      steps_then (Err e) made_from steps = tt

-- a fault of reading is of one cause, whatever was to be read
pub cause_of : (T U : Type 0) (old new : DiskTold) (why : BodiesFault) → BodiesCause {T = T} old new (Err why) → BodiesCause {T = U} old new (Err why)
cause_of T U old new bodies_faults.Failed cause = cause
cause_of T U old new bodies_faults.NoMemory cause = cause

one_fault : (a b : BodiesFault) → ◌≡◌ {A = Result Rewound BodiesFault} (Err a) (Err b) → a ≡ b
one_fault a b e = cc

-- nothing was performed: a read failed before, or no memory was found
pub reworks_none : {D : Type 0} (told : D → DiskTold) (held : Held) (t : Task) (old mid : PastTold D) (steps : ℕ) (result : Result Rewound BodiesFault) (fault why : BodiesFault) → result ≡ Err fault → fault ≡ why
    → BodiesCause {T = Rewound} (told old.disk) (told mid.disk) (Err why) → (why ≡ bodies_faults.Failed → some_marked held.kept t.repair.place ≡ true) → IsPastRead told old mid → Reworks told held t old mid steps steps result
reworks_none told held t old mid steps result fault why is fault_is cause marked still =
    let whole : result ≡ Err why = cc (is, fault_is) in
    subst (Reworks told held t old mid steps steps) (sym whole) (record {
      made = tt;
      fit = tt;
      cause = cause;
      due = λ failed. repairs_marked held.kept t.texts t.repair (marked (one_fault why bodies_faults.Failed failed));
      still = still;
      few = λ h. tt;
      most = λ h. omega arith;
      any = omega arith;
      steps = tt;
    })

-- a refusal by another name
pub refused_alike : (P : Result Rewound CycleRefused → Type 0) (result : Result Rewound CycleRefused) (refused why : CycleRefused) → result ≡ Err refused → refused ≡ why → P (Err why) → P result
refused_alike P result refused why is same p = subst P (sym is) (subst (λ (r : CycleRefused). P (Err r)) (sym same) p)

-- ---- a cycle in memory

-- what is to be read for it, by the place of its point
pub reads_there : (kept : Kept) (at : ℕ) (ask : CycleAsk) (place : ℕ) → position kept.timeline ask.point ≡ Some place → cycle_reads kept at ask ≡ repair_reads kept ask.replaces (repair_of kept at ask place)
reads_there kept at ask place is = ap (λ (o : Option ℕ). option_map_or (λ (n : ℕ). repair_reads kept ask.replaces (repair_of kept at ask n)) o false) is

-- it can be performed
pub asked_can : {D : Type 0} (told : D → DiskTold) (held : Held) (gate at : ℕ) (ask : CycleAsk) (t : Task) → IsCycle (unmarked held.kept) at ask t
    → ((place : ℕ) → GoesWith held.kept (repair_of held.kept at ask place)) → NumbersApart held.kept.timeline → TextsNoted gate held.notes held.kept → HasUndone held.kept → CanRework told held gate t
asked_can told held gate at ask t is goes apart noted comes = subst (CanRework told held gate) (sym is.task) (record {
  kept = refl;
  goes = goes is.place;
  tells = tells_asked told held gate at ask is.place apart noted comes;
})

one_due : (a b : Cycled) → Rewinds a ≡ Rewinds b → a ≡ b
one_due a b e = cc

module _ {D : Type 0} (told : D → DiskTold) (held : Held) (at : ℕ) (ask : CycleAsk) where
  -- what came of a cycle that is due
  pub cycle_redone : (t : Task) (old new : PastTold D) (same : Type 0) (before after : ℕ) (made : Rewound) → IsCycle (unmarked held.kept) at ask t → Reworks told held t old new before after (Ok made)
      → ((honest : Type 0) (cycled : IsCycled held.kept at ask honest made) → CanBeUndone held.kept true made)
      → RedoesCycle told held at ask old.disk new.disk same before after (Ok made)
  cycle_redone t old new same before after made is done undone = record {
    alone = record {
      cycled = was_cycled;
      fit = done.fit;
      undone = undone (ToldOr (HoldsHeld (told old.disk) held) (cycle_reads held.kept at ask)) was_cycled;
      refused = tt;
      cause = done.cause;
      due = λ failed. absurd (cc failed);
    };
    untouched = tt;
    few = λ due due_is h.
        subst (λ (d : Cycled). after ≤ before + most_reworked held.kept (length ask.inserts) d) (one_due (cycled_at held.kept at ask is.place) due (sym is.due ∙ due_is))
        (subst (λ (u : Task). after ≤ before + most_reworked held.kept u.repair.acts (reworked held.kept u.at u.repair)) is.task (done.few h));
    most = λ due due_is h. tt;
    any = tt;
    steps = done.steps;
  }
    where
      was_cycled : IsCycled held.kept at ask (ToldOr (HoldsHeld (told old.disk) held) (cycle_reads held.kept at ask)) made
      was_cycled = record {
        place = is.place;
        is_place = is.is_place;
        due = is.due;
        is_made = subst (λ (some : Bool). IsMade held.kept at (repair_of held.kept at ask is.place) (ToldOr (HoldsHeld (told old.disk) held) some) made) (sym (reads_there held.kept at ask is.place is.is_place))
            (subst (λ (u : Task). IsMade held.kept u.at u.repair (ToldOr (HoldsHeld (told old.disk) held) (repair_reads held.kept u.texts u.repair)) made) is.task done.made);
      }

  -- how much of one that failed was performed
  most_failed : (t : Task) (old new : PastTold D) (before after : ℕ) (fault : BodiesFault) → IsCycle (unmarked held.kept) at ask t → Reworks told held t old new before after (Err fault)
      → (due : Cycled) → due_anew held.kept at ask ≡ Rewinds due → HoldsHeld (told old.disk) held → after ≤ before + most_tried held.kept ask due
  most_failed t old new before after fault is done due due_is h =
      subst (λ (d : Cycled). after ≤ before + most_begun held.kept (length ask.inserts) d) (one_due (cycled_at held.kept at ask is.place) due (sym is.due ∙ due_is))
      (subst (λ (u : Task). after ≤ before + most_begun held.kept u.repair.acts (reworked held.kept u.at u.repair)) is.task (done.most h))

  any_failed : (t : Task) (old new : PastTold D) (before after : ℕ) (fault : BodiesFault) → IsCycle (unmarked held.kept) at ask t → Reworks told held t old new before after (Err fault)
      → after ≤ before + length held.kept.timeline + length ask.inserts + length held.kept.house.accounts
  any_failed t old new before after fault is done =
      let all : after ≤ before + length (repair_of held.kept at ask is.place).items + length held.kept.house.accounts =
      subst (λ (u : Task). after ≤ before + length u.repair.items + length held.kept.house.accounts) is.task done.any in
      omega (arith, all, repaired_few held.kept at ask is.place (within_point held.kept.timeline ask.point is.place is.is_place))

  -- a read failed, or no memory was found
  cycle_failed : (t : Task) (old new : PastTold D) (same : Type 0) (before after : ℕ) → IsCycle (unmarked held.kept) at ask t → Reworks told held t old new before after (Err bodies_faults.Failed)
      → RedoesCycle told held at ask old.disk new.disk same before after (Err refusals.Disk)
  cycle_failed t old new same before after is done = record {
    alone = record {
      cycled = tt;
      fit = tt;
      undone = tt;
      refused = rewinds_due is;
      cause = done.cause;
      due = λ failed. reads_there held.kept at ask is.place is.is_place ∙ subst (λ (u : Task). repair_reads held.kept u.texts u.repair ≡ true) is.task (done.due refl);
    };
    untouched = λ undue. absurd (undue (rewinds_due is));
    few = λ due due_is h. tt;
    most = most_failed t old new before after bodies_faults.Failed is done;
    any = any_failed t old new before after bodies_faults.Failed is done;
    steps = tt;
  }
    where
      rewinds_due : IsCycle (unmarked held.kept) at ask t → IsRewinds (due_anew held.kept at ask)
      rewinds_due is = subst IsRewinds (sym is.due) tt

  cycle_wanting : (t : Task) (old new : PastTold D) (same : Type 0) (before after : ℕ) → IsCycle (unmarked held.kept) at ask t → Reworks told held t old new before after (Err bodies_faults.NoMemory)
      → RedoesCycle told held at ask old.disk new.disk same before after (Err refusals.NoMemory)
  cycle_wanting t old new same before after is done = record {
    alone = record { cycled = tt; fit = tt; undone = tt; refused = rewinds_due is; cause = done.cause; due = λ failed. absurd (cc failed) };
    untouched = λ undue. absurd (undue (rewinds_due is));
    few = λ due due_is h. tt;
    most = most_failed t old new before after bodies_faults.NoMemory is done;
    any = any_failed t old new before after bodies_faults.NoMemory is done;
    steps = tt;
  }
    where
      rewinds_due : IsCycle (unmarked held.kept) at ask t → IsRewinds (due_anew held.kept at ask)
      rewinds_due is = subst IsRewinds (sym is.due) tt

  -- it was not worked out
  pub cycle_broken : (t : Task) (old new : PastTold D) (same : Type 0) (before after : ℕ) (fault : BodiesFault) → IsCycle (unmarked held.kept) at ask t → Reworks told held t old new before after (Err fault)
      → RedoesCycle told held at ask old.disk new.disk same before after (Err (refused_by fault))
  cycle_broken t old new same before after bodies_faults.Failed is done = cycle_failed t old new same before after is done
  cycle_broken t old new same before after bodies_faults.NoMemory is done = cycle_wanting t old new same before after is done

-- the same of a journal, before its gate
pub cycle_through : {D : Type 0} (told : D → DiskTold) (held : Held) (at : ℕ) (ask : CycleAsk) (old : JournalTold D) (past new : PastTold D) (log : Log) (before after : ℕ) (result : Result Rewound CycleRefused) → journal_of past log ≡ old
    → RedoesCycle told held at ask past.disk new.disk (new ≡ past) before after result → RedoesCycle told held at ask old.disk new.disk (journal_of new log ≡ old) before after result
cycle_through {D = D} told held at ask old past new log before after result is redoes =
    subst (λ (j : JournalTold D). RedoesCycle told held at ask j.disk new.disk (journal_of new log ≡ j) before after result) is (record {
      alone = redoes.alone;
      untouched = if_err result _ _ (λ refused same undue. ap (λ (p : PastTold D). journal_of p log) (same undue)) redoes.untouched;
      few = redoes.few;
      most = redoes.most;
      any = redoes.any;
      steps = redoes.steps;
    })

-- ---- the notes that it leaves

pub cycle_notes : (gate next : ℕ) (before after : Held) (at : ℕ) (ask : CycleAsk) (told : Type 0) (made : Rewound) (bytes : List ℕ) → next ≡ gate + 5 + length bytes → bytes ≡ record_bytes (Cycle before.kept.next at ask)
    → IsCycled before.kept at ask told made → IsFit before.kept made → (key : List ℕ) → after.kept ≡ after_rewound before.kept key true made
    → SizesOf before.notes before.kept.texts (items_asked before.kept) → HasBase before.kept → NumbersApart before.kept.timeline → AllByRecursion (λ (i : Item). i.number < before.kept.next) before.kept.timeline → HasUndone before.kept
    → RenotesAs before ask at (record { gate = gate; length = length bytes }) made after.notes → SizesOf after.notes before.kept.texts (asked_then before.kept true made)
    → TextsNoted gate before.notes before.kept → TextsNoted next after.notes after.kept
cycle_notes gate next before after at ask told made bytes next_is bytes_are is fit key put sizes base apart below comes renotes sizes' noted =
    let where_ : Place = record { gate = gate; length = length bytes } in
    put_noted before after at ask told made where_ bytes renotes.fresh (subst (λ (b : List ℕ). IsFresh before.kept.next at ask where_ b renotes.fresh) (sym bytes_are) renotes.is_fresh)
    is fit.timeline.apart key put sizes base apart below comes renotes.renotes next (omega (arith, next_is)) refl sizes'
    (noted_later gate next before.notes before.kept (omega (arith, next_is)) noted)

-- what was found is noted at the place of its own bytes
pub found_there : {T W : Type 0} (result : Result T W) (Q : Place → T → Type 0) (bytes_in : T → List ℕ) (place : Place) (gate : ℕ) (bytes : List ℕ) → place ≡ record { gate = gate; length = length bytes }
    → IfOk result (λ found. bytes_in found ≡ bytes) → IfOk result (Q place) → IfOk result (λ found. Q (record { gate = gate; length = length (bytes_in found) }) found)
found_there (Ok found) Q bytes_in place gate bytes place_is bytes_are holds =
    subst (λ (p : Place). Q p found) (place_is ∙ ap (λ (b : List ℕ). record { gate = gate; length = length b }) (sym bytes_are)) holds
found_there (Err why) Q bytes_in place gate bytes place_is bytes_are holds = tt

-- what is kept then is what is kept after the cycle
pub after_is : (kept : Kept) (at : ℕ) (ask : CycleAsk) (place : ℕ) (made : Rewound) → Leaves kept (cycled_at kept at ask place) made
    → after_cycle kept ask (cycled_at kept at ask place) ≡ after_rewound kept ask.key true made
after_is kept at ask place made leaves = λ j. record kept {
  store = sym leaves.store j;
  timeline = sym leaves.timeline j;
  stamps = sym leaves.stamps j;
  next = sym leaves.next j;
  reports = with_report ask.key (sym leaves.report j) kept.reports;
  marks = rewound (sym leaves.place j) (sym leaves.entered j) kept.marks;
  undone = Some (record {
    cycle = (sym leaves.report j).cycle;
    point = (sym leaves.report j).point;
    later = drop (sym leaves.place j) kept.timeline;
    position = sym leaves.place j;
    placed = sym leaves.placed j;
  });
}

-- and so after the withdrawal, which can't be withdrawn
pub after_withdrawal_is : (kept : Kept) (key : List ℕ) (due : Cycled) (made : Rewound) → Leaves kept due made → after_withdrawal kept key due ≡ after_rewound kept key false made
after_withdrawal_is kept key due made leaves = λ j. record kept {
  store = sym leaves.store j;
  timeline = sym leaves.timeline j;
  stamps = sym leaves.stamps j;
  next = sym leaves.next j;
  reports = with_report key (sym leaves.report j) kept.reports;
  marks = rewound (sym leaves.place j) (sym leaves.entered j) kept.marks;
  undone = None;
}

-- what the cycle leaves to be withdrawn can come back, whatever was read
pub can_be_undone : (kept : Kept) (at : ℕ) (ask : CycleAsk) (honest : Type 0) (made : Rewound) (is : IsCycled kept at ask honest made) → kept.next < made.next → AllByRecursion (λ (i : Item). IsNew (origin_of kept) i.number) kept.timeline
    → CanComeBack kept.house (timeline_by kept at (repair_of kept at ask is.place) is.is_made.made_from.heard (shown_made kept at ask honest made is)) (undone_at kept ask is.place (length (repaired_items kept at ask is.place)))
    → CanBeUndone kept true made
can_be_undone kept at ask honest made is rises new back =
    let leaves = is.is_made.made_from.leaves in
    let last : UndoneBehind = record { cycle = made.report.cycle; point = made.report.point; later = drop made.place kept.timeline; position = made.place; placed = made.placed } in
    let last_is : undone_at kept ask is.place (length (repaired_items kept at ask is.place)) ≡ last = λ j. record {
      cycle = (sym leaves.report j).cycle;
      point = (sym leaves.report j).point;
      later = drop (sym leaves.place j) kept.timeline;
      position = sym leaves.place j;
      placed = sym leaves.placed j;
    } in
    record {
      cycle = subst (λ (r : Report). r.cycle < made.next) (sym leaves.report) rises;
      back = subst (CanComeBack kept.house (items_left kept.timeline made)) last_is (subst (λ (t : List Item). CanComeBack kept.house t (undone_at kept ask is.place (length (repaired_items kept at ask is.place)))) (sym (made_timeline kept at ask honest made is)) back);
      new = rest_of (λ (i : Item). IsNew (origin_of kept) i.number) made.place kept.timeline new;
    }

-- as what stood behind the point of any cycle can
abbrev pub ComesBack : Type 0
ComesBack = (s : Kept) (at : ℕ) (ask : CycleAsk) (place : ℕ) (heard : List Item) (now : List Shown) (told : List (User × List ℕ)) → place ≤ length s.timeline →
    IsTimeline s.house s.timeline → AllByRecursion (λ (i : Item). i.number < s.next) s.timeline → AllHeard (repaired_items s at ask place) heard →
    IsTimeline s.house (shown_after (front_of ask place) heard now ++ notice_items (s.next + length ask.inserts) at told) →
    CanComeBack s.house (shown_after (front_of ask place) heard now ++ notice_items (s.next + length ask.inserts) at told) (undone_at s ask place (length (repaired_items s at ask place)))

pub comes_back : ComesBack → (kept : Kept) (at : ℕ) (ask : CycleAsk) (honest : Type 0) (made : Rewound) → IsCycled kept at ask honest made → IsFit kept made → HasBase kept → IsTimeline kept.house kept.timeline
    → AllByRecursion (λ (i : Item). i.number < kept.next) kept.timeline → CanBeUndone kept true made
comes_back law kept at ask honest made is fit base timeline below =
    let now = shown_made kept at ask honest made is in
    can_be_undone kept at ask honest made is (omega (arith, fit.rises)) base.new
    (law kept at ask is.place is.is_made.made_from.heard now (notices kept.house kept.next at (broken_by (repair_of kept at ask is.place) now)) is.is_made.place timeline below is.is_made.made_from.all
    (subst (IsTimeline kept.house) (made_timeline kept at ask honest made is) fit.timeline))

-- ---- what is due

-- under a new key
pub due_new : (kept : Kept) (at : ℕ) (ask : CycleAsk) → report_of kept.reports ask.key ≡ None → cycle_due kept at ask ≡ due_anew kept at ask
due_new kept at ask new = ap (λ (r : Option Report). due_by r (due_anew kept at ask)) new

-- under a key that a cycle had
pub due_again : (kept : Kept) (at : ℕ) (ask : CycleAsk) (report : Report) → report_of kept.reports ask.key ≡ Some report → cycle_due kept at ask ≡ Repeats report
due_again kept at ask report had = ap (λ (r : Option Report). due_by r (due_anew kept at ask)) had

-- ---- the record of a cycle

-- what the record comes to, where it has a spelling and the next number, and its users are known
pub record_after : (kept : Kept) (at : ℕ) (ask : CycleAsk) → is_spelled (Cycle kept.next at ask) ≡ true → are_known kept.house ask.inserts ≡ true
    → after_record kept (Cycle kept.next at ask) ≡ after_due (after_cycle kept ask) (cycle_due kept at ask)
record_after kept at ask spelled known =
    ap (λ (b : Bool). if b && can_rewind kept kept.next ask then after_due (after_cycle kept ask) (cycle_due kept at ask) else None) spelled
    ∙ ap (λ (b : Bool). if b && are_known kept.house ask.inserts then after_due (after_cycle kept ask) (cycle_due kept at ask) else None) (eq-eqb kept.next kept.next refl)
    ∙ ap (λ (b : Bool). if b then after_due (after_cycle kept ask) (cycle_due kept at ask) else None) known

-- the record of a cycle that is due
pub record_is : (kept : Kept) (at : ℕ) (ask : CycleAsk) (due : Cycled) (bytes : List ℕ) → report_of kept.reports ask.key ≡ None → due_anew kept at ask ≡ Rewinds due
    → bytes ≡ record_bytes (Cycle kept.next at ask) → is_spelled (Cycle kept.next at ask) ≡ true → are_known kept.house ask.inserts ≡ true
    → IsRecordTo (Cycle kept.next at ask) bytes kept (after_cycle kept ask due)
record_is kept at ask due bytes new due_is bytes_are spelled known = record {
  bytes_are = sym bytes_are;
  can_stand = record_after kept at ask spelled known ∙ ap (after_due (after_cycle kept ask)) (due_new kept at ask new ∙ due_is);
  truth = cycle_true kept kept.next at ask;
}

-- ---- answers

-- what holds holds also where there is an answer
pub any_ok : {T E P : Type 0} (result : Result T E) → P → OnOk result P
any_ok (Ok x) holds = holds
any_ok (Err e) holds = tt

-- steps are counted by the items in force
pub steps_kept : {T E : Type 0} (result : Result T E) (before after : ℕ) (items : List Item) (made : Rewound) (now : List Item) → after ≤ before + length (items_left items made) → OnOk result (now ≡ items_left items made) → OnOk result (after ≤ before + length now)
steps_kept (Ok x) before after items made now steps are = subst (λ (t : List Item). after ≤ before + length t) (sym are) steps
steps_kept (Err e) before after items made now steps are = tt

-- why there is no cycle, of a trial
pub tries_none : (kept : Kept) (at : ℕ) (ask : CycleAsk) (old new : DiskTold) (refused : CycleRefused) (fault : CycleFault) → IsRefusalOf kept ask (due_anew kept at ask) refused
    → RedoesCause {T = Rewound} old new (Err refused) → (IsErrOf {T = Rewound} (Err refused) refusals.Disk → IsTrue (cycle_reads kept at ask)) → IsTold refused fault → TriesNone kept at ask old new fault
tries_none kept at ask old new (refusals.Point given) fault refusal cause due is = subst (TriesNone kept at ask old new) (sym is) (refusal.0, refusal.1, cause)
tries_none kept at ask old new (refusals.Numbers next) fault refusal cause due is = subst (TriesNone kept at ask old new) (sym is) (refusal.0, refusal.1, cause)
tries_none kept at ask old new refusals.Disk fault refusal cause due is = subst (TriesNone kept at ask old new) (sym is) (refusal, due refl, cause)
tries_none kept at ask old new refusals.NoMemory fault refusal cause due is = subst (TriesNone kept at ask old new) (sym is) (refusal, cause)

module _ {D : Type 0} (told : D → DiskTold) where
  -- a cycle that was sealed and put in place
  pub cycled : (at : ℕ) (ask : CycleAsk) (first new : Lasting D) (made : Rewound) (report : Report)
      → report_of first.kept.reports ask.key ≡ None → IsCycled first.kept at ask (ToldOr (HoldsTexts told first) (cycle_reads first.kept at ask)) made → first.closed ≡ false → report ≡ made.report
      → new.kept ≡ after_rewound first.kept ask.key true made → Seals told (Cycle first.kept.next at ask ∷ []) [] first new → Cycles told at ask first new report
  cycled at ask first new made report anew is open_ report_is kept_is seals =
      let leaves = made_whole first.kept at (repair_of first.kept at ask is.place) (ToldOr (HoldsTexts told first) (cycle_reads first.kept at ask)) made is.is_made in
      subst (CyclesBy told at ask first new report) (sym (due_new first.kept at ask anew ∙ is.due)) (
        open_,
        λ holds. (report_is ∙ (leaves holds).report, kept_is ∙ sym (after_is first.kept at ask is.place made (leaves holds))),
        seals,
      )

-- ---- a cycle that is sealed

module _ {D : Type 0} (told : D → DiskTold) (disk : D) (before after : Held) (old new : JournalTold D) (at : ℕ) (ask : CycleAsk) (made : Rewound) (bytes : List ℕ) (reads : ReadsAlone (told disk) (told old.disk)) where
  -- the desk before texts were read
  abbrev First : Lasting D
  First = lasting before (record old { disk = disk })

  -- where the texts lie there as they are noted, or none is to be read
  abbrev FirstTold : Type 0
  FirstTold = ToldOr (HoldsTexts told First) (cycle_reads before.kept at ask)

  module _ (is : IsCycled before.kept at ask FirstTold made) (anew : report_of before.kept.reports ask.key ≡ None) (bytes_are : bytes ≡ record_bytes (Cycle before.kept.next at ask))
      (spelled : is_spelled (Cycle before.kept.next at ask) ≡ true) (known : are_known before.kept.house ask.inserts ≡ true) (open_ : old.closed ≡ false) where
    due_record : IsRecordTo (Cycle before.kept.next at ask) bytes before.kept (after_cycle before.kept ask (cycled_at before.kept at ask is.place))
    due_record = record_is before.kept at ask (cycled_at before.kept at ask is.place) bytes anew is.due bytes_are spelled known

    -- its record was sealed, and what it leaves was put in place
    pub cycle_sealed : SealsPayloads (bytes ∷ []) [] (told old.disk) (told new.disk) old.gate new.gate → new.closed ≡ false → (IsRun before.kept → IsSound before.kept) → SizesOf before.notes before.kept.texts (items_asked before.kept) → IsFit before.kept made
        → after.kept ≡ after_rewound before.kept ask.key true made → after.marks ≡ marks_at_or_before made.place before.marks → RenotesAs before ask at (record { gate = old.gate; length = length bytes }) made after.notes
        → Seals told (Cycle before.kept.next at ask ∷ []) [] First (lasting after new)
    cycle_sealed seals still sound sizes fit kept_is marks_are renotes =
        record_sealed told disk before after old new (Cycle before.kept.next at ask) bytes reads open_ (sym bytes_are) due_record.truth (λ none. let wrong : ◌≡◌ {A = Bool} true false = none in cc)
        (λ holds. due_record.can_stand ∙ ap Some (left_is holds)) (ap (λ (k : Kept). k.house) kept_is) seals still sound (λ holds. subst IsRun (left_is holds) refl) lies marked
      where
        left_is : HoldsTexts told First → after_cycle before.kept ask (cycled_at before.kept at ask is.place) ≡ after.kept
        left_is holds =
            after_is before.kept at ask is.place made (made_whole before.kept at (repair_of before.kept at ask is.place) FirstTold made is.is_made (inl holds)) ∙ sym kept_is

        marked : HoldsTexts told First → (payloads : List (List ℕ)) → LiesAt payloads old.gate (length bytes) bytes → IsRun before.kept → MarksLie payloads before.kept before.marks → MarksLie payloads after.kept after.marks
        marked holds payloads at_place runs all = subst (MarksLie payloads after.kept) (sym marks_are)
            (made_marks payloads before.kept after.kept at ask FirstTold made before.marks (inl holds) is (ap (λ (k : Kept). k.base) kept_is) (ap (λ (k : Kept). k.timeline) kept_is) all)

        lies : HoldsTexts told First → (payloads : List (List ℕ)) → LiesAt payloads old.gate (length bytes) bytes → TextsStored payloads before.notes before.kept → TextsStored payloads after.notes after.kept
        lies holds payloads at_place all =
            let where_ : Place = record { gate = old.gate; length = length bytes } in
            let whole = sound holds.texts.runs in
            put_lies before after at ask FirstTold made where_ bytes renotes.fresh (subst (λ (b : List ℕ). IsFresh before.kept.next at ask where_ b renotes.fresh) (sym bytes_are) renotes.is_fresh)
            is fit.timeline.apart ask.key kept_is sizes whole.base whole.timeline.apart whole.below whole.undone renotes.renotes payloads at_place (inl holds) holds.texts.revs holds.texts.back all

-- ---- a journal that was read

module _ {D : Type 0} (told : D → DiskTold) where
  -- its desk before texts were read, by what became of it
  pub read_from : (held : Held) (old new : JournalTold D) → IsOnlyRead told old new → lasting held (record new { disk = old.disk }) ≡ lasting held old
  read_from held old new still = λ j. record { kept = held.kept; notes = held.notes; marks = held.marks; room = held.room; disk = old.disk; gate = still.gate j; closed = still.closed j }

  -- a trial
  pub cycle_tried : (held : Held) (journal : JournalTold D) (at : ℕ) (ask : CycleAsk) (made : Rewound) (report : Report) → IsCycled held.kept at ask (ToldOr (HoldsHeld (told journal.disk) held) (cycle_reads held.kept at ask)) made → report ≡ made.report
      → Tries held.kept at ask (HoldsTexts told (lasting held journal)) report
  cycle_tried held journal at ask made report is report_is =
      let some = cycle_reads held.kept at ask in
      let redone = cycled_redoes held.kept at ask (ToldOr (HoldsHeld (told journal.disk) held) some) made is in
      (redone.0, redone.1, λ h. report_is ∙ (redone.2 (held_or told held journal (some ≡ false) h)).report)
