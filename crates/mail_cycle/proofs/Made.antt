-- What is left from a beginning: as from the first item on, where its store is the one to which the first items led.
use Rattle.std.proofs.Common.{◌≡◌, ◌∙◌, ℕ, zero, suc, ◌+◌, ◌-◌, ◌≤◌, arith, sym, ap, ap₂, subst, true, List, [], ◌∷◌, ◌++◌, take, drop, length, Result, Ok, Err, IfOk}
use Rattle.std.specs.List.{AllByRecursion}
use Rattle.std.proofs.lemmas.List.{length-drop, take-append-drop, take-append-le, take-take}
use Rattle.verb_core.specs.declared.conf.House.{House}
use Rattle.verb_core.specs.declared.item.Item.{Item}
use Rattle.verb_core.specs.declared.item.Shown.{Shown}
use Rattle.verb_core.specs.Items.{IsTimeline, IsWellFormed}
use Rattle.verb_core.specs.Step.{answers, run}
use Rattle.verb_core.specs.Store.{MailStore}
use Rattle.verb_core.specs.Texts.{BodiesTold, StaysTold}
use Rattle.verb_core.proofs.Joins.{run_house}
use Rattle.verb_bytes.specs.declared.journal.CycleAsk.{CycleAsk}
use Rattle.store_kept.specs.Kept.{Kept}
use Rattle.paradox.specs.declared.reports.Report.{Report}
use Rattle.stored_items.specs.Stored.{AllHeard}
use Rattle.stored_items.proofs.Heard.{length_alike}
use Rattle.repair_desk.specs.declared.editing.EditedBehind.{EditedBehind}
use Rattle.repair_desk.specs.Repairs.{are_known}
use Rattle.repair_desk.proofs.Everywhere.{all_formed}
use Rattle.repair_desk.proofs.Points.{front as front_stays}
use Rattle.replay_crew.specs.Hearing.{HoldsOf, StoresOf, TellsAll}
use Rattle.cycle_rules.specs.Cycles.{compared_at, front_of, kept_at, leaves_numbers, repaired_items, timeline_at, told_at}
use Rattle.cycle_rules.specs.Repairing.{Cycled, Repair, front_in, leaves_numbers_for, reworked}
use Rattle.cycle_rules.specs.Withdrawals.{restored_items}
use Rattle.withdraw.specs.declared.undone.UndoneBehind.{UndoneBehind}
use Rattle.withdraw.specs.Coming.{CanComeBack}
use Rattle.cycle_rules.specs.Judging.{shown_after}
use Rattle.mail_cycle.specs.declared.beginning.Beginning.{Beginning}
use Rattle.mail_cycle.specs.declared.cycling.AtPoint.{AtPoint}
use Rattle.mail_cycle.specs.declared.running.Replayed.{Replayed}
use Rattle.mail_cycle.specs.declared.settling.Rewound.{Rewound}
use Rattle.mail_cycle.specs.Begun.{IsBegun}
use Rattle.mail_cycle.specs.Comparing.{compared_from, compared_with, reached_from, reworked_by, reworked_from, reworked_with, timeline_by, timeline_from, timeline_with, told_by}
use Rattle.mail_cycle.specs.Leaving.{IsMade, IsMadeFrom, Leaves, LeavesAt}
use Rattle.mail_cycle.specs.Reaching.{IsAtPoint, IsReplayed, Passes}
use Rattle.mail_cycle.specs.declared.due.Work.TheVariants.{Restored}
use Rattle.mail_cycle.specs.Tasks.{Begins, IsBehind, IsTask, Task, asked_task, task_by, withdrawal_task}
use Rattle.mail_cycle.proofs.Cycled.{answers_behind, drop_more, length_shown, run_behind, shown_front}
use Rattle.mail_cycle.proofs.Left.{length_repaired}
use Rattle.mail_cycle.proofs.Parted.{alike, all_dropped, at_heard, at_same, first_of as begins_with, heard, later_of, led, many, shown}
use Rattle.mail_cycle.proofs.Told.{behind_held, behind_stored}

-- ---- a beginning

-- the first items are as they were
pub first_stay : (s : Kept) (at : ℕ) (ask : CycleAsk) (place count : ℕ) → count ≤ place → place ≤ length s.timeline → take count (repaired_items s at ask place) ≡ take count s.timeline
first_stay s at ask place count few le =
    sym (take-take count place (repaired_items s at ask place) few) ∙ ap (take count) (front_stays s.timeline ask s.next at place le) ∙ take-take count place s.timeline few

-- so the items through the point stay
pub through_stays : (s : Kept) (at : ℕ) (ask : CycleAsk) (place : ℕ) → place ≤ length s.timeline → take place (timeline_at s at ask place) ≡ take place s.timeline
through_stays s at ask place le =
    let items = repaired_items s at ask place in
    let now = compared_at s at ask place in
    let long : place ≤ length (kept_at s at ask place) = omega (arith, length_shown (front_of ask place) items now, length_repaired s at ask place le) in
    take-append-le place (kept_at s at ask place) (told_at s at ask place) long ∙ shown_front place (front_of ask place) items now (omega arith) ∙ first_stay s at ask place place (omega arith) le

-- a list that begins as another is no shorter
as_long : {X : Type 0} (count : ℕ) (xs ys : List X) → count ≤ length ys → take count xs ≡ take count ys → count ≤ length xs
as_long zero xs ys le same = omega arith
as_long (suc n) xs [] le same = absurd (omega arith)
as_long (suc n) [] (y ∷ ys) le same = cc
as_long (suc n) (x ∷ xs) (y ∷ ys) le same = let rest = as_long n xs ys (omega arith) (ap (drop 1) same) in omega arith

-- ---- from a beginning

module _ (s : Kept) (at : ℕ) (repair : Repair) (first : MailStore) (count : ℕ) (heard : List Item) (few : count ≤ repair.place) (le : repair.place ≤ length s.timeline) (begins : take count heard ≡ take count s.timeline) where
  pub left_front : take count (timeline_from s at repair first count heard) ≡ take count s.timeline
  left_front =
      let now : List Shown = compared_from repair first count heard in
      let long : count ≤ length heard = as_long count heard s.timeline (omega arith) begins in
      let kept : count ≤ length (shown_after (front_in repair) heard now) = omega (arith, length_shown (front_in repair) heard now) in
      take-append-le count (shown_after (front_in repair) heard now) (told_by s at repair now) kept ∙ shown_front count (front_in repair) heard now (omega arith) ∙ begins

  module _ (led : first ≡ run s.base (take count s.timeline)) where
    compared_alike : compared_from repair first count heard ≡ compared_with s repair heard
    compared_alike =
        let rest = front_in repair - count in
        let all : count + rest ≡ front_in repair = omega arith in
        ap (λ (m : MailStore). drop rest (answers m (drop count heard))) (led ∙ ap (run s.base) (sym begins))
        ∙ ap (drop rest) (answers_behind count s.base heard)
        ∙ drop_more rest count (answers s.base heard)
        ∙ ap (λ (n : ℕ). drop n (answers s.base heard)) all

    timeline_alike : timeline_from s at repair first count heard ≡ timeline_with s at repair heard
    timeline_alike = ap (timeline_by s at repair heard) compared_alike

    pub reached_alike : reached_from s at repair first count heard ≡ run s.base (timeline_with s at repair heard)
    reached_alike =
        ap (λ (m : MailStore). run m (drop count (timeline_from s at repair first count heard))) (led ∙ ap (run s.base) (sym left_front))
        ∙ run_behind count s.base (timeline_from s at repair first count heard)
        ∙ ap (run s.base) timeline_alike

    pub reworked_alike : reworked_from s at repair first count heard ≡ reworked_with s at repair heard
    reworked_alike = ap₂ (λ (now : List Shown) (after : MailStore). reworked_by s at repair heard now after) compared_alike reached_alike

-- ---- what is made from a beginning

-- where what is read is what was stored, and the first items led to its store, it is the repair
pub made_exact : (s : Kept) (at : ℕ) (repair : Repair) (first : MailStore) (count : ℕ) (honest : Type 0) (made : Rewound) → count ≤ repair.place → repair.place ≤ length s.timeline → honest
    → first ≡ run s.base (take count s.timeline) → IsMadeFrom s at repair first count honest made → Leaves s (reworked s at repair) made
made_exact s at repair first count honest made few le is led by =
    let heard : List Item = by.heard in
    subst (λ (items : List Item). Leaves s (reworked_with s at repair items) made) (by.same is)
    (subst (λ (due : Cycled). LeavesAt s.timeline (run s.base (timeline_with s at repair heard)) due made) (reworked_alike s at repair first count heard few le by.front led)
    (subst (λ (after : MailStore). LeavesAt s.timeline after (reworked_from s at repair first count heard) made) (reached_alike s at repair first count heard few le by.front led) by.leaves))

-- so is it from some beginning
pub made_whole : (s : Kept) (at : ℕ) (repair : Repair) (honest : Type 0) (made : Rewound) → IsMade s at repair honest made → honest → Leaves s (reworked s at repair) made
made_whole s at repair honest made is by = made_exact s at repair is.first is.count honest made is.few is.place by (is.led by) is.made_from

-- the same where less is known of what is read, and whatever is known of what is kept beside it
pub made_weaker : (s : Kept) (at : ℕ) (repair : Repair) (first : MailStore) (count : ℕ) (honest more : Type 0) (made : Rewound) → (more → honest)
    → IsMadeFrom s at repair first count honest made → IsMadeFrom s at repair first count more made
made_weaker s at repair first count honest more made so is = record { heard = is.heard; all = is.all; same = λ m. is.same (so m); front = is.front; from = is.from; leaves = is.leaves }

-- ---- a task

-- a cycle that is due can be performed
pub cycle_task : (s : Kept) (at : ℕ) (ask : CycleAsk) (place : ℕ) → IsBegun s → at ≤ 253402300799 → are_known s.house ask.inserts ≡ true → leaves_numbers s ask ≡ true → place ≤ length s.timeline
    → IsTask (asked_task s at ask place)
cycle_task s at ask place begun moment known left le = record {
  begun = begun;
  moment = moment;
  numbers = left;
  place = le;
  front = front_stays s.timeline ask s.next at place le;
  formed = all_formed s.house s.timeline ask s.next at place begun.formed known;
  long = length_repaired s at ask place le;
}

-- so can a withdrawal, where what the last cycle left can come back
pub withdrawal_can : (s : Kept) (at : ℕ) (last : UndoneBehind) → IsBegun s → at ≤ 253402300799 → leaves_numbers_for s 0 ≡ true → CanComeBack s.house s.timeline last
    → (last.position ≤ length s.timeline → take last.position (restored_items s last) ≡ take last.position s.timeline) → IsTimeline s.house (restored_items s last) → IsTask (withdrawal_task s at last)
withdrawal_can s at last begun moment left back front timeline = record {
  begun = begun;
  moment = moment;
  numbers = left;
  place = within;
  front = front within;
  formed = timeline.formed;
  long = let there = as_long last.position (restored_items s last) s.timeline within (front within) in omega (arith, length-drop last.position (restored_items s last), there);
}
  where
    within : last.position ≤ length s.timeline
    within = omega (arith, back.position, back.placed)

-- it is made of the items behind the point alone, for those through it stay
pub withdrawal_is : (s : Kept) (at : ℕ) (last : UndoneBehind) (later : List Item) → later ≡ drop last.position (restored_items s last)
    → take last.position (restored_items s last) ≡ take last.position s.timeline → task_by s at last.position (Restored later last.point) ≡ withdrawal_task s at last
withdrawal_is s at last later is front =
    let all : take last.position s.timeline ++ later ≡ restored_items s last =
    ap₂ (λ (a b : List Item). a ++ b) (sym front) is ∙ take-append-drop last.position (restored_items s last) in
    ap₂ (λ (items later : List Item). record {
      kept = s;
      at = at;
      repair = record { place = last.position; items = items; acts = 0; before = later; drops = []; point = last.point; kept = length later; unmatched = [] };
      texts = [];
    }) all is

module _ (t : Task) (task : IsTask t) (first : Beginning) (begins : Begins t first) where
  -- the items through a beginning are as they were
  pub task_first : take first.count t.repair.items ≡ take first.count t.kept.timeline
  task_first = sym (take-take first.count t.repair.place t.repair.items begins.few) ∙ ap (take first.count) task.front ∙ take-take first.count t.repair.place t.kept.timeline begins.few

  task_long : t.repair.place ≤ length t.repair.items
  task_long = omega (arith, task.long)

  -- those behind it: through the place, and behind that
  module _ (old new : BodiesTold) (edited : EditedBehind) (behind : IsBehind t.repair first.count edited) where
    pub enough : t.repair.place - first.count ≤ length edited.items
    enough = let are : length edited.items ≡ length t.repair.items - first.count = ap (λ (l : List Item). length l) behind.items ∙ length-drop first.count t.repair.items in omega (arith, task.long, are)

    pub behind_formed : AllByRecursion (IsWellFormed first.store.store.house) edited.items
    behind_formed = subst (λ (h : House). AllByRecursion (IsWellFormed h) edited.items) (sym begins.house) (subst (AllByRecursion (IsWellFormed t.kept.house)) (sym behind.items) (all_dropped (IsWellFormed t.kept.house) first.count t.repair.items task.formed))

    pub reached : (there : AtPoint) → TellsAll old (drop first.count t.repair.items) → StaysTold old new → Passes first.store.store edited.items (t.repair.place - first.count) old.honest there
        → there.repairs.from ≡ first.count → there.repairs.kept ≡ edited.kept → there.repairs.unmatched ≡ edited.unmatched → IsAtPoint t first old new there
    reached there texts stays passes from kept unmatched = record {
      heard = at_heard first.count t.repair.place t.kept.timeline t.repair.items edited.items there.items begins.few task_first behind.items passes.heard;
      same = λ honest. at_same first.count t.repair.place t.kept.timeline t.repair.items edited.items there.items begins.few task_first behind.items (passes.same honest);
      store = passes.store;
      valid = passes.valid;
      house = house_is;
      later = later_is;
      formed = subst (λ (h : House). AllByRecursion (IsWellFormed h) there.later) (sym house_is) (subst (AllByRecursion (IsWellFormed t.kept.house)) (sym later_is) (all_dropped (IsWellFormed t.kept.house) t.repair.place t.repair.items task.formed));
      held = subst (AllByRecursion (HoldsOf new)) (sym later_is) (behind_held old new first.count t.repair.place t.repair.items begins.few stays texts);
      stored = λ honest. subst (AllByRecursion (StoresOf new)) (sym later_is) (behind_stored old new first.count t.repair.place t.repair.items begins.few stays honest texts);
      repairs = record { from = subst (λ (n : ℕ). n ≤ t.repair.place) (sym from) begins.few; kept = kept ∙ behind.kept; unmatched = unmatched ∙ behind.unmatched };
      from = from;
    }
      where
        later_is : there.later ≡ drop t.repair.place t.repair.items
        later_is = passes.later ∙ ap (drop (t.repair.place - first.count)) behind.items ∙ later_of first.count t.repair.place t.repair.items begins.few

        house_is : there.store.store.house ≡ t.kept.house
        house_is = ap (λ (s : MailStore). s.house) passes.store ∙ run_house first.store.store there.items ∙ begins.house

    pub reached_where : {E : Type 0} (r : Result AtPoint E) (place : ℕ) → place ≡ t.repair.place → TellsAll old (drop first.count t.repair.items) → StaysTold old new
        → IfOk r (Passes first.store.store edited.items (place - first.count) old.honest) → IfOk r (λ there. there.repairs.from ≡ first.count) → IfOk r (λ there. there.repairs.kept ≡ edited.kept)
        → IfOk r (λ there. there.repairs.unmatched ≡ edited.unmatched) → IfOk r (IsAtPoint t first old new)
    reached_where (Err e) place same texts stays passes from kept unmatched = tt
    reached_where (Ok there) place same texts stays passes from kept unmatched =
        reached there texts stays (subst (λ (n : ℕ). Passes first.store.store edited.items (n - first.count) old.honest there) same passes) from kept unmatched

  -- all of them, as they were replayed
  module _ (old new : BodiesTold) (there : AtPoint) (at_place : IsAtPoint t first old new there) (later : Replayed) (replayed : IsReplayed there.store.store there.later old.honest later) where
    abbrev all_items : List Item
    all_items = there.items ++ later.items

    many_there : length there.items ≡ t.repair.place - first.count
    many_there = many first.store.store there.store.store later.store.store first.count t.repair.place t.kept.timeline t.repair.items there.items later.items later.shows begins.few task.place task_long at_place.heard at_place.store replayed.store replayed.shows

    pub house_replayed : later.store.store.house ≡ t.kept.house
    house_replayed = ap (λ (s : MailStore). s.house) replayed.store ∙ run_house there.store.store later.items ∙ at_place.house

    many_later : length later.items ≡ length t.repair.items - t.repair.place
    many_later = length_alike there.later later.items replayed.heard ∙ ap (λ (l : List Item). length l) at_place.later ∙ length-drop t.repair.place t.repair.items

    pub long_replayed : there.repairs.from + (length there.items + length later.items) ≡ length t.repair.items
    long_replayed = omega (arith, at_place.from, many_there, many_later, begins.few, task.long)

    pub reworked_made : (x : Rewound) → x.from ≡ there.repairs.from
        → ((s : MailStore) → later.store.store ≡ run s all_items → later.shows ≡ drop (t.repair.place - there.repairs.from) (answers s all_items)
        → LeavesAt t.kept.timeline (reached_from t.kept t.at t.repair s there.repairs.from (take there.repairs.from t.kept.timeline ++ all_items)) (reworked_from t.kept t.at t.repair s there.repairs.from (take there.repairs.from t.kept.timeline ++ all_items)) x)
        → IsMadeFrom t.kept t.at t.repair first.store.store first.count old.honest x
    reworked_made x from made = record {
      heard = take first.count t.kept.timeline ++ all_items;
      all = heard first.store.store there.store.store later.store.store first.count t.repair.place t.kept.timeline t.repair.items there.items later.items later.shows begins.few task.place task_long at_place.heard at_place.store replayed.store replayed.shows
          (subst (λ (l : List Item). AllHeard l later.items) at_place.later replayed.heard);
      same = λ is. alike first.store.store there.store.store later.store.store first.count t.repair.place t.kept.timeline t.repair.items there.items later.items later.shows begins.few task.place task_long at_place.heard at_place.store replayed.store replayed.shows
          (at_place.same is) (replayed.same is ∙ at_place.later);
      front = begins_as;
      from = from ∙ at_place.from;
      leaves = subst (λ (n : ℕ). LeavesAt t.kept.timeline (reached_from t.kept t.at t.repair first.store.store n (take n t.kept.timeline ++ all_items)) (reworked_from t.kept t.at t.repair first.store.store n (take n t.kept.timeline ++ all_items)) x) at_place.from
          (made first.store.store led_as (subst (λ (n : ℕ). later.shows ≡ drop (t.repair.place - n) (answers first.store.store all_items)) (sym at_place.from) shown_as));
    }
      where
        begins_as : take first.count (take first.count t.kept.timeline ++ all_items) ≡ take first.count t.kept.timeline
        begins_as = begins_with first.count t.kept.timeline all_items (omega (arith, begins.few, task.place))

        led_as : later.store.store ≡ run first.store.store all_items
        led_as = led first.store.store there.store.store later.store.store first.count t.repair.place t.kept.timeline t.repair.items there.items later.items later.shows begins.few task.place task_long at_place.heard at_place.store replayed.store replayed.shows

        shown_as : later.shows ≡ drop (t.repair.place - first.count) (answers first.store.store all_items)
        shown_as = shown first.store.store there.store.store later.store.store first.count t.repair.place t.kept.timeline t.repair.items there.items later.items later.shows begins.few task.place task_long at_place.heard at_place.store replayed.store replayed.shows

    -- each item behind a beginning and each notice is one step at most
    pub many_steps : (x : Rewound) (before mid after last : ℕ) → mid + first.count ≡ before + t.repair.place → after ≡ mid + length there.later
        → IsMadeFrom t.kept t.at t.repair first.store.store first.count old.honest x → last ≤ after + length x.report.notices
        → last ≤ before + (t.repair.place - first.count) + t.repair.acts + x.report.kept + length x.report.notices
    many_steps x before mid after last steps more by ends =
        let stay : x.report.kept ≡ t.repair.kept = ap (λ (report : Report). report.kept) by.leaves.report in
        let rest : length there.later ≡ length t.repair.items - t.repair.place = ap (λ (l : List Item). length l) at_place.later ∙ length-drop t.repair.place t.repair.items in
        omega (arith, begins.few, steps, more, ends, task.long, stay, rest)
