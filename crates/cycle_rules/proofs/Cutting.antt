-- Behind a cut a cycle does what it does where nothing was cut off.
use Rattle.std.proofs.Common.{◌≡◌, ◌≢◌, ℕ, zero, suc, ◌+◌, ◌≤◌, ◌==◌, Bool, true, false, cond, arith, refl, sym, ◌∙◌, ap, subst, List, [], ◌∷◌, ◌++◌, take, drop, length, map, Option, Some, None, eqb-true, eq-eqb}
use Rattle.std.specs.List.{AllByRecursion, position_from}
use Rattle.std.proofs.lemmas.List.{append_assoc, drop-drop, length-append, length-take-le, take-append-drop}
use Rattle.std.proofs.Math.Seq.{drop-append-add, take-add}
use Rattle.undo_base.specs.declared.keys.User.{User}
use Rattle.verb_core.specs.declared.item.Item.{Item}
use Rattle.verb_core.specs.declared.item.Shown.{Shown}
use Rattle.verb_core.specs.declared.mailbox.BoxId.{BoxId}
use Rattle.verb_core.specs.Items.{NumbersApart}
use Rattle.verb_core.specs.Step.{answers, run, step}
use Rattle.verb_core.specs.Store.{MailStore}
use Rattle.verb_core.proofs.Joins.{answers_joined, run_joined}
use Rattle.verb_bytes.specs.declared.journal.CycleAsk.{CycleAsk}
use Rattle.paradox.specs.Letters.{notices}
use Rattle.paradox.specs.declared.reports.BrokenItem.{BrokenItem}
use Rattle.paradox.specs.declared.reports.Report.{Report}
use Rattle.repair_desk.specs.Renewals.{renewed}
use Rattle.repair_desk.specs.Repairs.{inserted, kept, numbers_of, position, repaired, unmatched}
use Rattle.repair_desk.proofs.Points.{within as within_place}
use Rattle.store_kept.specs.Kept.{Kept, report_of}
use Rattle.cycle_rules.specs.Asking.{Due, NoNumbers, Repeats, Rewinds, cycle_due, due_anew, due_at, due_by}
use Rattle.cycle_rules.specs.Cutting.{LeavesAlike, base_at, cut, with_point}
use Rattle.cycle_rules.specs.Cycles.{Cycled, cycled_at, leaves_numbers, repair_of}
use Rattle.cycle_rules.specs.Judging.{judged, shown_after}
use Rattle.cycle_rules.specs.Repairing.{Repair, broken_in, compared_in, front_in, kept_in, notice_items, renewed_by, report_in, stamps_in, timeline_in, told_in}
use Rattle.cycle_rules.proofs.Coming.{apart_from}

-- ---- items behind others

answers_long : (base : MailStore) (xs : List Item) → length (answers base xs) ≡ length xs
answers_long base [] = refl
answers_long base (x ∷ xs) = ap suc (answers_long (step base x).0 xs)

-- what the later ones answer
answers_behind : (base : MailStore) (xs ys : List Item) (count more : ℕ) → count ≡ length xs + more → drop count (answers base (xs ++ ys)) ≡ drop more (answers (run base xs) ys)
answers_behind base xs ys count more is =
    let long = answers_long base xs in
    let count_is : count ≡ length (answers base xs) + more = omega (arith, long, is) in
    (λ j. drop (count_is j) (answers_joined base xs ys j)) ∙ drop-append-add (answers base xs) (answers (run base xs) ys) more

-- the first ones are never compared
shown_behind : (xs ys : List Item) (count more : ℕ) (now : List Shown) → count ≡ length xs + more → shown_after count (xs ++ ys) now ≡ xs ++ shown_after more ys now
shown_behind [] ys count more now is = let same : count ≡ more = omega (arith, is) in ap (λ (n : ℕ). shown_after n ys now) same
shown_behind (x ∷ xs) ys zero more now is = absurd (omega (arith, is))
shown_behind (x ∷ xs) ys (suc count) more now is = ap (λ (t : List Item). x ∷ t) (shown_behind xs ys count more now (omega (arith, is)))

-- ---- a cycle

module _ (s : Kept) (at : ℕ) (ask : CycleAsk) (place later point : ℕ) (within : place ≤ length s.timeline) where
  abbrev front : List Item
  front = take place s.timeline

  abbrev behind : List Item
  behind = drop place s.timeline

  abbrev acts : List Item
  acts = inserted s.next at ask.inserts

  abbrev whole : Repair
  whole = repair_of s at ask (place + later)

  abbrev part : Repair
  part = repair_of (cut s place) at (with_point ask point) later

  long : length front ≡ place
  long = length-take-le place s.timeline within

  rest_is : drop (place + later) s.timeline ≡ drop later behind
  rest_is = sym (drop-drop later place s.timeline)

  items_are : whole.items ≡ front ++ part.items
  items_are =
      let first = take later behind in
      let last = map (repaired ask s.next) (kept ask (drop later behind)) in
      (λ j. take-add place later s.timeline j ++ acts ++ map (repaired ask s.next) (kept ask (rest_is j)))
      ∙ ap (λ (t : List Item). t ++ last) (append_assoc front first acts)
      ∙ append_assoc front (first ++ acts) last

  count_is : front_in whole ≡ length front + front_in part
  count_is = omega (arith, long)

  compared_are : compared_in s whole ≡ compared_in (cut s place) part
  compared_are = ap (λ (t : List Item). drop (front_in whole) (answers s.base t)) items_are ∙ answers_behind s.base front part.items (front_in whole) (front_in part) count_is

  broken_are : broken_in s whole ≡ broken_in (cut s place) part
  broken_are = λ j. judged ask.drops (rest_is j) (compared_are j)

  told_are : told_in s at whole ≡ told_in (cut s place) at part
  told_are = ap (λ (b : List BrokenItem). notice_items (s.next + length ask.inserts) at (notices s.house s.next at b)) broken_are

  kept_are : kept_in s whole ≡ front ++ kept_in (cut s place) part
  kept_are = (λ j. shown_after (front_in whole) (items_are j) (compared_are j)) ∙ shown_behind front part.items (front_in whole) (front_in part) (compared_in (cut s place) part) count_is

  timeline_are : timeline_in s at whole ≡ front ++ timeline_in (cut s place) at part
  timeline_are = (λ j. kept_are j ++ told_are j) ∙ append_assoc front (kept_in (cut s place) part) (told_in (cut s place) at part)

  store_is : run (base_at s place) (timeline_in (cut s place) at part) ≡ run s.base (timeline_in s at whole)
  store_is = sym (ap (run s.base) timeline_are ∙ run_joined s.base front (timeline_in (cut s place) at part))

  stamps_are : stamps_in (cut s place) at part ≡ stamps_in s at whole
  stamps_are = ap (λ (after : MailStore). renewed s.store.boxes after.boxes s.stamps s.next) store_is

  told_long : length (told_in (cut s place) at part) ≡ length (told_in s at whole)
  told_long = sym (ap (λ (t : List Item). length t) told_are)

  report_is : report_in (cut s place) at part ≡ record (report_in s at whole) { point = point }
  report_is = λ j. record {
    cycle = s.next;
    point = point;
    kept = length (kept ask (sym rest_is j));
    broken = sym broken_are j;
    notices = numbers_of (sym told_are j);
    renewed = renewed_by s.next (stamps_are j);
    unmatched = unmatched ask (sym rest_is j);
  }

  pub cycled_alike : LeavesAlike s place (cycled_at s at ask (place + later)) (cycled_at (cut s place) at (with_point ask point) later)
  cycled_alike = record {
    place_is = refl;
    timeline = timeline_are;
    store = store_is;
    placed = ap (λ (t : List Item). length t) items_are ∙ length-append front part.items ∙ ap (λ (n : ℕ). n + length part.items) long;
    stamps = stamps_are;
    next = ap (λ (n : ℕ). s.next + 1 + length ask.inserts + n) told_long;
    entered = ap (λ (n : ℕ). length ask.inserts + n) told_long;
    report = report_is;
  }

-- ---- at the place of the cut

module _ (s : Kept) (at : ℕ) (ask : CycleAsk) (place : ℕ) (due : Cycled) (there : position s.timeline ask.point ≡ Some place) where
  abbrev here : Cycled
  here = cycled_at (cut s place) at (with_point ask 0) 0

  alike : LeavesAlike s place (cycled_at s at ask place) here
  alike =
      let same : place + 0 ≡ place = omega arith in
      subst (λ (n : ℕ). LeavesAlike s place (cycled_at s at ask n) here) same (cycled_alike s at ask place 0 0 (within_place s.timeline ask.point place there))

  abbrev HasDue : Due → Type 0
  HasDue here_due = (behind : Cycled) × (here_due ≡ Rewinds behind) × LeavesAlike s place due behind

  by : (o : Option Report) (b : Bool) → due_by o (cond b (Rewinds (cycled_at s at ask place)) NoNumbers) ≡ Rewinds due → HasDue (due_by o (cond b (Rewinds here) NoNumbers))
  by (Some report) b e = cc
  by None false e = cc
  by None true e = (here, refl, (let same : cycled_at s at ask place ≡ due = cc in subst (λ (d : Cycled). LeavesAlike s place d here) same alike))

  pub due_alike : cycle_due s at ask ≡ Rewinds due → HasDue (cycle_due (cut s place) at (with_point ask 0))
  due_alike e =
      by (report_of s.reports ask.key) (leaves_numbers s ask)
      (sym (ap (λ (o : Option ℕ). due_by (report_of s.reports ask.key) (due_at s at ask o)) there) ∙ e)

-- ---- later points

abbrev is_at : ℕ → Item → Bool
is_at point i = i.number == point

shifted : (point : ℕ) (t : List Item) (from more place : ℕ) → position_from (is_at point) from t ≡ Some place → position_from (is_at point) (more + from) t ≡ Some (more + place)
shifted point [] from more place e = cc
shifted point (i ∷ t) from more place e =
    elim (is_at point i) as (λ b. cond b (Some from) (position_from (is_at point) (from + 1) t) ≡ Some place → cond b (Some (more + from)) (position_from (is_at point) (more + from + 1) t) ≡ Some (more + place)) [
      | true ↦ λ is. let same : from ≡ place = cc in ap (λ (n : ℕ). Some (more + n)) same
      | false ↦ λ is.
          let next : more + (from + 1) ≡ more + from + 1 = omega arith in
          subst (λ (n : ℕ). position_from (is_at point) n t ≡ Some (more + place)) next (shifted point t (from + 1) more place is)
    ] e

skipped : (point : ℕ) (front t : List Item) (from : ℕ) → AllByRecursion (λ (i : Item). i.number ≢ point) front → position_from (is_at point) from (front ++ t) ≡ position_from (is_at point) (length front + from) t
skipped point [] t from none = let same : from ≡ 0 + from = omega arith in ap (λ (n : ℕ). position_from (is_at point) n t) same
skipped point (i ∷ front) t from none =
    elim (is_at point i) as (λ b. is_at point i ≡ b → cond b (Some from) (position_from (is_at point) (from + 1) (front ++ t)) ≡ position_from (is_at point) (suc (length front) + from) t) [
      | true ↦ λ here. absurd (none.0 (eqb-true i.number point here))
      | false ↦ λ other.
          let next : length front + (from + 1) ≡ suc (length front) + from = omega arith in
          skipped point front t (from + 1) none.1 ∙ ap (λ (n : ℕ). position_from (is_at point) n t) next
    ] refl

-- none of the first items has the number, where a later one has
none_before : (point : ℕ) (front t : List Item) (from place : ℕ) → AllByRecursion (λ (i : Item). AllByRecursion (λ (j : Item). j.number ≢ i.number) front) t → position_from (is_at point) from t ≡ Some place
    → AllByRecursion (λ (j : Item). j.number ≢ point) front
none_before point front [] from place apart e = cc
none_before point front (i ∷ t) from place apart e =
    elim (is_at point i) as (λ b. is_at point i ≡ b → cond b (Some from) (position_from (is_at point) (from + 1) t) ≡ Some place → AllByRecursion (λ (j : Item). j.number ≢ point) front) [
      | true ↦ λ here is. subst (λ (n : ℕ). AllByRecursion (λ (j : Item). j.number ≢ n) front) (eqb-true i.number point here) apart.0
      | false ↦ λ other is. none_before point front t (from + 1) place apart.1 is
    ] refl e

pub points_alike : (s : Kept) (place point later : ℕ) → NumbersApart s.timeline → place ≤ length s.timeline → point ≢ 0 → position (drop place s.timeline) point ≡ Some later → position s.timeline point ≡ Some (place + later)
points_alike s place point later apart within some e = by (point == 0) refl e
  where
    front : List Item
    front = take place s.timeline

    behind : List Item
    behind = drop place s.timeline

    split : front ++ behind ≡ s.timeline
    split = take-append-drop place s.timeline

    later_is : position_from (is_at point) 1 behind ≡ Some later → position_from (is_at point) 1 s.timeline ≡ Some (place + later)
    later_is is =
        let long : length front ≡ place = length-take-le place s.timeline within in
        let none = none_before point front behind 1 later (apart_from front behind (subst NumbersApart (sym split) apart)) is in
        ap (position_from (is_at point) 1) (sym split)
        ∙ skipped point front behind 1 none
        ∙ shifted point behind 1 (length front) later is
        ∙ ap (λ (n : ℕ). Some (n + later)) long

    by : (b : Bool) → (point == 0) ≡ b → cond b (Some 0) (position_from (is_at point) 1 behind) ≡ Some later → cond b (Some 0) (position_from (is_at point) 1 s.timeline) ≡ Some (place + later)
    by true zero_is is = absurd (some (eqb-true point 0 zero_is))
    by false other is = later_is is
