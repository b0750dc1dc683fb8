-- What a withdrawal leaves, and what a cycle leaves to be withdrawn.
use Rattle.std.proofs.Common.{◌≡◌, ℕ, ◌+◌, ◌<◌, ◌≤◌, true, false, cond, arith, refl, subst, List, ◌++◌, drop, length, map, take, Option, Some, None}
use Rattle.std.specs.List.{AllByRecursion}
use Rattle.verb_core.specs.declared.item.Item.{Item}
use Rattle.verb_core.specs.declared.mailbox.BoxId.{BoxId}
use Rattle.verb_core.specs.Items.{IsTimeline}
use Rattle.verb_core.specs.Step.{run}
use Rattle.verb_core.specs.Store.{MailStore}
use Rattle.verb_bytes.specs.declared.journal.CycleAsk.{CycleAsk}
use Rattle.paradox.specs.Letters.{notices}
use Rattle.stored_items.proofs.Heard.{all_heard_themselves}
use Rattle.withdraw.specs.declared.undone.UndoneBehind.{UndoneBehind}
use Rattle.withdraw.specs.Coming.{TextsComeBack}
use Rattle.withdraw.specs.Unediting.{as_shown, unedited_behind}
use Rattle.withdraw.proofs.Back.{below_back, of_numbers, revs_back, timeline_back}
use Rattle.store_kept.specs.Bases.{HasBase, IsNew}
use Rattle.store_kept.specs.Coming.{Comes, HasUndone, HasUndoneTexts}
use Rattle.store_kept.specs.Kept.{Kept, Origin, origin_of}
use Rattle.repair_desk.specs.Repairs.{are_known, position}
use Rattle.repair_desk.proofs.Everywhere.{joined, rest_of, taken, weaker}
use Rattle.repair_desk.proofs.Points.{within}
use Rattle.cycle_rules.specs.Asking.{Due, NoNumbers, NoPoint, Repeats, Rewinds, after_cycle, due_anew, due_at}
use Rattle.cycle_rules.specs.Cycles.{broken_at, compared_at, cycled_at, leaves_numbers, repaired_items}
use Rattle.cycle_rules.specs.Repairing.{Cycled, Repair, leaves_numbers_for, reworked}
use Rattle.cycle_rules.specs.Withdrawals.{restored_items, unedit_of, withdrawn_at}
use Rattle.cycle_rules.proofs.Coming.{can_come_back, texts_come_back}
use Rattle.mail_cycle.specs.Comparing.{reworked_from}
use Rattle.mail_cycle.specs.Leaving.{GoesOn, GoesOnAt}
use Rattle.mail_cycle.specs.Tasks.{GoesWith}
use Rattle.mail_cycle.proofs.Left.{left_from, left_from_revs, left_rises, left_timeline}
use Rattle.mail_cycle.proofs.Made.{reached_alike, reworked_alike}

-- ---- any repair, from the base on

module _ (s : Kept) (at : ℕ) (repair : Repair) (le : repair.place ≤ length s.timeline) where
  is_repair : reworked_from s at repair s.base 0 repair.items ≡ reworked s at repair
  is_repair = reworked_alike s at repair s.base 0 repair.items (omega arith) le refl refl

  pub whole_goes_on : GoesWith s repair → AllByRecursion (λ (r : BoxId × ℕ). r.1 < s.next) s.stamps → leaves_numbers_for s repair.acts ≡ true → GoesOn s (reworked s at repair)
  whole_goes_on goes fresh left =
      subst (λ (due : Cycled). GoesOnAt s (run s.base (reworked s at repair).timeline) due) is_repair
      (subst (λ (after : MailStore). GoesOnAt s after (reworked_from s at repair s.base 0 repair.items)) (reached_alike s at repair s.base 0 repair.items (omega arith) le refl refl)
      (left_from s at repair s.base 0 repair.items goes fresh (omega arith) (all_heard_themselves repair.items) left))

  pub whole_revs : AllByRecursion (λ (i : Item). i.rev ≤ s.next) repair.items → AllByRecursion (λ (i : Item). i.rev < (reworked s at repair).next) (reworked s at repair).timeline
  whole_revs low =
      subst (λ (due : Cycled). AllByRecursion (λ (i : Item). i.rev < due.next) due.timeline) is_repair
      (left_from_revs s at repair s.base 0 repair.items low (all_heard_themselves repair.items))

-- ---- a withdrawal

-- the numbers of all items of a timeline without the cycle are new, where those of the items in force are, and of those that come back
new_back : (origin : Origin) (present : List Item) (last : UndoneBehind) → AllByRecursion (λ (i : Item). IsNew origin i.number) last.later → AllByRecursion (λ (i : Item). IsNew origin i.number) present
    → AllByRecursion (λ (i : Item). IsNew origin i.number) (unedited_behind present last)
new_back origin present last later all =
    let behind = map (as_shown (drop last.position present)) last.later in
    joined (λ (i : Item). IsNew origin i.number) (take last.position present ++ behind) (drop last.placed present)
    (joined (λ (i : Item). IsNew origin i.number) (take last.position present) behind (taken (λ (i : Item). IsNew origin i.number) last.position present all) (of_numbers (λ n. IsNew origin n) (drop last.position present) last.later later))
    (rest_of (λ (i : Item). IsNew origin i.number) last.placed present all)

module _ (s : Kept) (last : UndoneBehind) (timeline : IsTimeline s.house s.timeline) (comes : Comes (origin_of s) s.timeline s.next last) where
  pub withdrawal_place : last.position ≤ length s.timeline
  withdrawal_place = omega (arith, comes.back.position, comes.back.placed)

  pub withdrawal_goes : AllByRecursion (λ (i : Item). i.number < s.next) s.timeline → GoesWith s (unedit_of s last)
  withdrawal_goes below = record {
    timeline = timeline_back s.house s.timeline last comes.back timeline;
    low = weaker (λ (i : Item). i.number < s.next) (λ (i : Item). i.number ≤ s.next + 0) (λ i lt. omega arith) (restored_items s last) (below_back s.house s.timeline last comes.back s.next comes.cycle below);
    base = λ base. new_back (origin_of s) s.timeline last comes.new base.new;
  }

  -- what is left can be gone on with
  pub withdrawal_goes_on : (at : ℕ) → AllByRecursion (λ (i : Item). i.number < s.next) s.timeline → AllByRecursion (λ (r : BoxId × ℕ). r.1 < s.next) s.stamps → leaves_numbers_for s 0 ≡ true
      → GoesOn s (withdrawn_at s at last)
  withdrawal_goes_on at below fresh left = whole_goes_on s at (unedit_of s last) withdrawal_place (withdrawal_goes below) fresh left

  pub withdrawal_revs : (at : ℕ) → TextsComeBack s.timeline last → AllByRecursion (λ (i : Item). i.rev < s.next) s.timeline
      → AllByRecursion (λ (i : Item). i.rev < (withdrawn_at s at last).next) (withdrawn_at s at last).timeline
  withdrawal_revs at texts below =
      whole_revs s at (unedit_of s last) withdrawal_place
      (weaker (λ (i : Item). i.rev < s.next) (λ (i : Item). i.rev ≤ s.next) (λ i lt. omega arith) (restored_items s last) (revs_back s.timeline last s.next comes.cycle texts below))

-- ---- what a cycle leaves to be withdrawn

module _ (s : Kept) (at : ℕ) (ask : CycleAsk) (timeline : IsTimeline s.house s.timeline) (below : AllByRecursion (λ (i : Item). i.number < s.next) s.timeline) where
  cycle_comes : (place : ℕ) → place ≤ length s.timeline → are_known s.house ask.inserts ≡ true → HasBase s → HasUndone (after_cycle s ask (cycled_at s at ask place))
  cycle_comes place le known base = record {
    cycle = left_rises s at ask place;
    back = can_come_back s at ask place timeline below (repaired_items s at ask place) (compared_at s at ask place) (notices s.house s.next at (broken_at s at ask place)) le
        (all_heard_themselves (repaired_items s at ask place)) (left_timeline s at ask place timeline below known);
    new = rest_of (λ (i : Item). IsNew (origin_of s) i.number) place s.timeline base.new;
  }

  cycle_texts_come : (place : ℕ) → AllByRecursion (λ (i : Item). i.rev < s.next) s.timeline → HasUndoneTexts (after_cycle s ask (cycled_at s at ask place))
  cycle_texts_come place revs = texts_come_back s at ask place timeline below (compared_at s at ask place) (notices s.house s.next at (broken_at s at ask place)) revs

  abbrev ComesBy : Due → Type 0
  ComesBy (Repeats report) = Unit {0}
  ComesBy NoPoint = Unit {0}
  ComesBy NoNumbers = Unit {0}
  ComesBy (Rewinds due) = HasUndone (after_cycle s ask due)

  abbrev TextsBy : Due → Type 0
  TextsBy (Repeats report) = Unit {0}
  TextsBy NoPoint = Unit {0}
  TextsBy NoNumbers = Unit {0}
  TextsBy (Rewinds due) = HasUndoneTexts (after_cycle s ask due)

  -- it can come back
  pub due_comes : (due : Cycled) → are_known s.house ask.inserts ≡ true → HasBase s → due_anew s at ask ≡ Rewinds due → HasUndone (after_cycle s ask due)
  due_comes due known base is = subst ComesBy is (by_place (position s.timeline ask.point) refl)
    where
      by_place : (o : Option ℕ) → position s.timeline ask.point ≡ o → ComesBy (due_at s at ask o)
      by_place None there = tt
      by_place (Some place) there =
          elim (leaves_numbers s ask) as (λ b. ComesBy (cond b (Rewinds (cycled_at s at ask place)) NoNumbers)) [ true ↦ cycle_comes place (within s.timeline ask.point place there) known base | false ↦ tt ]

  -- and so can its texts
  pub due_texts_come : (due : Cycled) → AllByRecursion (λ (i : Item). i.rev < s.next) s.timeline → due_anew s at ask ≡ Rewinds due → HasUndoneTexts (after_cycle s ask due)
  due_texts_come due revs is = subst TextsBy is (by_place (position s.timeline ask.point))
    where
      by_place : (o : Option ℕ) → TextsBy (due_at s at ask o)
      by_place None = tt
      by_place (Some place) = elim (leaves_numbers s ask) as (λ b. TextsBy (cond b (Rewinds (cycled_at s at ask place)) NoNumbers)) [ true ↦ cycle_texts_come place revs | false ↦ tt ]
