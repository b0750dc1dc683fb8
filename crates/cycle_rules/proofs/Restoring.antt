-- The store after a withdrawal.
use Rattle.std.proofs.Common.{◌≡◌, ℕ, zero, suc, ◌+◌, ◌≤◌, cond, true, false, arith, refl, sym, ◌∙◌, ap, ap₂, List, [], ◌∷◌, ◌++◌, take, drop, length, map, Some, None, is_some}
use Rattle.std.proofs.lemmas.List.{drop_at, length-append, length-take-le, take-append-drop, take-append-le, take_all}
use Rattle.verb_core.specs.declared.item.Item.{Item}
use Rattle.verb_core.specs.declared.item.Shown.{Shown}
use Rattle.verb_core.specs.Step.{run, step}
use Rattle.verb_core.specs.Store.{MailStore}
use Rattle.verb_core.proofs.Joins.{run_joined}
use Rattle.verb_bytes.specs.declared.journal.CycleAsk.{CycleAsk}
use Rattle.paradox.specs.Answers.{broken}
use Rattle.repair_desk.specs.Repairs.{inserted, kept, repaired}
use Rattle.withdraw.specs.declared.undone.UndoneBehind.{UndoneBehind}
use Rattle.withdraw.specs.Unediting.{as_shown, before_of, showing, shown_among, unedited_behind}
use Rattle.store_kept.specs.Kept.{Kept}
use Rattle.cycle_rules.specs.Asking.{after_cycle, undone_at}
use Rattle.cycle_rules.specs.Cycles.{compared_at, cycled_at, front_of, kept_at, repaired_items, told_at}
use Rattle.cycle_rules.specs.Judging.{shown_after, shown_by}
use Rattle.cycle_rules.specs.Repairing.{compared_in, kept_in, told_in}
use Rattle.cycle_rules.specs.Withdrawals.{restored_items, unedit_of, withdrawn_at}
use Rattle.cycle_rules.proofs.Coming.{length_shown}

-- ---- runs

-- what an item shows does not matter to the store
by_answer : (s : MailStore) (i : Item) (now : List Shown) → (step s (shown_by i now)).0 ≡ (step s i).0
by_answer s i [] = refl
by_answer s i (x ∷ rest) = elim (is_some (broken i x)) as (λ b. (step s (cond b (record i { shown = x }) i)).0 ≡ (step s i).0) [ true ↦ refl | false ↦ refl ]

run_shown : (base : MailStore) (front : ℕ) (t : List Item) (now : List Shown) → run base (shown_after front t now) ≡ run base t
run_shown base front [] now = refl
run_shown base zero (i ∷ t) now = run_shown (step base (shown_by i now)).0 zero t (drop 1 now) ∙ ap (λ (s : MailStore). run s t) (by_answer base i now)
run_shown base (suc front) (i ∷ t) now = run_shown (step base i).0 front t now

at_present : (s : MailStore) (present : List Item) (i : Item) → (step s (as_shown present i)).0 ≡ (step s i).0
at_present s present i = elim (shown_among present i.number) as (λ o. (step s (showing i o)).0 ≡ (step s i).0) [ None ↦ refl | Some shown ↦ refl ]

run_present : (base : MailStore) (present t : List Item) → run base (map (as_shown present) t) ≡ run base t
run_present base present [] = refl
run_present base present (i ∷ t) = run_present (step base (as_shown present i)).0 present t ∙ ap (λ (s : MailStore). run s t) (at_present base present i)

run_unedited : (base : MailStore) (present : List Item) (last : UndoneBehind) → run base (unedited_behind present last) ≡ run base (before_of present last ++ drop last.placed present)
run_unedited base present last =
    let front = take last.position present in
    let behind = drop last.position present in
    let rest = drop last.placed present in
    run_joined base (front ++ map (as_shown behind) last.later) rest
    ∙ ap (λ (s : MailStore). run s rest) (run_joined base front (map (as_shown behind) last.later) ∙ run_present (run base front) behind last.later ∙ sym (run_joined base front last.later))
    ∙ sym (run_joined base (front ++ last.later) rest)

pub store_restored : (s : Kept) (at : ℕ) (last : UndoneBehind) → run s.base (withdrawn_at s at last).timeline ≡ run s.base (before_of s.timeline last ++ drop last.placed s.timeline ++ told_in s at (unedit_of s last))
store_restored s at last =
    let told = told_in s at (unedit_of s last) in
    run_joined s.base (kept_in s (unedit_of s last)) told
    ∙ ap (λ (store : MailStore). run store told) (run_shown s.base (last.position + 0) (restored_items s last) (compared_in s (unedit_of s last)) ∙ run_unedited s.base s.timeline last)
    ∙ sym (run_joined s.base (before_of s.timeline last ++ drop last.placed s.timeline) told)

-- ---- a cycle after which nothing came

shown_front : (count front : ℕ) (t : List Item) (now : List Shown) → count ≤ front → take count (shown_after front t now) ≡ take count t
shown_front zero front t now le = refl
shown_front (suc count) front [] now le = refl
shown_front (suc count) zero (i ∷ t) now le = absurd (omega arith)
shown_front (suc count) (suc front) (i ∷ t) now le = ap (λ (xs : List Item). i ∷ xs) (shown_front count front t now (omega arith))

module _ (s : Kept) (at : ℕ) (ask : CycleAsk) (place : ℕ) (within : place ≤ length s.timeline) where
  abbrev after : Kept
  after = after_cycle s ask (cycled_at s at ask place)

  abbrev last : UndoneBehind
  last = undone_at s ask place (length (repaired_items s at ask place))

  front_again : take place after.timeline ≡ take place s.timeline
  front_again =
      let front = take place s.timeline in
      let acts = inserted s.next at ask.inserts in
      let later = map (repaired ask s.next) (kept ask (drop place s.timeline)) in
      let size : length front ≡ place = length-take-le place s.timeline within in
      let long : place ≤ length (kept_at s at ask place) =
      omega (arith, size, length_shown (front_of ask place) (repaired_items s at ask place) (compared_at s at ask place), length-append (front ++ acts) later, length-append front acts) in
      take-append-le place (kept_at s at ask place) (told_at s at ask place) long
      ∙ shown_front place (front_of ask place) (repaired_items s at ask place) (compared_at s at ask place) (omega arith)
      ∙ take-append-le place (front ++ acts) later (omega (arith, size, length-append front acts))
      ∙ take-append-le place front acts (omega (arith, size)) ∙ take_all place front (omega (arith, size))

  before_again : before_of after.timeline last ≡ s.timeline
  before_again = ap (λ (xs : List Item). xs ++ drop place s.timeline) front_again ∙ take-append-drop place s.timeline

  notices_left : drop last.placed after.timeline ≡ told_at s at ask place
  notices_left = drop_at (kept_at s at ask place) (told_at s at ask place) last.placed (length_shown (front_of ask place) (repaired_items s at ask place) (compared_at s at ask place))

  pub taken_back : (later : ℕ) → run s.base (withdrawn_at after later last).timeline ≡ run s.base (s.timeline ++ told_at s at ask place ++ told_in after later (unedit_of after last))
  taken_back later =
      store_restored after later last
      ∙ ap₂ (λ (a b : List Item). run s.base (a ++ b ++ told_in after later (unedit_of after last))) before_again notices_left
