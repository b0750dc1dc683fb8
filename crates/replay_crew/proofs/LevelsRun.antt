-- Level by level, each item worked out on the store before its level.
use Rattle.std.proofs.Common.{◌≡◌, ℕ, true, List, [], ◌∷◌, ◌++◌, map, refl, sym, ap, ap₂, subst, ◌∙◌}
use Rattle.std.specs.List.{list_all, enumerate_from}
use Rattle.std.specs.List.Sorted.{IsPermutation}
use Rattle.std.specs.Cmp.{first_so, second_so}
use Rattle.verb_core.specs.declared.conf.House.{House}
use Rattle.verb_core.specs.declared.item.Item.{Item}
use Rattle.verb_core.specs.declared.item.Shown.{Shown}
use Rattle.verb_core.specs.Store.{MailStore, IsValid}
use Rattle.verb_core.specs.Step.{run, answers}
use Rattle.verb_core.proofs.Validity.{step_with-IsValid}
use Rattle.replay_plan.specs.Placing.{levels_of}
use Rattle.replay_crew.specs.Orders.{turns, Placed, run_turns, answers_of_turns, are_apart, all_apart, AllFit, IsOrder, AreWellFormed, at_places, by_levels, touches_by_turn, levels_at, run_levels, told_by_levels}
use Rattle.replay_crew.proofs.Turning.{after, answer, fit_split, turns_fit, order_store, order_told}
use Rattle.replay_crew.proofs.OneStore.{answer_behind}
use Rattle.replay_crew.proofs.ByLevels.{EachApart, plan_apart, plan_order}

-- ---- turns that are joined

pub run_join : (s : MailStore) (ps qs : List Placed) → run_turns s (ps ++ qs) ≡ run_turns (run_turns s ps) qs
run_join s [] qs = refl
run_join s (p ∷ ps) qs = run_join (after s p) ps qs

told_join : (s : MailStore) (ps qs : List Placed) → answers_of_turns s (ps ++ qs) ≡ answers_of_turns s ps ++ answers_of_turns (run_turns s ps) qs
told_join s [] qs = refl
told_join s (p ∷ ps) qs = ap (λ r. (p.0, answer s p) ∷ r) (told_join (after s p) ps qs)

pub run_house : (s : MailStore) (ps : List Placed) → (run_turns s ps).house ≡ s.house
run_house s [] = refl
run_house s (p ∷ ps) = run_house (after s p) ps

pub run_valid : (s : MailStore) (ps : List Placed) → IsValid s → AllFit s.house ps → IsValid (run_turns s ps)
run_valid s [] valid fit = valid
run_valid s (p ∷ ps) valid fit = run_valid (after s p) ps (step_with-IsValid p.1.0 s p.1.1 valid fit.0.0) fit.1

pub fit_first : (house : House) (ps qs : List Placed) → AllFit house (ps ++ qs) → AllFit house ps
fit_first house [] qs h = tt
fit_first house (p ∷ ps) qs h = (h.0, fit_first house ps qs h.1)

pub fit_rest : (house : House) (ps qs : List Placed) → AllFit house (ps ++ qs) → AllFit house qs
fit_rest house [] qs h = h
fit_rest house (p ∷ ps) qs h = fit_rest house ps qs h.1

pub fit_order : (house : House) (order all : List Placed) → IsOrder order all → AllFit house all → AllFit house order
fit_order house [] all o h = tt
fit_order house (p ∷ ps) all o h =
    let split = fit_split house o.0 p o.1.0 (subst (AllFit house) o.1.1.0 h) in
    (split.0, fit_order house ps (o.0 ++ o.1.0) o.1.1.1.1 split.1)

-- ---- one level

same_told : (s : MailStore) (q : Placed) (ps : List Placed) → IsValid s → AllFit s.house (q ∷ ps) → list_all (λ p. are_apart q p) ps ≡ true
    → map {B = ℕ × Shown} (λ (p : Placed). (p.0, answer (after s q) p)) ps ≡ map {B = ℕ × Shown} (λ (p : Placed). (p.0, answer s p)) ps
same_told s q [] valid fit apart = refl
same_told s q (p ∷ ps) valid fit apart =
    ap₂ (λ (x : Shown) (r : List (ℕ × Shown)). (p.0, x) ∷ r) (answer_behind s q p valid (fit.1.0, (fit.0, tt)) (first_so _ _ apart)) (same_told s q ps valid (fit.0, fit.1.1) (second_so _ _ apart))

told_level : (level : List Placed) (s : MailStore) → IsValid s → AllFit s.house level → all_apart level ≡ true → map {B = ℕ × Shown} (λ (p : Placed). (p.0, answer s p)) level ≡ answers_of_turns s level
told_level [] s valid fit apart = refl
told_level (q ∷ ps) s valid fit apart =
    ap (λ r. (q.0, answer s q) ∷ r) (sym (same_told s q ps valid fit (first_so _ _ apart)) ∙ told_level ps (after s q) (step_with-IsValid q.1.0 s q.1.1 valid fit.0.0) fit.1 (second_so _ _ apart))

-- ---- all levels

run_by : (s : MailStore) (all : List Placed) (plan : List (List ℕ)) → run_levels s (levels_at all plan) ≡ run_turns s (by_levels plan all)
run_by s all [] = refl
run_by s all (places ∷ more) = run_by (run_turns s (at_places all places)) all more ∙ sym (run_join s (at_places all places) (by_levels more all))

told_by : (s : MailStore) (all : List Placed) (plan : List (List ℕ)) → IsValid s → AllFit s.house (by_levels plan all) → EachApart (levels_at all plan) → told_by_levels s (levels_at all plan) ≡ answers_of_turns s (by_levels plan all)
told_by s all [] valid fit apart = refl
told_by s all (places ∷ more) valid fit apart =
    let level : List Placed = at_places all places in
    let first : AllFit s.house level = fit_first s.house level (by_levels more all) fit in
    ap₂ (λ (a b : List (ℕ × Shown)). a ++ b) (told_level level s valid first apart.0)
    (told_by (run_turns s level) all more (run_valid s level valid first) (subst (λ (h : House). AllFit h (by_levels more all)) (sym (run_house s level)) (fit_rest s.house level (by_levels more all) fit)) apart.1)
    ∙ sym (told_join s level (by_levels more all))

pub plan_store : (s : MailStore) (items : List Item) → IsValid s → AreWellFormed s.house items → run_levels s (levels_at (enumerate_from 0 (turns s items)) (levels_of (touches_by_turn (turns s items)))) ≡ run s items
plan_store s items valid formed =
    run_by s (enumerate_from 0 (turns s items)) (levels_of (touches_by_turn (turns s items)))
    ∙ order_store s items (by_levels (levels_of (touches_by_turn (turns s items))) (enumerate_from 0 (turns s items))) valid formed (plan_order s items)

pub plan_told : (s : MailStore) (items : List Item) → IsValid s → AreWellFormed s.house items → IsPermutation (told_by_levels s (levels_at (enumerate_from 0 (turns s items)) (levels_of (touches_by_turn (turns s items))))) (enumerate_from 0 (answers s items))
plan_told s items valid formed =
    let all : List Placed = enumerate_from 0 (turns s items) in
    let plan : List (List ℕ) = levels_of (touches_by_turn (turns s items)) in
    subst (λ (ts : List (ℕ × Shown)). IsPermutation ts (enumerate_from 0 (answers s items)))
    (sym (told_by s all plan valid (fit_order s.house (by_levels plan all) all (plan_order s items) (turns_fit 0 s items formed)) (plan_apart (turns s items))))
    (order_told s items (by_levels plan all) valid formed (plan_order s items))
