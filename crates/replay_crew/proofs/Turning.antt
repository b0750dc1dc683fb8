-- An order in which only items that may be turned are turned leaves the same store and gives the same answers.
use Rattle.std.proofs.Common.{◌≡◌, ℕ, ◌+◌, Bool, true, false, not, List, [], ◌∷◌, ◌++◌, refl, sym, ap, subst, ◌∙◌}
use Rattle.std.specs.List.{list_all, enumerate_from}
use Rattle.std.specs.List.Sorted.{IsPermutation}
use Rattle.std.specs.Cmp.{first_so, second_so}
use Rattle.std.proofs.lemmas.List.Sorted.{IsPermutation-refl, IsPermutation-cons, IsPermutation-sym, IsPermutation-middle, IsPermutation-trans}
use Rattle.verb_core.specs.declared.conf.House.{House}
use Rattle.verb_core.specs.declared.item.Item.{Item}
use Rattle.verb_core.specs.declared.item.Shown.{Shown}
use Rattle.verb_core.specs.Items.{IsWellFormed}
use Rattle.verb_core.specs.Store.{MailStore, IsValid}
use Rattle.verb_core.specs.Step.{step, step_with, run, answers}
use Rattle.verb_core.proofs.Validity.{step_with-IsValid}
use Rattle.touch_rules.specs.Swapping.{CanHave, Swap}
use Rattle.touch_rules.proofs.Orders.{swap_given}
use Rattle.touch_rules.proofs.AimsKept.{can_find}
use Rattle.replay_crew.specs.Orders.{turns, Placed, run_turns, answers_of_turns, may_turn, AllFit, IsOrder, AreWellFormed}

-- ---- lists

pub append_assoc : {X : Type 0} (xs ys zs : List X) → (xs ++ ys) ++ zs ≡ xs ++ (ys ++ zs)
append_assoc [] ys zs = refl
append_assoc (x ∷ xs) ys zs = ap (λ r. x ∷ r) (append_assoc xs ys zs)

-- ---- turns that can be performed

-- a turn that is well formed in a house, with aims that its item can have
abbrev Fit : House → Placed → Type 0
Fit house p = IsWellFormed house p.1.1 × CanHave p.1.0 p.1.1

pub fit_split : (house : House) (front : List Placed) (p : Placed) (back : List Placed) → AllFit house (front ++ p ∷ back) → Fit house p × AllFit house (front ++ back)
fit_split house [] p back h = h
fit_split house (q ∷ front) p back h =
    let r : Fit house p × AllFit house (front ++ back) = fit_split house front p back h.1 in (r.0, (h.0, r.1))

abbrev pub after : MailStore → Placed → MailStore
after s p = (step_with p.1.0 s p.1.1).0

abbrev pub answer : MailStore → Placed → Shown
answer s p = (step_with p.1.0 s p.1.1).1

-- ---- one turn is performed before those in front of it

two : {X : Type 0} (a b : X) (xs : List X) → IsPermutation (a ∷ b ∷ xs) (b ∷ a ∷ xs)
two a b xs = IsPermutation-middle (a ∷ []) b xs

record Same (s : MailStore) (ps qs : List Placed) : Type 0 where
  store : run_turns s ps ≡ run_turns s qs
  told_same : IsPermutation (answers_of_turns s ps) (answers_of_turns s qs)

pull : (s : MailStore) → IsValid s → (front : List Placed) (p : Placed) (back : List Placed) → AllFit s.house (front ++ p ∷ back) → list_all (λ q. may_turn q p) front ≡ true → Same s (front ++ p ∷ back) (p ∷ (front ++ back))
pull s valid [] p back fit ok = record { store = refl; told_same = IsPermutation-refl _ }
pull s valid (q ∷ front) p back fit ok =
    let fit_p : Fit s.house p × AllFit s.house (front ++ back) = fit_split s.house front p back fit.1 in
    let may : may_turn q p ≡ true = first_so _ _ ok in
    let sw : Swap q.1.0 p.1.0 s q.1.1 p.1.1 = swap_given q.1.0 p.1.0 s q.1.1 p.1.1 valid fit.0.0 fit_p.0.0 fit.0.1 fit_p.0.1 (first_so _ _ may) (not_both _ (second_so _ _ may)) in
    let rest : Same (after s q) (front ++ p ∷ back) (p ∷ (front ++ back)) = pull (after s q) (step_with-IsValid q.1.0 s q.1.1 valid fit.0.0) front p back fit.1 (second_so _ _ ok) in
    record {
      store = rest.store ∙ ap (λ t. run_turns t (front ++ back)) sw.store;
      told_same =
          IsPermutation-trans _ _ _ (IsPermutation-cons (q.0, answer s q) _ _ rest.told_same)
          (subst (λ (us : List (ℕ × Shown)). IsPermutation ((q.0, answer s q) ∷ (p.0, answer (after s q) p) ∷ answers_of_turns (after (after s q) p) (front ++ back)) us)
          (turned sw.second (sym sw.first) sw.store)
          (two (q.0, answer s q) (p.0, answer (after s q) p) (answers_of_turns (after (after s q) p) (front ++ back))));
    }
  where
    not_both : (b : Bool) → not b ≡ true → b ≡ false
    not_both true h = sym h
    not_both false h = refl

    turned : {a b c d : Shown} {t u : MailStore} → a ≡ b → c ≡ d → t ≡ u
        → (p.0, a) ∷ (q.0, c) ∷ answers_of_turns t (front ++ back) ≡ (p.0, b) ∷ (q.0, d) ∷ answers_of_turns u (front ++ back)
    turned ab cd tu = λ j. (p.0, ab j) ∷ (q.0, cd j) ∷ answers_of_turns (tu j) (front ++ back)

-- ---- any order

same_order : (order all : List Placed) (s : MailStore) → IsValid s → AllFit s.house all → IsOrder order all → Same s order all
same_order [] all s valid fit none = subst (λ (ps : List Placed). Same s [] ps) (sym none) (record { store = refl; told_same = IsPermutation-refl [] })
same_order (p ∷ ps) all s valid fit o =
    let front : List Placed = o.0 in
    let back : List Placed = o.1.0 in
    let fit' : AllFit s.house (front ++ p ∷ back) = subst (AllFit s.house) o.1.1.0 fit in
    let split : Fit s.house p × AllFit s.house (front ++ back) = fit_split s.house front p back fit' in
    let first : Same s (front ++ p ∷ back) (p ∷ (front ++ back)) = pull s valid front p back fit' o.1.1.1.0 in
    let rest : Same (after s p) ps (front ++ back) = same_order ps (front ++ back) (after s p) (step_with-IsValid p.1.0 s p.1.1 valid split.0.0) split.1 o.1.1.1.1 in
    subst (λ (qs : List Placed). Same s (p ∷ ps) qs) (sym o.1.1.0) (record {
      store = rest.store ∙ sym first.store;
      told_same = IsPermutation-trans _ _ _ (IsPermutation-cons (p.0, answer s p) _ _ rest.told_same) (IsPermutation-sym _ _ first.told_same);
    })

-- ---- the timeline's own order

pub turns_fit : (n : ℕ) (s : MailStore) (items : List Item) → AreWellFormed s.house items → AllFit s.house (enumerate_from n (turns s items))
turns_fit n s [] h = tt
turns_fit n s (i ∷ items) h = ((h.0, can_find s i), turns_fit (n + 1) (step s i).0 items h.1)

store_in_order : (n : ℕ) (s : MailStore) (items : List Item) → run_turns s (enumerate_from n (turns s items)) ≡ run s items
store_in_order n s [] = refl
store_in_order n s (i ∷ items) = store_in_order (n + 1) (step s i).0 items

told_in_order : (n : ℕ) (s : MailStore) (items : List Item) → answers_of_turns s (enumerate_from n (turns s items)) ≡ enumerate_from n (answers s items)
told_in_order n s [] = refl
told_in_order n s (i ∷ items) = ap (λ r. (n, (step s i).1) ∷ r) (told_in_order (n + 1) (step s i).0 items)

pub order_store : (s : MailStore) (items : List Item) (order : List Placed) → IsValid s → AreWellFormed s.house items → IsOrder order (enumerate_from 0 (turns s items)) → run_turns s order ≡ run s items
order_store s items order valid formed o = (same_order order (enumerate_from 0 (turns s items)) s valid (turns_fit 0 s items formed) o).store ∙ store_in_order 0 s items

pub order_told : (s : MailStore) (items : List Item) (order : List Placed) → IsValid s → AreWellFormed s.house items → IsOrder order (enumerate_from 0 (turns s items)) → IsPermutation (answers_of_turns s order) (enumerate_from 0 (answers s items))
order_told s items order valid formed o = subst (IsPermutation (answers_of_turns s order)) (told_in_order 0 s items) (same_order order (enumerate_from 0 (turns s items)) s valid (turns_fit 0 s items formed) o).told_same
