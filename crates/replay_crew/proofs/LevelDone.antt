-- One level: what its items do, worked out on the store before it, is what they do one after the other.
use Rattle.std.proofs.Common.{◌≡◌, ℕ, zero, suc, ◌+◌, ◌<◌, true, false, ◌==◌, List, [], ◌∷◌, ◌++◌, map, length, find, Some, option_map, slice_get, get_or, cond, refl, sym, ap, ap₂, subst, ◌∙◌, arith, eqb-true, eq-eqb}
use Rattle.std.specs.List.{list_all, enumerate_from, cons_option, AllByRecursion}
use Rattle.std.specs.Cmp.{first_so, second_so}
use Rattle.std.proofs.lemmas.Option.{none-some, same_Some, slice_get-map}
use Rattle.verb_core.specs.declared.conf.House.{House}
use Rattle.verb_core.specs.declared.item.Resolved.{Resolved}
use Rattle.verb_core.specs.declared.item.Shown.{Shown}
use Rattle.verb_core.specs.Items.{IsWellFormed}
use Rattle.verb_core.specs.Step.{step_with}
use Rattle.verb_core.specs.Store.{MailStore, IsValid}
use Rattle.box_store.specs.Effects.{IsAimed, IsEffect, applied}
use Rattle.replay_plan.proofs.Least.{both}
use Rattle.touch_rules.specs.Swapping.{resolved}
use Rattle.replay_crew.specs.declared.made.Made.{Made}
use Rattle.replay_crew.specs.Orders.{SoughtItem, Placed, run_turns, are_apart, all_apart, AllFit}
use Rattle.replay_crew.specs.Resolving.{turn_of}
use Rattle.replay_crew.specs.Working.{level_of, CanMake, IsMade, IsLevel, applied_each, shown_at, answers_on}
use Rattle.replay_crew.proofs.Turning.{append_assoc, after}
use Rattle.replay_crew.proofs.OneStore.{level_kept, level_names}
use Rattle.replay_crew.proofs.ByLevels.{all_mid}
use Rattle.replay_crew.proofs.LevelsRun.{run_join, run_house, run_valid}

pub length_map : {X Y : Type 0} (f : X → Y) (xs : List X) → length (map f xs) ≡ length xs
length_map f [] = refl
length_map f (x ∷ xs) = ap suc (length_map f xs)

-- ---- places

element : {X : Type 0} (xs : List X) (n : ℕ) → n < length xs → (x : X) × ((slice_get xs n ≡ Some x) × ((d : X) → get_or xs n d ≡ x))
element [] n h = absurd (omega (arith, h))
element (x ∷ xs) zero h = (x, (refl, λ d. refl))
element (x ∷ xs) (suc n) h = element xs n (omega (arith, h))

found_at : (n k m : ℕ) → m ≡ n + k → (ts : List SoughtItem) (t : SoughtItem) → slice_get ts k ≡ Some t → find (λ (p : Placed). p.0 == m) (enumerate_from n ts) ≡ Some (m, t)
found_at n k m same [] t is = absurd (none-some t is)
found_at n zero m same (u ∷ ts) t is =
    let here : n ≡ m = omega (arith, same) in
    ap (λ b. cond b (Some (n, u)) (find (λ (p : Placed). p.0 == m) (enumerate_from (n + 1) ts))) (eq-eqb n m here) ∙ ap₂ (λ (a : ℕ) (v : SoughtItem). Some (a, v)) here (same_Some u t is)
found_at n (suc k) m same (u ∷ ts) t is =
    ap (λ b. cond b (Some (n, u)) (find (λ (p : Placed). p.0 == m) (enumerate_from (n + 1) ts))) (other n m (λ here. omega (arith, same, here))) ∙ found_at (n + 1) k m (omega (arith, same)) ts t is
  where
    other : (a b : ℕ) → (a ≡ b → ⊥) → (a == b) ≡ false
    other a b h = elim (a == b) as (λ t. (a == b) ≡ t → t ≡ false) [ true ↦ λ is. absurd (h (eqb-true a b is)) | false ↦ λ _. refl ] refl

level_cons : (all : List Resolved) (n : ℕ) (places : List ℕ) (r : Resolved) → slice_get all n ≡ Some r → level_of all (n ∷ places) ≡ (n, turn_of r) ∷ level_of all places
level_cons all n places r is = ap (λ o. cons_option o (level_of all places)) (found_at 0 n n (omega arith) (map turn_of all) (turn_of r) (slice_get-map turn_of all n ∙ ap (option_map turn_of) is))

-- ---- each item of a level can be worked out

can_each : (s : MailStore) (all : List Resolved) (places : List ℕ) → AllByRecursion (λ (place : ℕ). place < length all) places → AllFit s.house (level_of all places)
    → AllByRecursion (λ (p : Placed). IsAimed (resolved p.1.0 p.1.1) s) (level_of all places) → AllByRecursion (CanMake s all) places
can_each s all [] within fit aimed = tt
can_each s all (n ∷ places) within fit aimed =
    let e = element all n within.0 in
    let is = level_cons all n places e.0 e.1.0 in
    let fit' : AllFit s.house ((n, turn_of e.0) ∷ level_of all places) = subst (AllFit s.house) is fit in
    let aimed' : AllByRecursion (λ (p : Placed). IsAimed (resolved p.1.0 p.1.1) s) ((n, turn_of e.0) ∷ level_of all places) = subst (AllByRecursion (λ (p : Placed). IsAimed (resolved p.1.0 p.1.1) s)) is aimed in (
      (within.0, λ d. subst (λ (q : Resolved). IsWellFormed s.house q.item × IsAimed q s) (sym (e.1.1 d)) (fit'.0.0, aimed'.0)),
      can_each s all places within.1 fit'.1 aimed'.1,
    )

pub level_can : (s : MailStore) (all : List Resolved) (places : List ℕ) → IsLevel s all places → AllByRecursion (CanMake s all) places
level_can s all places level = can_each s all places level.within level.fit level.aimed

-- ---- what they do, applied one after the other

pub fit_snoc : (house : House) (front : List Placed) (p : Placed) → AllFit house front → AllFit house (p ∷ []) → AllFit house (front ++ p ∷ [])
fit_snoc house [] p fit one = one
fit_snoc house (q ∷ front) p fit one = (fit.0, fit_snoc house front p fit.1 one)

pub apart_mid : (front : List Placed) (p : Placed) (back : List Placed) → all_apart (front ++ p ∷ back) ≡ true → list_all (λ q. are_apart q p) front ≡ true
apart_mid [] p back h = refl
apart_mid (q ∷ front) p back h = both _ _ (all_mid (λ x. are_apart q x) front p back (first_so _ _ h)) (apart_mid front p back (second_so _ _ h))

does_each : (all : List Resolved) (s : MailStore) (front : List Placed) (made : List Made) → IsValid s → AllByRecursion (λ (place : ℕ). place < length all) (map (λ (m : Made). m.place) made) → AllByRecursion (IsMade s all) made
    → AllFit s.house front → AllFit s.house (level_of all (map (λ (m : Made). m.place) made)) → all_apart (front ++ level_of all (map (λ (m : Made). m.place) made)) ≡ true
    → applied_each made (run_turns s front) ≡ run_turns (run_turns s front) (level_of all (map (λ (m : Made). m.place) made))
does_each all s front [] valid within is_made fit_front fit apart = refl
does_each all s front (m ∷ made) valid within is_made fit_front fit apart =
    let e = element all m.place within.0 in
    let p : Placed = (m.place, turn_of e.0) in
    let rest : List Placed = level_of all (map (λ (m : Made). m.place) made) in
    let is : level_of all (map (λ (m : Made). m.place) (m ∷ made)) ≡ p ∷ rest = level_cons all m.place (map (λ (m : Made). m.place) made) e.0 e.1.0 in
    let fit' : AllFit s.house (p ∷ rest) = subst (AllFit s.house) is fit in
    let apart' : all_apart (front ++ p ∷ rest) ≡ true = subst (λ (l : List Placed). all_apart (front ++ l) ≡ true) is apart in
    let t : MailStore = run_turns s front in
    let effect : IsEffect m.effect e.0 s = subst (λ (q : Resolved). IsEffect m.effect q s) (e.1.1 e.0) (is_made.0 e.0) in
    let one : applied m.effect t ≡ after t p =
    effect.elsewhere t (run_house s front) (run_valid s front valid fit_front) (level_kept front s p valid (fit'.0, fit_front) (apart_mid front p rest apart')) (level_names front s p valid (fit'.0, fit_front) (apart_mid front p rest apart')) in
    let later : applied_each made (run_turns s (front ++ p ∷ [])) ≡ run_turns (run_turns s (front ++ p ∷ [])) rest =
    does_each all s (front ++ p ∷ []) made valid within.1 is_made.1 (fit_snoc s.house front p fit_front (fit'.0, tt)) fit'.1 (subst (λ (l : List Placed). all_apart l ≡ true) (sym (append_assoc front (p ∷ []) rest)) apart') in
    ap (applied_each made) one
    ∙ subst (λ (u : MailStore). applied_each made u ≡ run_turns u rest) (run_join s front (p ∷ [])) later
    ∙ sym (ap (run_turns t) is)

tells_each : (all : List Resolved) (s : MailStore) (made : List Made) → AllByRecursion (λ (place : ℕ). place < length all) (map (λ (m : Made). m.place) made) → AllByRecursion (IsMade s all) made
    → map shown_at made ≡ answers_on s (level_of all (map (λ (m : Made). m.place) made))
tells_each all s [] within is_made = refl
tells_each all s (m ∷ made) within is_made =
    let e = element all m.place within.0 in
    let p : Placed = (m.place, turn_of e.0) in
    let is : level_of all (map (λ (m : Made). m.place) (m ∷ made)) ≡ p ∷ level_of all (map (λ (m : Made). m.place) made) = level_cons all m.place (map (λ (m : Made). m.place) made) e.0 e.1.0 in
    let effect : IsEffect m.effect e.0 s = subst (λ (q : Resolved). IsEffect m.effect q s) (e.1.1 e.0) (is_made.0 e.0) in
    ap₂ (λ (x : Shown) (r : List (ℕ × Shown)). (m.place, x) ∷ r) effect.shown (tells_each all s made within.1 is_made.1) ∙ sym (ap (answers_on s) is)

module _ (s : MailStore) (all : List Resolved) (places : List ℕ) (made : List Made) (valid : IsValid s) (level : IsLevel s all places) (of : map (λ (m : Made). m.place) made ≡ places) (is_made : AllByRecursion (IsMade s all) made) where
  within' : AllByRecursion (λ (place : ℕ). place < length all) (map (λ (m : Made). m.place) made)
  within' = subst (AllByRecursion (λ (place : ℕ). place < length all)) (sym of) level.within

  pub level_does : applied_each made s ≡ run_turns s (level_of all places)
  level_does =
      does_each all s [] made valid within' is_made tt (subst (λ (ns : List ℕ). AllFit s.house (level_of all ns)) (sym of) level.fit) (subst (λ (ns : List ℕ). all_apart (level_of all ns) ≡ true) (sym of) level.apart)
      ∙ ap (λ (ns : List ℕ). run_turns s (level_of all ns)) of

  pub level_tells : map shown_at made ≡ answers_on s (level_of all places)
  level_tells = tells_each all s made within' is_made ∙ ap (λ (ns : List ℕ). answers_on s (level_of all ns)) of

  pub level_many : length made ≡ length (level_of all places)
  level_many = sym (length_map shown_at made) ∙ ap length level_tells ∙ length_map (λ (p : Placed). (p.0, (step_with p.1.0 s p.1.1).1)) (level_of all places)
