-- A plan grows by one place at a time.
use Rattle.std.proofs.Common.{◌≡◌, ℕ, zero, suc, ◌+◌, ◌-◌, ◌<◌, ◌≤◌, max, true, false, cond, List, [], ◌∷◌, ◌++◌, map, filter, length, take, get_or, set, refl, sym, ap, ap₂, ◌∙◌, arith, ◌==◌, eqb-true, eq-eqb, true≢false}
use Rattle.std.specs.List.{enumerate_from}
use Rattle.std.specs.Cmp.{first_so, second_so}
use Rattle.std.proofs.lemmas.Bool.{leb-true}
use Rattle.std.proofs.lemmas.List.{append-nil, take_more, length-take-le}
use Rattle.replay_plan.specs.Placing.{places_of, run_from, highest, grouped}
use Rattle.replay_plan.specs.Gathering.{with_place, rise_by_one}

pub unequal : (a b : ℕ) → (a ≡ b → ⊥) → (a == b) ≡ false
unequal a b h = elim (a == b) as (λ t. (a == b) ≡ t → t ≡ false) [ true ↦ λ e. absurd (h (eqb-true a b e)) | false ↦ λ e. refl ] refl

-- the places of a level, the first place being n
abbrev pub places_from : ℕ → List ℕ → ℕ → List ℕ
places_from n levels m = map (λ (p : ℕ × ℕ). p.0) (filter (λ p. p.1 == m) (enumerate_from n levels))

-- one level more is one place more
places_more : (n : ℕ) (levels : List ℕ) (l m k : ℕ) → k ≡ n + length levels → places_from n (levels ++ l ∷ []) m ≡ places_from n levels m ++ cond (l == m) (k ∷ []) []
places_more n [] l m k e = elim (l == m) as (λ b. map (λ (p : ℕ × ℕ). p.0) (cond b ((n, l) ∷ []) []) ≡ cond b (k ∷ []) []) [ true ↦ ap (λ i. i ∷ []) (omega (arith, e)) | false ↦ refl ]
places_more n (x ∷ levels) l m k e = elim (x == m) as (λ b. map (λ (p : ℕ × ℕ). p.0) (cond b ((n, x) ∷ filter (λ p. p.1 == m) (enumerate_from (n + 1) (levels ++ l ∷ []))) (filter (λ p. p.1 == m) (enumerate_from (n + 1) (levels ++ l ∷ [])))) ≡ map (λ (p : ℕ × ℕ). p.0) (cond b ((n, x) ∷ filter (λ p. p.1 == m) (enumerate_from (n + 1) levels)) (filter (λ p. p.1 == m) (enumerate_from (n + 1) levels))) ++ cond (l == m) (k ∷ []) []) [
  | true ↦ ap (λ xs. n ∷ xs) (places_more (n + 1) levels l m k (omega (arith, e)))
  | false ↦ places_more (n + 1) levels l m k (omega (arith, e))
]

-- a level above all stands nowhere
none_above : (n : ℕ) (levels : List ℕ) (m : ℕ) → highest levels < m → places_from n levels m ≡ []
none_above n [] m h = refl
none_above n (x ∷ levels) m h =
    ap (λ b. map (λ (p : ℕ × ℕ). p.0) (cond b ((n, x) ∷ filter (λ p. p.1 == m) (enumerate_from (n + 1) levels)) (filter (λ p. p.1 == m) (enumerate_from (n + 1) levels)))) (unequal x m (λ e. absurd (omega (arith, e, h))))
    ∙ none_above (n + 1) levels m (omega (arith, h))

highest_more : (levels : List ℕ) (l : ℕ) → highest (levels ++ l ∷ []) ≡ max (highest levels) l
highest_more [] l = omega arith
highest_more (x ∷ levels) l = omega (arith, highest_more levels l)

pub highest_is_max : (levels : List ℕ) (l : ℕ) → highest (levels ++ l ∷ []) ≡ max (highest levels) l
highest_is_max = highest_more

-- lists by level, of which one has one place more
module _ (f g : ℕ → List ℕ) (l p : ℕ) (step : (m : ℕ) → g m ≡ f m ++ cond (l == m) (p ∷ []) []) where
  other : (m : ℕ) → (l ≡ m → ⊥) → g m ≡ f m
  other m apart = step m ∙ ap (λ b. f m ++ cond b (p ∷ []) []) (unequal l m apart) ∙ append-nil (f m)

  others : (count low : ℕ) → l < low → map g (run_from low count) ≡ map f (run_from low count)
  others zero low h = refl
  others (suc count) low h = ap₂ (λ (x : List ℕ) (xs : List (List ℕ)). x ∷ xs) (other low (λ e. absurd (omega (arith, e, h)))) (others count (low + 1) (omega (arith, h)))

  put_in : (count low i : ℕ) → l ≡ low + i → i < count → map g (run_from low count) ≡ with_place i p (map f (run_from low count))
  put_in zero low i e h = absurd (omega (arith, h))
  put_in (suc count) low zero e h = ap₂ (λ (x : List ℕ) (xs : List (List ℕ)). x ∷ xs) (step low ∙ ap (λ b. f low ++ cond b (p ∷ []) []) (eq-eqb l low (omega (arith, e)))) (others count (low + 1) (omega (arith, e)))
  put_in (suc count) low (suc i) e h = ap₂ (λ (x : List ℕ) (xs : List (List ℕ)). x ∷ xs) (other low (λ is. absurd (omega (arith, is, e)))) (put_in count (low + 1) i (omega (arith, e)) (omega (arith, h)))

  put_behind : (count low : ℕ) → l ≡ low + count → f l ≡ [] → map g (run_from low (suc count)) ≡ with_place count p (map f (run_from low count))
  put_behind zero low e none = ap (λ (x : List ℕ). x ∷ []) (step low ∙ ap (λ b. f low ++ cond b (p ∷ []) []) (eq-eqb l low (omega (arith, e))) ∙ ap (λ (xs : List ℕ). xs ++ p ∷ []) (ap f (omega (arith, e)) ∙ none))
  put_behind (suc count) low e none = ap₂ (λ (x : List ℕ) (xs : List (List ℕ)). x ∷ xs) (other low (λ is. absurd (omega (arith, is, e)))) (put_behind count (low + 1) (omega (arith, e)) none)

-- an item more, in a level up to the one behind the highest
pub grouped_more : (levels : List ℕ) (l i : ℕ) → l ≡ 1 + i → i ≤ highest levels → grouped (levels ++ l ∷ []) ≡ with_place i (length levels) (grouped levels)
grouped_more levels l i e h =
    let step : (m : ℕ) → places_of (levels ++ l ∷ []) m ≡ places_of levels m ++ cond (l == m) (length levels ∷ []) [] = λ m. places_more 0 levels l m (length levels) (omega arith) in
    elim (i == highest levels) as (λ b. (i == highest levels) ≡ b → grouped (levels ++ l ∷ []) ≡ with_place i (length levels) (grouped levels)) [
      | true ↦ λ is. let top : i ≡ highest levels = eqb-true i (highest levels) is in
          let high : max (highest levels) l ≡ suc (highest levels) = omega (arith, e, top) in
          ap (λ n. map (places_of (levels ++ l ∷ [])) (run_from 1 n)) (highest_more levels l ∙ high)
          ∙ put_behind (places_of levels) (places_of (levels ++ l ∷ [])) l (length levels) step (highest levels) 1 (omega (arith, e, top)) (none_above 0 levels l (omega (arith, e, top)))
          ∙ ap (λ n. with_place n (length levels) (grouped levels)) (sym top)
      | false ↦ λ isnt.
          let low : i < highest levels = elim (i == highest levels) as (λ b. (i == highest levels) ≡ b → b ≡ false → i < highest levels) [ true ↦ λ _ no_. absurd (true≢false no_) | false ↦ λ _ _. below i (highest levels) isnt h ] refl isnt in
          let high : max (highest levels) l ≡ highest levels = omega (arith, e, low) in
          ap (λ n. map (places_of (levels ++ l ∷ [])) (run_from 1 n)) (highest_more levels l ∙ high)
          ∙ put_in (places_of levels) (places_of (levels ++ l ∷ [])) l (length levels) step (highest levels) 1 i e low
    ] refl
  where
    below : (a b : ℕ) → (a == b) ≡ false → a ≤ b → a < b
    below a b off le = elim (a == b) as (λ t. (a == b) ≡ t → a < b) [ true ↦ λ is. absurd (true≢false (sym is ∙ off)) | false ↦ λ is. let apart : (a ≡ b → ⊥) = λ same. true≢false (sym (eq-eqb a b same) ∙ off) in omega (arith, apart, le) ] refl

-- how many levels a plan has
length_run : (f : ℕ → List ℕ) (count low : ℕ) → length (map f (run_from low count)) ≡ count
length_run f zero low = refl
length_run f (suc count) low = ap suc (length_run f count (low + 1))

pub length_grouped : (levels : List ℕ) → length (grouped levels) ≡ highest levels
length_grouped levels = length_run (places_of levels) (highest levels) 1

-- a level is at most one above the highest before it
pub rise_at : (high : ℕ) (levels : List ℕ) (i : ℕ) → rise_by_one high levels ≡ true → i < length levels → (1 ≤ get_or levels i 0) × (get_or levels i 0 ≤ max high (highest (take i levels)) + 1)
rise_at high [] i h lt = absurd (omega (arith, lt))
rise_at high (l ∷ levels) zero h lt = (leb-true 1 l (first_so _ _ (first_so _ _ h)), let up : l ≤ high + 1 = leb-true l (high + 1) (second_so _ _ (first_so _ _ h)) in omega (arith, up))
rise_at high (l ∷ levels) (suc i) h lt =
    let rest : (1 ≤ get_or levels i 0) × (get_or levels i 0 ≤ max (max high l) (highest (take i levels)) + 1) = rise_at (max high l) levels i (second_so _ _ h) (omega (arith, lt)) in
    (rest.0, let up : get_or levels i 0 ≤ max (max high l) (highest (take i levels)) + 1 = rest.1 in omega (arith, up))

-- a place in a list that is there, and in one behind them
pub with_place_in : (i place : ℕ) (plan : List (List ℕ)) (d : List ℕ) → i < length plan → with_place i place plan ≡ set plan i (get_or plan i d ++ place ∷ [])
with_place_in i place [] d h = absurd (omega (arith, h))
with_place_in zero place (x ∷ plan) d h = refl
with_place_in (suc i) place (x ∷ plan) d h = ap (λ xs. x ∷ xs) (with_place_in i place plan d (omega (arith, h)))

pub with_place_behind : (i place : ℕ) (plan : List (List ℕ)) → i ≡ length plan → with_place i place plan ≡ plan ++ (place ∷ []) ∷ []
with_place_behind i place [] e = nothing i
  where
    nothing : (n : ℕ) → with_place n place [] ≡ (place ∷ []) ∷ []
    nothing zero = refl
    nothing (suc n) = refl
with_place_behind zero place (x ∷ plan) e = absurd (omega (arith, e))
with_place_behind (suc i) place (x ∷ plan) e = ap (λ xs. x ∷ xs) (with_place_behind i place plan (omega (arith, e)))

-- ---- the steps of a plan that grows

module _ (levels : List ℕ) (i : ℕ) where
  pub rise_first : rise_by_one 0 levels ≡ true → i < length levels → 1 ≤ get_or levels i 0
  rise_first h lt = (rise_at 0 levels i h lt).0

  pub rise_next : (plan : List (List ℕ)) → rise_by_one 0 levels ≡ true → i < length levels → plan ≡ grouped (take i levels) → get_or levels i 0 ≤ length plan + 1
  rise_next plan h lt is =
      let up : get_or levels i 0 ≤ max 0 (highest (take i levels)) + 1 = (rise_at 0 levels i h lt).1 in
      let long : length plan ≡ highest (take i levels) = ap length is ∙ length_grouped (take i levels) in
      omega (arith, up, long)

  pub grouped_next : (plan : List (List ℕ)) → rise_by_one 0 levels ≡ true → i < length levels → plan ≡ grouped (take i levels) → with_place (get_or levels i 0 - 1) i plan ≡ grouped (take (i + 1) levels)
  grouped_next plan h lt is =
      let up : get_or levels i 0 ≤ max 0 (highest (take i levels)) + 1 = (rise_at 0 levels i h lt).1 in
      let low : 1 ≤ get_or levels i 0 = (rise_at 0 levels i h lt).0 in
      let long : i ≡ length (take i levels) = sym (length-take-le i levels (omega (arith, lt))) in
      ap₂ (λ n p. with_place (get_or levels i 0 - 1) n p) long is
      ∙ sym (grouped_more (take i levels) (get_or levels i 0) (get_or levels i 0 - 1) (omega (arith, low)) (omega (arith, up, low)))
      ∙ ap grouped (sym (take_more levels i 0 lt))
