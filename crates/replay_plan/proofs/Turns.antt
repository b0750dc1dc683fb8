-- Levels of joined lists, and what holds of an item and an earlier one of its level.
use Rattle.std.proofs.Common.{◌≡◌, ℕ, zero, suc, ◌+◌, ◌<◌, ◌≤◌, max, Bool, true, false, not, ◌&&◌, ◌||◌, ◌==◌, cond, List, [], ◌∷◌, ◌++◌, map, filter, length, zip, get_or, refl, sym, ap, ◌∙◌, arith, nat_lt, eq-eqb}
use Rattle.std.specs.List.{list_all, enumerate_from}
use Rattle.std.specs.Cmp.{first_so, second_so}
use Rattle.std.proofs.lemmas.Bool.{leb-true, lt-ltb}
use Rattle.std.proofs.lemmas.List.{append_assoc}
use Rattle.std.proofs.lemmas.Slice.Zip.{get_or-zip, seconds-zip}
use Rattle.touch_rules.specs.declared.touched.Touch.{Touch}
use Rattle.touch_rules.specs.Commuting.{are_independent, commute}
use Rattle.replay_plan.specs.Placing.{Placed, may_have, level_behind, levels_behind, levels_by_item, levels_of, places_of, run_from, highest}
use Rattle.replay_plan.specs.Gathering.{rise_by_one}
use Rattle.replay_plan.specs.Lines.{are_places}
use Rattle.replay_plan.proofs.Gathered.{places_from}
use Rattle.replay_plan.proofs.Least.{both, above, least_low, least_first, least_passes, items_rise, long_zip, length_levels}

levels_join : (earlier : List Placed) (xs ys : List (List Touch)) → levels_behind earlier (xs ++ ys) ≡ levels_behind earlier xs ++ levels_behind (earlier ++ zip xs (levels_behind earlier xs)) ys
levels_join earlier [] ys = ap (λ (ps : List Placed). levels_behind ps ys) (sym (append_none earlier))
  where
    append_none : (ps : List Placed) → ps ++ [] ≡ ps
    append_none [] = refl
    append_none (p ∷ ps) = ap (λ qs. p ∷ qs) (append_none ps)
levels_join earlier (x ∷ xs) ys =
    ap (λ ls. level_behind earlier x ∷ ls)
    (levels_join (earlier ++ (x, level_behind earlier x) ∷ []) xs ys
    ∙ ap (λ (ps : List Placed). levels_behind (earlier ++ (x, level_behind earlier x) ∷ []) xs ++ levels_behind ps ys)
    (append_assoc earlier ((x, level_behind earlier x) ∷ []) (zip xs (levels_behind (earlier ++ (x, level_behind earlier x) ∷ []) xs))))

pub levels_turn : (front : List (List Touch)) (touches : List Touch) → levels_by_item (front ++ touches ∷ []) ≡ levels_by_item front ++ level_behind (zip front (levels_by_item front)) touches ∷ []
levels_turn front touches = levels_join [] front (touches ∷ [])

-- no level is above the number of items
few_levels : (high : ℕ) (levels : List ℕ) → rise_by_one high levels ≡ true → highest levels ≤ high + length levels
few_levels high [] h = omega arith
few_levels high (l ∷ levels) h =
    let up : l ≤ high + 1 = leb-true l (high + 1) (second_so _ _ (first_so _ _ h)) in
    omega (arith, up, few_levels (max high l) levels (second_so _ _ h))

module _ (front : List (List Touch)) where
  abbrev before : List Placed
  before = zip front (levels_by_item front)

  long : length (levels_by_item front) ≡ length front
  long = length_levels [] front

  long_before : length before ≡ length front
  long_before = long_zip front (levels_by_item front) (omega (arith, long)) ∙ long

  low_levels : highest (map (λ (e : Placed). e.1) before) ≤ length before
  low_levels =
      let same : highest (map (λ (e : Placed). e.1) before) ≡ highest (levels_by_item front) = ap highest (seconds-zip front (levels_by_item front) long) in
      omega (arith, same, few_levels 0 (levels_by_item front) (items_rise front), long_before, long)

  pub level_may : (touches : List Touch) → may_have before touches (level_behind before touches) ≡ true
  level_may touches = least_passes (may_have before touches) (length before) 1 (above before touches (1 + length before) (omega (arith, low_levels)))

  pub level_first : (touches : List Touch) → 1 ≤ level_behind before touches
  level_first touches = least_low (may_have before touches) (length before) 1

  pub level_least : (touches : List Touch) (level : ℕ) → 1 ≤ level → level < level_behind before touches → may_have before touches level ≡ false
  level_least touches level low lt = least_first (may_have before touches) (length before) 1 level low lt

  all_at : (test : Placed → Bool) (ps : List Placed) (i : ℕ) (d : Placed) → list_all test ps ≡ true → i < length ps → test (get_or ps i d) ≡ true
  all_at test [] i d h lt = absurd (omega (arith, lt))
  all_at test (p ∷ ps) zero d h lt = first_so _ _ h
  all_at test (p ∷ ps) (suc i) d h lt = all_at test ps i d (second_so _ _ h) (omega (arith, lt))

  must_be : (a b : Bool) → b ≡ true → (a || not b) ≡ true → a ≡ true
  must_be true b h k = refl
  must_be false true h k = k
  must_be false false h k = h

  at_front : (xs ys : List ℕ) (i : ℕ) → i < length xs → get_or (xs ++ ys) i 0 ≡ get_or xs i 0
  at_front [] ys i lt = absurd (omega (arith, lt))
  at_front (x ∷ xs) ys zero lt = refl
  at_front (x ∷ xs) ys (suc i) lt = at_front xs ys i (omega (arith, lt))

  at_behind : (xs ys : List ℕ) (i : ℕ) → i ≡ length xs → get_or (xs ++ ys) i 0 ≡ get_or ys 0 0
  at_behind [] ys zero e = refl
  at_behind [] ys (suc i) e = absurd (omega (arith, e))
  at_behind (x ∷ xs) ys zero e = absurd (omega (arith, e))
  at_behind (x ∷ xs) ys (suc i) e = at_behind xs ys i (omega (arith, e))

  pub level_apart : (rest : List (List Touch)) (touches : List Touch) (i : ℕ) → i < length front → get_or (levels_by_item (front ++ touches ∷ rest)) i 0 ≡ get_or (levels_by_item (front ++ touches ∷ rest)) (length front) 0
      → are_independent (get_or front i []) touches ≡ true
  level_apart rest touches i lt same =
      let joined : levels_by_item (front ++ touches ∷ rest) ≡ levels_by_item front ++ levels_behind before (touches ∷ rest) = levels_join [] front (touches ∷ rest) in
      let lt' : i < length (levels_by_item front) = omega (arith, lt, long) in
      let equal : get_or (levels_by_item front) i 0 ≡ level_behind before touches =
      sym (at_front (levels_by_item front) (levels_behind before (touches ∷ rest)) i lt') ∙ ap (λ ls. get_or ls i 0) (sym joined) ∙ same
      ∙ ap (λ ls. get_or ls (length front) 0) joined ∙ at_behind (levels_by_item front) (levels_behind before (touches ∷ rest)) (length front) (sym long) in
      let entry : get_or before i ([], 0) ≡ (get_or front i [], get_or (levels_by_item front) i 0) = get_or-zip front (levels_by_item front) i ([], 0) lt lt' in
      let tested : ((commute (get_or front i []) touches || nat_lt (get_or (levels_by_item front) i 0) (level_behind before touches)) && (are_independent (get_or front i []) touches || not (get_or (levels_by_item front) i 0 == level_behind before touches))) ≡ true =
      ap (λ (e : Placed). (commute e.0 touches || nat_lt e.1 (level_behind before touches)) && (are_independent e.0 touches || not (e.1 == level_behind before touches))) (sym entry)
      ∙ all_at (λ e. (commute e.0 touches || nat_lt e.1 (level_behind before touches)) && (are_independent e.0 touches || not (e.1 == level_behind before touches))) before i ([], 0) (level_may touches) (omega (arith, lt, long_before)) in
      must_be (are_independent (get_or front i []) touches) (get_or (levels_by_item front) i 0 == level_behind before touches) (eq-eqb _ _ equal) (second_so _ _ tested)

-- ---- places

places_below : (bound n : ℕ) (levels : List ℕ) (l : ℕ) → n + length levels ≤ bound → list_all (λ p. nat_lt p bound) (places_from n levels l) ≡ true
places_below bound n [] l few = refl
places_below bound n (x ∷ levels) l few = elim (x == l) as (λ b. list_all (λ p. nat_lt p bound) (map (λ (p : ℕ × ℕ). p.0) (cond b ((n, x) ∷ filter (λ p. p.1 == l) (enumerate_from (n + 1) levels)) (filter (λ p. p.1 == l) (enumerate_from (n + 1) levels)))) ≡ true) [
  | true ↦ both _ _ (lt-ltb n bound (omega (arith, few))) (places_below bound (n + 1) levels l (omega (arith, few)))
  | false ↦ places_below bound (n + 1) levels l (omega (arith, few))
]

grouped_below : (numbers levels : List ℕ) → length levels ≤ length numbers → (count low : ℕ) → list_all (are_places numbers) (map (places_of levels) (run_from low count)) ≡ true
grouped_below numbers levels few zero low = refl
grouped_below numbers levels few (suc count) low = both _ _ (places_below (length numbers) 0 levels low (omega (arith, few))) (grouped_below numbers levels few count (low + 1))

pub places_there : (all : List (List Touch)) (numbers : List ℕ) → length numbers ≡ length all → list_all (are_places numbers) (levels_of all) ≡ true
places_there all numbers same = grouped_below numbers (levels_by_item all) (let many : length (levels_by_item all) ≡ length all = length_levels [] all in omega (arith, same, many)) (highest (levels_by_item all)) 1
