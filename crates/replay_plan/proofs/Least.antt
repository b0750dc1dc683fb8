-- The least level that an item may have, and the levels of items in order.
use Rattle.std.proofs.Common.{◌≡◌, ℕ, zero, suc, ◌+◌, ◌<◌, ◌≤◌, max, min, Bool, true, false, not, ◌&&◌, ◌||◌, cond, List, [], ◌∷◌, ◌++◌, map, length, zip, drop, get_or, IsTrue, refl, sym, ap, ◌∙◌, arith, ◌==◌, eqb-true, eq-eqb, true≢false, length-append}
use Rattle.std.proofs.Math.Seq.{drop-cons}
use Rattle.std.proofs.lemmas.Bool.{lt-ltb, le-leb}
use Rattle.std.proofs.lemmas.List.{append_assoc}
use Rattle.std.proofs.lemmas.Slice.Zip.{length-zip}
use Rattle.touch_rules.specs.declared.touched.Touch.{Touch}
use Rattle.touch_rules.specs.Commuting.{are_independent, commute}
use Rattle.replay_plan.specs.Placing.{Placed, may_have, least_from, level_behind, levels_behind, levels_by_item, highest}
use Rattle.replay_plan.specs.Gathering.{rise_by_one}
use Rattle.replay_plan.proofs.Gathered.{unequal, highest_is_max}

pub both : (a b : Bool) → a ≡ true → b ≡ true → (a && b) ≡ true
both true b h k = k
both false b h k = h

or_true : (a : Bool) → (a || true) ≡ true
or_true true = refl
or_true false = refl

-- ---- the least number that passes

module _ (passes : ℕ → Bool) where
  pub least_low : (count low : ℕ) → low ≤ least_from passes count low
  least_low zero low = omega arith
  least_low (suc count) low = elim (passes low) as (λ b. low ≤ cond b low (least_from passes count (low + 1))) [ true ↦ omega arith | false ↦ omega (arith, least_low count (low + 1)) ]

  pub least_high : (count low : ℕ) → least_from passes count low ≤ low + count
  least_high zero low = omega arith
  least_high (suc count) low = elim (passes low) as (λ b. cond b low (least_from passes count (low + 1)) ≤ low + suc count) [ true ↦ omega arith | false ↦ omega (arith, least_high count (low + 1)) ]

  -- it is at most each that passes
  pub least_le : (count low m : ℕ) → low ≤ m → passes m ≡ true → least_from passes count low ≤ max m low
  least_le zero low m h is = omega arith
  least_le (suc count) low m h is = elim (passes low) as (λ b. passes low ≡ b → cond b low (least_from passes count (low + 1)) ≤ max m low) [
    | true ↦ λ _. omega arith
    | false ↦ λ off.
        let apart : (low ≡ m → ⊥) = λ e. true≢false (sym is ∙ ap passes (sym e) ∙ off) in
        omega (arith, h, apart, least_le count (low + 1) m (omega (arith, h, apart)) is)
  ] refl

  -- none below it passes
  pub least_first : (count low m : ℕ) → low ≤ m → m < least_from passes count low → passes m ≡ false
  least_first zero low m h lt = absurd (omega (arith, h, lt))
  least_first (suc count) low m h lt = elim (passes low) as (λ b. passes low ≡ b → m < cond b low (least_from passes count (low + 1)) → passes m ≡ false) [
    | true ↦ λ _ less. absurd (omega (arith, h, less))
    | false ↦ λ off less. elim (low == m) as (λ b. (low == m) ≡ b → passes m ≡ false) [
      | true ↦ λ e. ap passes (sym (eqb-true low m e)) ∙ off
      | false ↦ λ e. least_first count (low + 1) m (let apart : (low ≡ m → ⊥) = λ same. true≢false (sym (eq-eqb low m same) ∙ e) in omega (arith, h, apart)) less
    ] refl
  ] refl lt

  -- it passes, where the one behind all does
  pub least_passes : (count low : ℕ) → passes (low + count) ≡ true → passes (least_from passes count low) ≡ true
  least_passes zero low is = ap passes (omega arith) ∙ is
  least_passes (suc count) low is = elim (passes low) as (λ b. passes low ≡ b → passes (cond b low (least_from passes count (low + 1))) ≡ true) [
    | true ↦ λ on. on
    | false ↦ λ _. least_passes count (low + 1) (ap passes (omega arith) ∙ is)
  ] refl

-- ---- levels in order

-- an item may have each level above all
pub above : (earlier : List Placed) (touches : List Touch) (m : ℕ) → highest (map (λ (e : Placed). e.1) earlier) < m → may_have earlier touches m ≡ true
above [] touches m h = refl
above (e ∷ earlier) touches m h =
    both _ _
    (both _ _
    (ap (λ b. commute e.0 touches || b) (lt-ltb e.1 m (omega (arith, h))) ∙ or_true (commute e.0 touches))
    (ap (λ b. are_independent e.0 touches || not b) (unequal e.1 m (λ is. absurd (omega (arith, is, h)))) ∙ or_true (are_independent e.0 touches)))
    (above earlier touches m (omega (arith, h)))

pub levels_more : (earlier : List Placed) (e : Placed) → map (λ (p : Placed). p.1) (earlier ++ e ∷ []) ≡ map (λ (p : Placed). p.1) earlier ++ e.1 ∷ []
levels_more [] e = refl
levels_more (x ∷ earlier) e = ap (λ xs. x.1 ∷ xs) (levels_more earlier e)

levels_rise : (earlier : List Placed) (all : List (List Touch)) (h : ℕ) → highest (map (λ (e : Placed). e.1) earlier) ≡ h → h ≤ length earlier → rise_by_one h (levels_behind earlier all) ≡ true
levels_rise earlier [] h top few = refl
levels_rise earlier (x ∷ all) h top few =
    let l : ℕ = level_behind earlier x in
    let low : 1 ≤ l = least_low (may_have earlier x) (length earlier) 1 in
    let up : l ≤ max (h + 1) 1 = least_le (may_have earlier x) (length earlier) 1 (h + 1) (omega arith) (above earlier x (h + 1) (omega (arith, top))) in
    both _ _ (both _ _ (le-leb 1 l low) (le-leb l (h + 1) (omega (arith, up))))
    (levels_rise (earlier ++ (x, l) ∷ []) all (max h l)
    (ap highest (levels_more earlier (x, l)) ∙ highest_is_max (map (λ (e : Placed). e.1) earlier) l ∙ ap (λ t. max t l) top)
    (let more : length (earlier ++ (x, l) ∷ []) ≡ length earlier + 1 = length-append earlier ((x, l) ∷ []) in omega (arith, up, few, more)))

-- the levels of items rise by one
pub items_rise : (all : List (List Touch)) → rise_by_one 0 (levels_by_item all) ≡ true
items_rise all = levels_rise [] all 0 refl (omega arith)

-- ---- one item more

drop_next : {A : Type 0} (xs : List A) (i : ℕ) (d : A) → i < length xs → drop i xs ≡ get_or xs i d ∷ drop (i + 1) xs
drop_next xs i d lt = let next : suc i ≡ i + 1 = omega arith in drop-cons xs i d lt ∙ ap (λ n. get_or xs i d ∷ drop n xs) next

pub zip_push : {A : Type 0} (xs : List A) (ys : List ℕ) (y i : ℕ) (d : A) → i ≡ length ys → i < length xs → zip xs (ys ++ y ∷ []) ≡ zip xs ys ++ (get_or xs i d, y) ∷ []
zip_push [] ys y i d e lt = absurd (omega (arith, lt))
zip_push (x ∷ []) [] y zero d e lt = refl
zip_push (x ∷ z ∷ xs) [] y zero d e lt = refl
zip_push (x ∷ xs) [] y (suc i) d e lt = absurd (omega (arith, e))
zip_push (x ∷ xs) (z ∷ ys) y zero d e lt = absurd (omega (arith, e))
zip_push (x ∷ xs) (z ∷ ys) y (suc i) d e lt = ap (λ ps. (x, z) ∷ ps) (zip_push xs ys y i d (omega (arith, e)) (omega (arith, lt)))

-- the levels so far and those of the items that are left, one item later
pub levels_step : (all : List (List Touch)) (levels new : List ℕ) (i level : ℕ) (d : List Touch) → i ≡ length levels → i < length all
    → level ≡ level_behind (zip all levels) (get_or all i d) → new ≡ levels ++ level ∷ []
    → new ++ levels_behind (zip all new) (drop (i + 1) all) ≡ levels ++ levels_behind (zip all levels) (drop i all)
levels_step all levels new i level d e lt is made =
    ap (λ (ns : List ℕ). ns ++ levels_behind (zip all ns) (drop (i + 1) all)) made
    ∙ ap (λ (ps : List Placed). (levels ++ level ∷ []) ++ levels_behind ps (drop (i + 1) all)) (zip_push all levels level i d e lt)
    ∙ append_assoc levels (level ∷ []) (levels_behind (zip all levels ++ (get_or all i d, level) ∷ []) (drop (i + 1) all))
    ∙ ap (λ l. levels ++ l ∷ levels_behind (zip all levels ++ (get_or all i d, l) ∷ []) (drop (i + 1) all)) is
    ∙ ap (λ rest. levels ++ levels_behind (zip all levels) rest) (sym (drop_next all i d lt))

-- ---- as many levels as items

pub long_zip : (all : List (List Touch)) (levels : List ℕ) → length levels ≤ length all → length (zip all levels) ≡ length levels
long_zip all levels few = let long : length (zip all levels) ≡ min (length all) (length levels) = length-zip all levels in omega (arith, few, long)

pub rises : (levels : List ℕ) (all : List (List Touch)) → levels ≡ levels_by_item all → IsTrue (rise_by_one 0 levels)
rises levels all is = ap (rise_by_one 0) is ∙ items_rise all

pub zip_none : (all : List (List Touch)) → zip {X = ℕ} all [] ≡ []
zip_none [] = refl
zip_none (x ∷ all) = refl

pub length_levels : (earlier : List Placed) (all : List (List Touch)) → length (levels_behind earlier all) ≡ length all
length_levels earlier [] = refl
length_levels earlier (x ∷ all) = ap suc (length_levels (earlier ++ (x, level_behind earlier x) ∷ []) all)

pub as_many : (levels : List ℕ) (all : List (List Touch)) → levels ≡ levels_by_item all → length levels ≡ length all
as_many levels all is = ap length is ∙ length_levels [] all
