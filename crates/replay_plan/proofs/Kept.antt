-- What is kept of the earlier items tells the level of the next.
use Rattle.std.proofs.Common.{◌≡◌, ℕ, ◌+◌, ◌<◌, ◌≤◌, max, Bool, true, false, not, ◌&&◌, ◌||◌, ◌==◌, cond, nat_lt, List, [], ◌∷◌, ◌++◌, map, length, zip, get_or, refl, sym, ap, ap₂, ◌∙◌, arith, eqb-true, true≢false}
use Rattle.std.specs.List.{list_all, list_any}
use Rattle.std.proofs.lemmas.Bool.{lt-ltb, ltb-true}
use Rattle.touch_rules.specs.declared.touched.Touch.{Touch}
use Rattle.touch_rules.specs.Commuting.{are_independent, commute}
use Rattle.replay_plan.specs.declared.slots.Part.TheVariants.{Level}
use Rattle.replay_plan.specs.declared.slots.Slot.{Slot}
use Rattle.replay_plan.specs.declared.slots.Sides.{Sides}
use Rattle.replay_plan.specs.Placing.{Placed, may_have, level_behind, highest}
use Rattle.replay_plan.specs.Slots.{Spot, level_at, parts_of, asked_by, is_at, asked_on, last_at, taken_at, at_level, TellsLevels, Knows, Leads, SameTaken, bound, is_avoided, IsUntaken}
use Rattle.replay_plan.proofs.Gathered.{highest_is_max}
use Rattle.replay_plan.proofs.Least.{above, least_low, least_high, least_le, least_passes, long_zip, zip_none, zip_push}
use Rattle.replay_plan.proofs.Pairs.{all_ext, all_and, all_or, all_swap, not_any, commute_is, are_apart, apart_same, apart_is}

-- ---- below a level

lt_max : (a b level : ℕ) → nat_lt (max a b) level ≡ (nat_lt a level && nat_lt b level)
lt_max a b level = elim (nat_lt a level) as (λ t. nat_lt a level ≡ t → nat_lt (max a b) level ≡ (t && nat_lt b level)) [
  | true ↦ λ is. elim (nat_lt b level) as (λ t. nat_lt b level ≡ t → nat_lt (max a b) level ≡ t) [
    | true ↦ λ low. let x : a < level = ltb-true a level is in let y : b < level = ltb-true b level low in lt-ltb (max a b) level (omega (arith, x, y))
    | false ↦ λ high. not_lt (max a b) level (λ lt. true≢false (sym (lt-ltb b level (omega (arith, lt))) ∙ high))
  ] refl
  | false ↦ λ high. not_lt (max a b) level (λ lt. true≢false (sym (lt-ltb a level (omega (arith, lt))) ∙ high))
] refl
  where
    not_lt : (x y : ℕ) → (x < y → ⊥) → nat_lt x y ≡ false
    not_lt x y h = elim (nat_lt x y) as (λ t. nat_lt x y ≡ t → t ≡ false) [ true ↦ λ is. absurd (h (ltb-true x y is)) | false ↦ λ _. refl ] refl

lt_highest : {X : Type 0} (f : X → ℕ) (xs : List X) (level : ℕ) → 1 ≤ level → nat_lt (highest (map f xs)) level ≡ list_all (λ x. nat_lt (f x) level) xs
lt_highest f [] level h = lt-ltb 0 level (omega (arith, h))
lt_highest f (x ∷ xs) level h = lt_max (f x) (highest (map f xs)) level ∙ ap (λ r. nat_lt (f x) level && r) (lt_highest f xs level h)

lt_last : (earlier : List Placed) (s : Spot) (level : ℕ) → 1 ≤ level → nat_lt (last_at earlier s) level ≡ list_all (λ (e : Placed). not (list_any (λ a. is_at (parts_of a) a s) e.0) || nat_lt e.1 level) earlier
lt_last [] s level h = lt-ltb 0 level (omega (arith, h))
lt_last (e ∷ earlier) s level h =
    lt_max (cond (list_any (λ a. is_at (parts_of a) a s) e.0) e.1 0) (last_at earlier s) level
    ∙ ap₂ (λ a b. a && b) (here (list_any (λ a. is_at (parts_of a) a s) e.0)) (lt_last earlier s level h)
  where
    here : (b : Bool) → nat_lt (cond b e.1 0) level ≡ (not b || nat_lt e.1 level)
    here true = refl
    here false = lt-ltb 0 level (omega (arith, h))

-- ---- the least level

-- one that has a lower level has another
not_equal : (n level : ℕ) → nat_lt n level ≡ true → (n == level) ≡ false
not_equal n level lt = elim (n == level) as (λ t. (n == level) ≡ t → t ≡ false) [
  | true ↦ λ is. let less : n < level = ltb-true n level lt in let same : n ≡ level = eqb-true n level is in absurd (omega (arith, less, same))
  | false ↦ λ _. refl
] refl

-- where an item commutes, or has a lower level, two tests of it that are one for those that commute come to the same
same_test : (c l i h e : Bool) → (c ≡ true → i ≡ h) → (l ≡ true → e ≡ false) → ((c || l) && (i || not e)) ≡ ((c || l) && (h || not e))
same_test true l i h e one lower = ap (λ t. t || not e) (one refl)
same_test false true i h e one lower = ap (λ t. i || not t) (lower refl) ∙ either i h ∙ sym (ap (λ t. h || not t) (lower refl))
  where
    either : (i h : Bool) → (i || true) ≡ (h || true)
    either true true = refl
    either true false = refl
    either false true = refl
    either false false = refl
same_test false false i h e one lower = refl

module _ (earlier : List Placed) (last next : List (Slot × Sides)) (touches : List Touch) (tells : TellsLevels earlier last) (knows : Knows earlier next) where
  -- a level is above the bound where each that does not commute has a lower one
  bound_is : (level : ℕ) → 1 ≤ level → nat_lt (bound last touches) level ≡ list_all (λ (e : Placed). commute e.0 touches || nat_lt e.1 level) earlier
  bound_is level low =
      lt_highest (λ b. highest (map (λ p. level_at last (asked_on b p)) (asked_by b))) touches level low
      ∙ all_ext (λ b. nat_lt (highest (map (λ p. level_at last (asked_on b p)) (asked_by b))) level) (λ b. list_all (λ (e : Placed). list_all (λ p. not (list_any (λ a. is_at (parts_of a) a (asked_on b p)) e.0)) (asked_by b) || nat_lt e.1 level) earlier)
      (λ b.
      lt_highest (λ p. level_at last (asked_on b p)) (asked_by b) level low
      ∙ all_ext (λ p. nat_lt (level_at last (asked_on b p)) level) (λ p. list_all (λ (e : Placed). not (list_any (λ a. is_at (parts_of a) a (asked_on b p)) e.0) || nat_lt e.1 level) earlier)
      (λ p. ap (λ n. nat_lt n level) (tells (asked_on b p)) ∙ lt_last earlier (asked_on b p) level low) (asked_by b)
      ∙ all_swap (λ p (e : Placed). not (list_any (λ a. is_at (parts_of a) a (asked_on b p)) e.0) || nat_lt e.1 level) (asked_by b) earlier
      ∙ all_ext (λ (e : Placed). list_all (λ p. not (list_any (λ a. is_at (parts_of a) a (asked_on b p)) e.0) || nat_lt e.1 level) (asked_by b)) (λ (e : Placed). list_all (λ p. not (list_any (λ a. is_at (parts_of a) a (asked_on b p)) e.0)) (asked_by b) || nat_lt e.1 level)
      (λ e. all_or (λ p. not (list_any (λ a. is_at (parts_of a) a (asked_on b p)) e.0)) (nat_lt e.1 level) (asked_by b)) earlier)
      touches
      ∙ all_swap (λ b (e : Placed). list_all (λ p. not (list_any (λ a. is_at (parts_of a) a (asked_on b p)) e.0)) (asked_by b) || nat_lt e.1 level) touches earlier
      ∙ all_ext (λ (e : Placed). list_all (λ b. list_all (λ p. not (list_any (λ a. is_at (parts_of a) a (asked_on b p)) e.0)) (asked_by b) || nat_lt e.1 level) touches) (λ (e : Placed). commute e.0 touches || nat_lt e.1 level)
      (λ e. all_or (λ b. list_all (λ p. not (list_any (λ a. is_at (parts_of a) a (asked_on b p)) e.0)) (asked_by b)) (nat_lt e.1 level) touches ∙ ap (λ c. c || nat_lt e.1 level) (commute_is e.0 touches)) earlier

  -- a level is not taken where each that is not apart has another
  free_is : (level : ℕ) → not (is_avoided next touches level) ≡ list_all (λ (e : Placed). are_apart e.0 touches || not (e.1 == level)) earlier
  free_is level =
      not_any (λ b. nat_lt 0 (level_at next (asked_on b (Level level)))) touches
      ∙ all_ext (λ b. not (nat_lt 0 (level_at next (asked_on b (Level level))))) (λ b. list_all (λ (e : Placed). not (list_any (λ a. is_at (Level e.1 ∷ []) a (asked_on b (Level level))) e.0)) earlier)
      (λ b. ap not (knows (asked_on b (Level level))) ∙ not_any (λ (e : Placed). list_any (λ a. is_at (Level e.1 ∷ []) a (asked_on b (Level level))) e.0) earlier) touches
      ∙ all_swap (λ b (e : Placed). not (list_any (λ a. is_at (Level e.1 ∷ []) a (asked_on b (Level level))) e.0)) touches earlier
      ∙ all_ext (λ (e : Placed). list_all (λ b. not (list_any (λ a. is_at (Level e.1 ∷ []) a (asked_on b (Level level))) e.0)) touches) (λ (e : Placed). are_apart e.0 touches || not (e.1 == level))
      (λ e. apart_is e.1 level e.0 touches) earlier

  may_is : (level : ℕ) → 1 ≤ level → may_have earlier touches level ≡ (nat_lt (bound last touches) level && not (is_avoided next touches level))
  may_is level low =
      all_ext (λ (e : Placed). (commute e.0 touches || nat_lt e.1 level) && (are_independent e.0 touches || not (e.1 == level))) (λ (e : Placed). (commute e.0 touches || nat_lt e.1 level) && (are_apart e.0 touches || not (e.1 == level)))
      (λ e. same_test (commute e.0 touches) (nat_lt e.1 level) (are_independent e.0 touches) (are_apart e.0 touches) (e.1 == level) (λ fit. sym (apart_same e.0 touches fit)) (not_equal e.1 level)) earlier
      ∙ all_and (λ (e : Placed). commute e.0 touches || nat_lt e.1 level) (λ (e : Placed). are_apart e.0 touches || not (e.1 == level)) earlier
      ∙ sym (ap₂ (λ a b. a && b) (bound_is level low) (free_is level))

  -- none below it is one that the item may have
  not_below : (level m : ℕ) → IsUntaken next touches (bound last touches + 1) level → 1 ≤ m → m < level → may_have earlier touches m ≡ false
  not_below level m is low lt = may_is m low ∙ elim (nat_lt (bound last touches) m) as (λ t. nat_lt (bound last touches) m ≡ t → (t && not (is_avoided next touches m)) ≡ false) [
    | true ↦ λ up. let over : bound last touches < m = ltb-true (bound last touches) m up in ap not (is.first m (omega (arith, over)) lt)
    | false ↦ λ _. refl
  ] refl

  pub level_found : (level : ℕ) → highest (map (λ (e : Placed). e.1) earlier) ≤ length earlier → IsUntaken next touches (bound last touches + 1) level → level ≡ level_behind earlier touches
  level_found level few is =
      let v : ℕ = level_behind earlier touches in
      let from : bound last touches + 1 ≤ level = is.from in
      let may : may_have earlier touches level ≡ true = may_is level (omega (arith, from)) ∙ ap₂ (λ a b. a && not b) (lt-ltb (bound last touches) level (omega (arith, from))) is.free in
      let one : 1 ≤ v = least_low (may_have earlier touches) (length earlier) 1 in
      let most : v ≤ max level 1 = least_le (may_have earlier touches) (length earlier) 1 level (omega (arith, from)) may in
      let passes : may_have earlier touches v ≡ true = least_passes (may_have earlier touches) (length earlier) 1 (above earlier touches (1 + length earlier) (omega (arith, few))) in
      let not_less : (v < level → ⊥) = λ less. true≢false (sym passes ∙ not_below level v is one less) in
      omega (arith, from, most, not_less)

-- ---- one item more

pub last_more : (earlier : List Placed) (e : Placed) (s : Spot) → last_at (earlier ++ e ∷ []) s ≡ max (cond (list_any (λ a. is_at (parts_of a) a s) e.0) e.1 0) (last_at earlier s)
last_more [] e s = refl
last_more (x ∷ earlier) e s =
    let n : ℕ = cond (list_any (λ a. is_at (parts_of a) a s) x.0) x.1 0 in
    let m : ℕ = cond (list_any (λ a. is_at (parts_of a) a s) e.0) e.1 0 in
    ap (max n) (last_more earlier e s) ∙ turn n m (last_at earlier s)
  where
    turn : (a b c : ℕ) → max a (max b c) ≡ max b (max a c)
    turn a b c = omega arith

pub taken_more : (earlier : List Placed) (e : Placed) (s : Spot) → taken_at (earlier ++ e ∷ []) s ≡ (list_any (λ a. is_at (Level e.1 ∷ []) a s) e.0 || taken_at earlier s)
taken_more [] e s = refl
taken_more (x ∷ earlier) e s =
    ap (λ r. list_any (λ a. is_at (Level x.1 ∷ []) a s) x.0 || r) (taken_more earlier e s)
    ∙ turn (list_any (λ a. is_at (Level x.1 ∷ []) a s) x.0) (list_any (λ a. is_at (Level e.1 ∷ []) a s) e.0) (taken_at earlier s)
  where
    turn : (a b c : Bool) → (a || (b || c)) ≡ (b || (a || c))
    turn true true c = refl
    turn true false c = refl
    turn false b c = refl

-- ---- bounds

highest_below : {X : Type 0} (f : X → ℕ) (n : ℕ) → ((x : X) → f x ≤ n) → (xs : List X) → highest (map f xs) ≤ n
highest_below f n h [] = omega arith
highest_below f n h (x ∷ xs) = let a : f x ≤ n = h x in let b : highest (map f xs) ≤ n = highest_below f n h xs in omega (arith, a, b)

last_below : (earlier : List Placed) (s : Spot) → last_at earlier s ≤ highest (map (λ (e : Placed). e.1) earlier)
last_below [] s = omega arith
last_below (e ∷ earlier) s = elim (list_any (λ a. is_at (parts_of a) a s) e.0) as (λ t. max (cond t e.1 0) (last_at earlier s) ≤ max e.1 (highest (map (λ (p : Placed). p.1) earlier))) [
  | true ↦ let r : last_at earlier s ≤ highest (map (λ (p : Placed). p.1) earlier) = last_below earlier s in omega (arith, r)
  | false ↦ let r : last_at earlier s ≤ highest (map (λ (p : Placed). p.1) earlier) = last_below earlier s in omega (arith, r)
]

pub bound_below : (earlier : List Placed) (last : List (Slot × Sides)) (touches : List Touch) → TellsLevels earlier last → bound last touches ≤ highest (map (λ (e : Placed). e.1) earlier)
bound_below earlier last touches tells =
    highest_below (λ b. highest (map (λ p. level_at last (asked_on b p)) (asked_by b))) (highest (map (λ (e : Placed). e.1) earlier))
    (λ b. highest_below (λ p. level_at last (asked_on b p)) (highest (map (λ (e : Placed). e.1) earlier))
    (λ p. let same : level_at last (asked_on b p) ≡ last_at earlier (asked_on b p) = tells (asked_on b p) in let r : last_at earlier (asked_on b p) ≤ highest (map (λ (e : Placed). e.1) earlier) = last_below earlier (asked_on b p) in omega (arith, same, r)) (asked_by b)) touches

-- ---- all items so far

seconds : (all : List (List Touch)) (levels : List ℕ) → length levels ≤ length all → map (λ (e : Placed). e.1) (zip all levels) ≡ levels
seconds [] [] h = refl
seconds [] (l ∷ levels) h = absurd (omega (arith, h))
seconds (x ∷ []) [] h = refl
seconds (x ∷ y ∷ all) [] h = refl
seconds (x ∷ all) (l ∷ levels) h = ap (λ ls. l ∷ ls) (seconds all levels (omega (arith, h)))

no_items : (all : List (List Touch)) (levels : List ℕ) → levels ≡ [] → zip all levels ≡ []
no_items all levels none = ap (zip all) none ∙ zip_none all

pub start_tells : (all : List (List Touch)) (levels : List ℕ) (last : List (Slot × Sides)) → levels ≡ [] → ((s : Spot) → level_at last s ≡ 0) → TellsLevels (zip all levels) last
start_tells all levels last none new s = new s ∙ ap (λ (ps : List Placed). last_at ps s) (sym (no_items all levels none))

pub start_knows : (all : List (List Touch)) (levels : List ℕ) (next : List (Slot × Sides)) → levels ≡ [] → ((s : Spot) → level_at next s ≡ 0) → Knows (zip all levels) next
start_knows all levels next none new s = ap (nat_lt 0) (new s) ∙ ap (λ (ps : List Placed). taken_at ps s) (sym (no_items all levels none))

pub start_leads : (end : ℕ) (next : List (Slot × Sides)) → ((s : Spot) → level_at next s ≡ 0) → Leads end next
start_leads end next new s l h = let e : level_at next (at_level s l) ≡ 0 = new (at_level s l) in absurd (omega (arith, h, e))

module _ (all : List (List Touch)) (levels : List ℕ) (place : ℕ) (last next : List (Slot × Sides)) (touches : List Touch)
    (count : length levels ≡ place) (lt : place < length all) (few : highest levels ≤ place) (tells : TellsLevels (zip all levels) last) (knows : Knows (zip all levels) next) where
  fits : length levels ≤ length all
  fits = omega (arith, count, lt)

  few_here : highest (map (λ (e : Placed). e.1) (zip all levels)) ≤ place
  few_here = let e : highest (map (λ (p : Placed). p.1) (zip all levels)) ≡ highest levels = ap highest (seconds all levels fits) in omega (arith, e, few)

  pub bound_low : bound last touches ≤ place
  bound_low = let b : bound last touches ≤ highest (map (λ (e : Placed). e.1) (zip all levels)) = bound_below (zip all levels) last touches tells in omega (arith, b, few_here)

  pub level_is : (level : ℕ) → IsUntaken next touches (bound last touches + 1) level → level ≡ level_behind (zip all levels) touches
  level_is level is = level_found (zip all levels) last next touches tells knows level (let l : length (zip all levels) ≡ length levels = long_zip all levels fits in omega (arith, l, count, few_here)) is

  pub level_low : (level : ℕ) → IsUntaken next touches (bound last touches + 1) level → level ≤ place + 1
  level_low level is =
      let l : length (zip all levels) ≡ length levels = long_zip all levels fits in
      let high : level_behind (zip all levels) touches ≤ 1 + length (zip all levels) = least_high (may_have (zip all levels) touches) (length (zip all levels)) 1 in
      let e : level ≡ level_behind (zip all levels) touches = level_is level is in
      omega (arith, l, high, e, count)

  module _ (level : ℕ) (new : List ℕ) (d : List Touch) (is : touches ≡ get_or all place d) (made : new ≡ levels ++ level ∷ []) where
    pushed : zip all new ≡ zip all levels ++ (touches, level) ∷ []
    pushed = ap (zip all) made ∙ zip_push all levels level place d (sym count) lt ∙ ap (λ (x : List Touch). zip all levels ++ (x, level) ∷ []) (sym is)

    pub few_next : level ≤ place + 1 → highest new ≤ place + 1
    few_next low = let e : highest new ≡ max (highest levels) level = ap highest made ∙ highest_is_max levels level in omega (arith, e, few, low)

    pub tells_next : (last' : List (Slot × Sides)) → ((s : Spot) → level_at last' s ≡ max (cond (list_any (λ a. is_at (parts_of a) a s) touches) level 0) (level_at last s)) → TellsLevels (zip all new) last'
    tells_next last' raised s =
        raised s ∙ ap (max (cond (list_any (λ a. is_at (parts_of a) a s) touches) level 0)) (tells s) ∙ sym (last_more (zip all levels) (touches, level) s) ∙ ap (λ (ps : List Placed). last_at ps s) (sym pushed)

    pub knows_next : (mid next' : List (Slot × Sides)) → SameTaken next mid → ((s : Spot) → nat_lt 0 (level_at next' s) ≡ (list_any (λ a. is_at (Level level ∷ []) a s) touches || nat_lt 0 (level_at mid s))) → Knows (zip all new) next'
    knows_next mid next' same taken s =
        taken s ∙ ap (λ b. list_any (λ a. is_at (Level level ∷ []) a s) touches || b) (same s ∙ knows s) ∙ sym (taken_more (zip all levels) (touches, level) s) ∙ ap (λ (ps : List Placed). taken_at ps s) (sym pushed)
