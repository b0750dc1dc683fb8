-- The plan of items is an order in which only items that may be turned are turned.
use Rattle.std.proofs.Common.{◌≡◌, ℕ, zero, suc, ◌+◌, ◌<◌, ◌≤◌, max, Bool, true, false, not, ◌&&◌, ◌||◌, ◌==◌, cond, nat_lt, nat_le, List, [], ◌∷◌, ◌++◌, map, filter, find, length, zip, Some, refl, sym, ap, ap₂, subst, ◌∙◌, arith, true≢false, eqb-true, eq-eqb, length-append}
use Rattle.std.specs.List.{list_all, enumerate_from, cons_option}
use Rattle.std.specs.Cmp.{first_so, second_so}
use Rattle.std.proofs.lemmas.Bool.{lt-ltb, ltb-true, le-leb, leb-true}
use Rattle.verb_core.specs.declared.item.Item.{Item}
use Rattle.verb_core.specs.declared.item.Deed.{Deed}
use Rattle.verb_core.specs.declared.item.Deed.TheVariants.{Act as Acts}
use Rattle.verb_core.specs.declared.item.Act.TheVariants.{SetAlias, DropAlias, SetFilter, DropFilter}
use Rattle.verb_core.specs.Store.{MailStore}
use Rattle.touch_rules.specs.declared.touched.Touch.{Touch}
use Rattle.touch_rules.specs.Table.{touches_of}
use Rattle.touch_rules.specs.Commuting.{commute, are_independent}
use Rattle.touch_rules.specs.Swapping.{sets_conf, resolved}
use Rattle.replay_plan.specs.Placing.{Placed as WithLevel, may_have, level_behind, levels_behind, levels_by_item, levels_of, places_of, run_from, highest, least_from}
use Rattle.replay_plan.proofs.Gathered.{places_from, highest_is_max}
use Rattle.replay_plan.proofs.Least.{both, above, least_low, least_high, least_passes, levels_more, length_levels}
use Rattle.replay_crew.specs.Orders.{SoughtItem, turns, Placed, may_turn, are_apart, all_apart, IsOrder, at_places, by_levels, levels_at, touches_by_turn}
use Rattle.replay_crew.proofs.Turning.{append_assoc}

-- ---- lists

append_none : {X : Type 0} (xs : List X) → xs ++ [] ≡ xs
append_none [] = refl
append_none (x ∷ xs) = ap (λ r. x ∷ r) (append_none xs)

pub map_append : {X Y : Type 0} (f : X → Y) (xs ys : List X) → map f (xs ++ ys) ≡ map f xs ++ map f ys
map_append f [] ys = refl
map_append f (x ∷ xs) ys = ap (λ r. f x ∷ r) (map_append f xs ys)

pub all_mid : {X : Type 0} (f : X → Bool) (front : List X) (x : X) (back : List X) → list_all f (front ++ x ∷ back) ≡ true → f x ≡ true
all_mid f [] x back h = first_so _ _ h
all_mid f (y ∷ front) x back h = all_mid f front x back (second_so _ _ h)

all_without : {X : Type 0} (f : X → Bool) (front : List X) (x : X) (back : List X) → list_all f (front ++ x ∷ back) ≡ true → list_all f (front ++ back) ≡ true
all_without f [] x back h = second_so _ _ h
all_without f (y ∷ front) x back h = both _ _ (first_so _ _ h) (all_without f front x back (second_so _ _ h))

all_join : {X : Type 0} (f : X → Bool) (front back : List X) → list_all f front ≡ true → list_all f back ≡ true → list_all f (front ++ back) ≡ true
all_join f [] back h k = k
all_join f (x ∷ front) back h k = both _ _ (first_so _ _ h) (all_join f front back (second_so _ _ h) k)

all_filter : {X : Type 0} (f g : X → Bool) (xs : List X) → list_all f xs ≡ true → list_all f (filter g xs) ≡ true
all_filter f g [] h = refl
all_filter f g (x ∷ xs) h = elim (g x) as (λ b. list_all f (cond b (x ∷ filter g xs) (filter g xs)) ≡ true) [
  | true ↦ both _ _ (first_so _ _ h) (all_filter f g xs (second_so _ _ h))
  | false ↦ all_filter f g xs (second_so _ _ h)
]

-- ---- turns with their levels

abbrev Leveled : Type 0
Leveled = Placed × ℕ

-- each of which a later one has a lower level may be turned with it
abbrev fine : List Leveled → Bool
fine [] = true
fine (x ∷ xs) = list_all (λ (y : Leveled). not (nat_lt y.1 x.1) || may_turn x.0 y.0) xs && fine xs

fine_filter : (g : Leveled → Bool) (xs : List Leveled) → fine xs ≡ true → fine (filter g xs) ≡ true
fine_filter g [] h = refl
fine_filter g (x ∷ xs) h = elim (g x) as (λ b. fine (cond b (x ∷ filter g xs) (filter g xs)) ≡ true) [
  | true ↦ both _ _ (all_filter (λ (y : Leveled). not (nat_lt y.1 x.1) || may_turn x.0 y.0) g xs (first_so _ _ h)) (fine_filter g xs (second_so _ _ h))
  | false ↦ fine_filter g xs (second_so _ _ h)
]

fine_without : (front : List Leveled) (x : Leveled) (back : List Leveled) → fine (front ++ x ∷ back) ≡ true → fine (front ++ back) ≡ true
fine_without [] x back h = second_so _ _ h
fine_without (y ∷ front) x back h = both _ _ (all_without (λ (z : Leveled). not (nat_lt z.1 y.1) || may_turn y.0 z.0) front x back (first_so _ _ h)) (fine_without front x back (second_so _ _ h))

-- those in front that have higher levels may be turned with it
passable : (front : List Leveled) (x : Leveled) (back : List Leveled) → list_all (λ (q : Leveled). nat_lt x.1 q.1) front ≡ true → fine (front ++ x ∷ back) ≡ true → list_all (λ q. may_turn q x.0) (map (λ (q : Leveled). q.0) front) ≡ true
passable [] x back up h = refl
passable (y ∷ front) x back up h =
    both _ _ (must (nat_lt x.1 y.1) (may_turn y.0 x.0) (first_so _ _ up) (all_mid (λ (z : Leveled). not (nat_lt z.1 y.1) || may_turn y.0 z.0) front x back (first_so _ _ h)))
    (passable front x back (second_so _ _ up) (second_so _ _ h))
  where
    must : (a b : Bool) → a ≡ true → (not a || b) ≡ true → b ≡ true
    must true b h k = k
    must false b h k = absurd (true≢false (sym h))

-- the turns of one level, and then an order of the others
level_first : (low : ℕ) (o : List Placed) (front xs : List Leveled) → list_all (λ (q : Leveled). nat_lt low q.1) front ≡ true → list_all (λ (x : Leveled). nat_le low x.1) xs ≡ true → fine (front ++ xs) ≡ true
    → IsOrder o (map (λ (q : Leveled). q.0) (front ++ filter (λ (x : Leveled). not (x.1 == low)) xs)) → IsOrder (map (λ (q : Leveled). q.0) (filter (λ (x : Leveled). x.1 == low) xs) ++ o) (map (λ (q : Leveled). q.0) (front ++ xs))
level_first low o front [] up from h rest = rest
level_first low o front (x ∷ xs) up from h r = elim (x.1 == low) as (λ b. (x.1 == low) ≡ b → IsOrder o (map (λ (q : Leveled). q.0) (front ++ cond (not b) (x ∷ filter (λ (x : Leveled). not (x.1 == low)) xs) (filter (λ (x : Leveled). not (x.1 == low)) xs)))
    → IsOrder (map (λ (q : Leveled). q.0) (cond b (x ∷ filter (λ (x : Leveled). x.1 == low) xs) (filter (λ (x : Leveled). x.1 == low) xs)) ++ o) (map (λ (q : Leveled). q.0) (front ++ x ∷ xs))) [
      | true ↦ λ is rest.
          let here : x.1 ≡ low = eqb-true x.1 low is in (
            map (λ (q : Leveled). q.0) front,
            (
              map (λ (q : Leveled). q.0) xs,
              (
                map_append (λ (q : Leveled). q.0) front (x ∷ xs),
                (
                  passable front x xs (subst (λ n. list_all (λ (q : Leveled). nat_lt n q.1) front ≡ true) (sym here) up) h,
                  subst (IsOrder (map (λ (q : Leveled). q.0) (filter (λ (x : Leveled). x.1 == low) xs) ++ o)) (map_append (λ (q : Leveled). q.0) front xs) (level_first low o front xs up (second_so _ _ from) (fine_without front x xs h) rest),
                ),
              ),
            ),
          )
      | false ↦ λ isnt rest.
          let least : low ≤ x.1 = leb-true low x.1 (first_so _ _ from) in
          let apart : (x.1 ≡ low → ⊥) = λ same. true≢false (sym (eq-eqb x.1 low same) ∙ isnt) in
          let one : front ++ x ∷ xs ≡ (front ++ x ∷ []) ++ xs = sym (append_assoc front (x ∷ []) xs) in
          subst (λ (ys : List Leveled). IsOrder (map (λ (q : Leveled). q.0) (filter (λ (x : Leveled). x.1 == low) xs) ++ o) (map (λ (q : Leveled). q.0) ys)) (sym one)
          (level_first low o (front ++ x ∷ []) xs (all_join (λ (q : Leveled). nat_lt low q.1) front (x ∷ []) up (both _ _ (lt-ltb low x.1 (omega (arith, least, apart))) refl)) (second_so _ _ from)
          (subst (λ (ys : List Leveled). fine ys ≡ true) one h)
          (subst (λ (ys : List Leveled). IsOrder o (map (λ (q : Leveled). q.0) ys)) (sym (append_assoc front (x ∷ []) (filter (λ (x : Leveled). not (x.1 == low)) xs))) rest))
    ] refl r

-- ---- level by level

abbrev sorted : ℕ → ℕ → List Leveled → List Placed
sorted low zero xs = []
sorted low (suc count) xs = map (λ (q : Leveled). q.0) (filter (λ (x : Leveled). x.1 == low) xs) ++ sorted (low + 1) count xs

other_level : (low l : ℕ) (xs : List Leveled) → low < l → filter (λ (x : Leveled). x.1 == l) (filter (λ (x : Leveled). not (x.1 == low)) xs) ≡ filter (λ (x : Leveled). x.1 == l) xs
other_level low l [] lt = refl
other_level low l (x ∷ xs) lt = elim (x.1 == low) as (λ b. (x.1 == low) ≡ b → filter (λ (x : Leveled). x.1 == l) (cond (not b) (x ∷ filter (λ (x : Leveled). not (x.1 == low)) xs) (filter (λ (x : Leveled). not (x.1 == low)) xs)) ≡ cond (x.1 == l) (x ∷ filter (λ (x : Leveled). x.1 == l) xs) (filter (λ (x : Leveled). x.1 == l) xs)) [
  | true ↦ λ is. other_level low l xs lt ∙ off (x.1 == l) (λ same. let a : x.1 ≡ low = eqb-true x.1 low is in let b : x.1 ≡ l = eqb-true x.1 l same in omega (arith, a, b, lt))
  | false ↦ λ isnt. ap (λ r. cond (x.1 == l) (x ∷ r) r) (other_level low l xs lt)
] refl
  where
    off : (b : Bool) → (b ≡ true → ⊥) → filter (λ (x : Leveled). x.1 == l) xs ≡ cond b (x ∷ filter (λ (x : Leveled). x.1 == l) xs) (filter (λ (x : Leveled). x.1 == l) xs)
    off true h = absurd (h refl)
    off false h = refl

sorted_other : (low from count : ℕ) (xs : List Leveled) → low < from → sorted from count (filter (λ (x : Leveled). not (x.1 == low)) xs) ≡ sorted from count xs
sorted_other low from zero xs lt = refl
sorted_other low from (suc count) xs lt = ap₂ (λ a b. map (λ (q : Leveled). q.0) a ++ b) (other_level low from xs lt) (sorted_other low (from + 1) count xs (omega (arith, lt)))

higher : (low count : ℕ) (xs : List Leveled) → list_all (λ (x : Leveled). nat_le low x.1 && nat_lt x.1 (low + suc count)) xs ≡ true → list_all (λ (x : Leveled). nat_le (low + 1) x.1 && nat_lt x.1 (low + 1 + count)) (filter (λ (x : Leveled). not (x.1 == low)) xs) ≡ true
higher low count [] h = refl
higher low count (x ∷ xs) h = elim (x.1 == low) as (λ b. (x.1 == low) ≡ b → list_all (λ (x : Leveled). nat_le (low + 1) x.1 && nat_lt x.1 (low + 1 + count)) (cond (not b) (x ∷ filter (λ (x : Leveled). not (x.1 == low)) xs) (filter (λ (x : Leveled). not (x.1 == low)) xs)) ≡ true) [
  | true ↦ λ is. higher low count xs (second_so _ _ h)
  | false ↦ λ isnt.
      let a : low ≤ x.1 = leb-true low x.1 (first_so _ _ (first_so _ _ h)) in
      let b : x.1 < low + suc count = ltb-true x.1 (low + suc count) (second_so _ _ (first_so _ _ h)) in
      let apart : (x.1 ≡ low → ⊥) = λ same. true≢false (sym (eq-eqb x.1 low same) ∙ isnt) in
      both _ _ (both _ _ (le-leb (low + 1) x.1 (omega (arith, a, apart))) (lt-ltb x.1 (low + 1 + count) (omega (arith, b)))) (higher low count xs (second_so _ _ h))
] refl

from_low : (low high : ℕ) (xs : List Leveled) → list_all (λ (x : Leveled). nat_le low x.1 && nat_lt x.1 high) xs ≡ true → list_all (λ (x : Leveled). nat_le low x.1) xs ≡ true
from_low low high [] h = refl
from_low low high (x ∷ xs) h = both _ _ (first_so _ _ (first_so _ _ h)) (from_low low high xs (second_so _ _ h))

none_between : (low : ℕ) (xs : List Leveled) → list_all (λ (x : Leveled). nat_le low x.1 && nat_lt x.1 (low + zero)) xs ≡ true → xs ≡ []
none_between low [] h = refl
none_between low (x ∷ xs) h =
    let a : low ≤ x.1 = leb-true low x.1 (first_so _ _ (first_so _ _ h)) in
    let b : x.1 < low + zero = ltb-true x.1 (low + zero) (second_so _ _ (first_so _ _ h)) in
    absurd (omega (arith, a, b))

sorted_order : (count low : ℕ) (xs : List Leveled) → list_all (λ (x : Leveled). nat_le low x.1 && nat_lt x.1 (low + count)) xs ≡ true → fine xs ≡ true → IsOrder (sorted low count xs) (map (λ (q : Leveled). q.0) xs)
sorted_order zero low xs within h = ap (map (λ (q : Leveled). q.0)) (none_between low xs within)
sorted_order (suc count) low xs within h =
    level_first low (sorted (low + 1) count xs) [] xs refl (from_low low (low + suc count) xs within) h
    (subst (λ (o : List Placed). IsOrder o (map (λ (q : Leveled). q.0) (filter (λ (x : Leveled). not (x.1 == low)) xs))) (sorted_other low (low + 1) count xs (omega arith))
    (sorted_order count (low + 1) (filter (λ (x : Leveled). not (x.1 == low)) xs) (higher low count xs within) (fine_filter (λ (x : Leveled). not (x.1 == low)) xs h)))

-- ---- the plan's places

abbrev AllFound : List Placed → List Placed → Type 0
AllFound all [] = Unit {0}
AllFound all (p ∷ ps) = (find (λ (q : Placed). q.0 == p.0) all ≡ Some p) × AllFound all ps

unequal : (a b : ℕ) → (a ≡ b → ⊥) → (a == b) ≡ false
unequal a b h = elim (a == b) as (λ t. (a == b) ≡ t → t ≡ false) [ true ↦ λ is. absurd (h (eqb-true a b is)) | false ↦ λ _. refl ] refl

skip_front : (n : ℕ) (t : SoughtItem) (front rest : List Placed) → list_all (λ (q : Placed). nat_lt q.0 n) front ≡ true → find (λ (q : Placed). q.0 == n) (front ++ (n, t) ∷ rest) ≡ Some (n, t)
skip_front n t [] rest h = ap (λ b. cond b (Some (n, t)) (find (λ (q : Placed). q.0 == n) rest)) (eq-eqb n n refl)
skip_front n t (q ∷ front) rest h =
    let less : q.0 < n = ltb-true q.0 n (first_so _ _ h) in
    ap (λ b. cond b (Some q) (find (λ (q : Placed). q.0 == n) (front ++ (n, t) ∷ rest))) (unequal q.0 n (λ same. omega (arith, less, same))) ∙ skip_front n t front rest (second_so _ _ h)

weaker : (n : ℕ) (front : List Placed) → list_all (λ (q : Placed). nat_lt q.0 n) front ≡ true → list_all (λ (q : Placed). nat_lt q.0 (n + 1)) front ≡ true
weaker n [] h = refl
weaker n (q ∷ front) h = let less : q.0 < n = ltb-true q.0 n (first_so _ _ h) in both _ _ (lt-ltb q.0 (n + 1) (omega (arith, less))) (weaker n front (second_so _ _ h))

found_all : (front : List Placed) (n : ℕ) (ts : List SoughtItem) → list_all (λ (q : Placed). nat_lt q.0 n) front ≡ true → AllFound (front ++ enumerate_from n ts) (enumerate_from n ts)
found_all front n [] h = tt
found_all front n (t ∷ ts) h = (
  skip_front n t front (enumerate_from (n + 1) ts) h,
  subst (λ (all : List Placed). AllFound all (enumerate_from (n + 1) ts)) (append_assoc front ((n, t) ∷ []) (enumerate_from (n + 1) ts))
      (found_all (front ++ (n, t) ∷ []) (n + 1) ts (all_join (λ (q : Placed). nat_lt q.0 (n + 1)) front ((n, t) ∷ []) (weaker n front h) (both _ _ (lt-ltb n (n + 1) (omega arith)) refl))),
)

places_are : (all : List Placed) (n : ℕ) (ts : List SoughtItem) (levels : List ℕ) (l : ℕ) → length levels ≡ length ts → AllFound all (enumerate_from n ts)
    → at_places all (places_from n levels l) ≡ map (λ (q : Leveled). q.0) (filter (λ (x : Leveled). x.1 == l) (zip (enumerate_from n ts) levels))
places_are all n [] [] l same found = refl
places_are all n [] (m ∷ levels) l same found = absurd (omega (arith, same))
places_are all n (t ∷ ts) [] l same found = absurd (omega (arith, same))
places_are all n (t ∷ ts) (m ∷ levels) l same found = elim (m == l) as (λ b. at_places all (map (λ (p : ℕ × ℕ). p.0) (cond b ((n, m) ∷ filter (λ (p : ℕ × ℕ). p.1 == l) (enumerate_from (n + 1) levels)) (filter (λ (p : ℕ × ℕ). p.1 == l) (enumerate_from (n + 1) levels))))
    ≡ map (λ (q : Leveled). q.0) (cond b (((n, t), m) ∷ filter (λ (x : Leveled). x.1 == l) (zip (enumerate_from (n + 1) ts) levels)) (filter (λ (x : Leveled). x.1 == l) (zip (enumerate_from (n + 1) ts) levels)))) [
      | true ↦ ap₂ cons_option found.0 (places_are all (n + 1) ts levels l (omega (arith, same)) found.1)
      | false ↦ places_are all (n + 1) ts levels l (omega (arith, same)) found.1
    ]

plan_is : (ts : List SoughtItem) (levels : List ℕ) → length levels ≡ length ts → (count low : ℕ) → by_levels (map (places_of levels) (run_from low count)) (enumerate_from 0 ts) ≡ sorted low count (zip (enumerate_from 0 ts) levels)
plan_is ts levels same zero low = refl
plan_is ts levels same (suc count) low = ap₂ (λ a b. a ++ b) (places_are (enumerate_from 0 ts) 0 ts levels low same (found_all [] 0 ts refl)) (plan_is ts levels same count (low + 1))

-- ---- levels

passes : (earlier : List WithLevel) (touches : List Touch) → highest (map (λ (e : WithLevel). e.1) earlier) ≤ length earlier → may_have earlier touches (level_behind earlier touches) ≡ true
passes earlier touches few = least_passes (may_have earlier touches) (length earlier) 1 (above earlier touches (1 + length earlier) (omega (arith, few)))

few_more : (earlier : List WithLevel) (touches : List Touch) → highest (map (λ (e : WithLevel). e.1) earlier) ≤ length earlier
    → highest (map (λ (e : WithLevel). e.1) (earlier ++ (touches, level_behind earlier touches) ∷ [])) ≤ length (earlier ++ (touches, level_behind earlier touches) ∷ [])
few_more earlier touches few =
    let v : ℕ = level_behind earlier touches in
    let high : v ≤ 1 + length earlier = least_high (may_have earlier touches) (length earlier) 1 in
    let e : highest (map (λ (e : WithLevel). e.1) (earlier ++ (touches, v) ∷ [])) ≡ max (highest (map (λ (e : WithLevel). e.1) earlier)) v = ap highest (levels_more earlier (touches, v)) ∙ highest_is_max (map (λ (e : WithLevel). e.1) earlier) v in
    let long : length (earlier ++ (touches, v) ∷ []) ≡ length earlier + 1 = length-append earlier ((touches, v) ∷ []) in
    omega (arith, few, high, e, long)

-- what touches nothing has level 1
commutes_none : (xs : List Touch) → list_all (λ a. list_all (λ (b : Touch). false) []) xs ≡ true
commutes_none [] = refl
commutes_none (x ∷ xs) = commutes_none xs

may_none : (earlier : List WithLevel) (level : ℕ) → may_have earlier [] level ≡ true
may_none [] level = refl
may_none (e ∷ earlier) level = both _ _ (both _ _ (ap (λ b. b || nat_lt e.1 level) (commute_none e.0)) (ap (λ b. b || not (e.1 == level)) (apart_none e.0))) (may_none earlier level)
  where
    commute_none : (xs : List Touch) → commute xs [] ≡ true
    commute_none [] = refl
    commute_none (x ∷ xs) = commute_none xs

    apart_none : (xs : List Touch) → are_independent xs [] ≡ true
    apart_none [] = refl
    apart_none (x ∷ xs) = apart_none xs

level_none : (earlier : List WithLevel) → level_behind earlier [] ≡ 1
level_none earlier = go (length earlier)
  where
    go : (count : ℕ) → least_from (may_have earlier []) count 1 ≡ 1
    go zero = refl
    go (suc count) = ap (λ b. cond b 1 (least_from (may_have earlier []) count (1 + 1))) (may_none earlier 1)

abbrev touch_of : SoughtItem → List Touch
touch_of t = touches_of (resolved t.0 t.1)

no_touch : (t : SoughtItem) → sets_conf t.1.deed ≡ true → touch_of t ≡ []
no_touch t h = go t.1.deed h
  where
    go : (d : Deed) → sets_conf d ≡ true → touches_of (resolved t.0 (record t.1 { deed = d })) ≡ []
    go (Acts (SetAlias local users)) h = refl
    go (Acts (DropAlias local)) h = refl
    go (Acts (SetFilter filter)) h = refl
    go (Acts (DropFilter id)) h = refl
    go _ h = absurd (true≢false (sym h))

module _ (a : Placed) (l : ℕ) (one : sets_conf a.1.1.deed ≡ true → l ≡ 1) where
  later_one : (front back : List WithLevel) (n : ℕ) (ts : List SoughtItem) → highest (map (λ (e : WithLevel). e.1) (front ++ (touch_of a.1, l) ∷ back)) ≤ length (front ++ (touch_of a.1, l) ∷ back)
      → list_all (λ (y : Leveled). not (nat_lt y.1 l) || may_turn a y.0) (zip (enumerate_from n ts) (levels_behind (front ++ (touch_of a.1, l) ∷ back) (touches_by_turn ts))) ≡ true
  later_one front back n [] few = refl
  later_one front back n (t ∷ ts) few =
      let e : List WithLevel = front ++ (touch_of a.1, l) ∷ back in
      let v : ℕ = level_behind e (touch_of t) in
      let v_one : 1 ≤ v = least_low (may_have e (touch_of t)) (length e) 1 in
      let may : ((commute (touch_of a.1) (touch_of t) || nat_lt l v) && (are_independent (touch_of a.1) (touch_of t) || not (l == v))) ≡ true =
      all_mid (λ (e : WithLevel). (commute e.0 (touch_of t) || nat_lt e.1 v) && (are_independent e.0 (touch_of t) || not (e.1 == v))) front (touch_of a.1, l) back (passes e (touch_of t) few) in
      let joined : e ++ (touch_of t, v) ∷ [] ≡ front ++ (touch_of a.1, l) ∷ (back ++ (touch_of t, v) ∷ []) = append_assoc front ((touch_of a.1, l) ∷ back) ((touch_of t, v) ∷ []) in
      both _ _
      (elim (nat_lt v l) as (λ b. nat_lt v l ≡ b → (not b || may_turn a (n, t)) ≡ true) [
        | true ↦ λ less. let lt : v < l = ltb-true v l less in
            both _ _ (must (commute (touch_of a.1) (touch_of t)) (nat_lt l v) (λ up. let gt : l < v = ltb-true l v up in omega (arith, lt, gt)) (first_so _ _ may))
            (elim (sets_conf a.1.1.deed) as (λ b. sets_conf a.1.1.deed ≡ b → not (b && sets_conf t.1.deed) ≡ true) [
              | true ↦ λ conf. let l_one : l ≡ 1 = one conf in absurd (omega (arith, lt, l_one, v_one))
              | false ↦ λ _. refl
            ] refl)
        | false ↦ λ _. refl
      ] refl)
      (subst (λ (es : List WithLevel). list_all (λ (y : Leveled). not (nat_lt y.1 l) || may_turn a y.0) (zip (enumerate_from (n + 1) ts) (levels_behind es (touches_by_turn ts))) ≡ true) (sym joined)
      (later_one front (back ++ (touch_of t, v) ∷ []) (n + 1) ts (subst (λ (es : List WithLevel). highest (map (λ (e : WithLevel). e.1) es) ≤ length es) joined (few_more e (touch_of t) few))))
    where
      must : (x y : Bool) → (y ≡ true → ⊥) → (x || y) ≡ true → x ≡ true
      must true y h k = refl
      must false true h k = absurd (h refl)
      must false false h k = k

fine_levels : (earlier : List WithLevel) (n : ℕ) (ts : List SoughtItem) → highest (map (λ (e : WithLevel). e.1) earlier) ≤ length earlier → fine (zip (enumerate_from n ts) (levels_behind earlier (touches_by_turn ts))) ≡ true
fine_levels earlier n [] few = refl
fine_levels earlier n (t ∷ ts) few =
    let v : ℕ = level_behind earlier (touch_of t) in
    both _ _ (later_one (n, t) v (λ conf. ap (level_behind earlier) (no_touch t conf) ∙ level_none earlier) earlier [] (n + 1) ts (few_more earlier (touch_of t) few))
    (fine_levels (earlier ++ (touch_of t, v) ∷ []) (n + 1) ts (few_more earlier (touch_of t) few))

within_all : (h : ℕ) (ps : List Placed) (levels : List ℕ) → list_all (λ l. nat_le 1 l && nat_lt l (1 + h)) levels ≡ true → list_all (λ (x : Leveled). nat_le 1 x.1 && nat_lt x.1 (1 + h)) (zip ps levels) ≡ true
within_all h [] [] k = refl
within_all h [] (l ∷ levels) k = refl
within_all h (p ∷ []) [] k = refl
within_all h (p ∷ q ∷ ps) [] k = refl
within_all h (p ∷ ps) (l ∷ levels) k = both _ _ (first_so _ _ k) (within_all h ps levels (second_so _ _ k))

levels_within : (h : ℕ) (earlier : List WithLevel) (all : List (List Touch)) → highest (levels_behind earlier all) ≤ h → list_all (λ l. nat_le 1 l && nat_lt l (1 + h)) (levels_behind earlier all) ≡ true
levels_within h earlier [] top = refl
levels_within h earlier (x ∷ all) top =
    let v : ℕ = level_behind earlier x in
    let low : 1 ≤ v = least_low (may_have earlier x) (length earlier) 1 in
    both _ _ (both _ _ (le-leb 1 v low) (lt-ltb v (1 + h) (omega (arith, top)))) (levels_within h (earlier ++ (x, v) ∷ []) all (omega (arith, top)))

firsts : (ps : List Placed) (levels : List ℕ) → length levels ≡ length ps → map (λ (q : Leveled). q.0) (zip ps levels) ≡ ps
firsts [] [] same = refl
firsts [] (l ∷ levels) same = absurd (omega (arith, same))
firsts (p ∷ ps) [] same = absurd (omega (arith, same))
firsts (p ∷ ps) (l ∷ levels) same = ap (λ r. p ∷ r) (firsts ps levels (omega (arith, same)))

length_enumerate : (n : ℕ) (ts : List SoughtItem) → length (enumerate_from n ts) ≡ length ts
length_enumerate n [] = refl
length_enumerate n (t ∷ ts) = ap suc (length_enumerate (n + 1) ts)

length_touches : (ts : List SoughtItem) → length (touches_by_turn ts) ≡ length ts
length_touches [] = refl
length_touches (t ∷ ts) = ap suc (length_touches ts)

order_of : (ts : List SoughtItem) → IsOrder (by_levels (levels_of (touches_by_turn ts)) (enumerate_from 0 ts)) (enumerate_from 0 ts)
order_of ts =
    let levels : List ℕ = levels_by_item (touches_by_turn ts) in
    let many : length levels ≡ length ts = length_levels [] (touches_by_turn ts) ∙ length_touches ts in
    subst (λ (o : List Placed). IsOrder o (enumerate_from 0 ts)) (sym (plan_is ts levels many (highest levels) 1))
    (subst (IsOrder (sorted 1 (highest levels) (zip (enumerate_from 0 ts) levels))) (firsts (enumerate_from 0 ts) levels (many ∙ sym (length_enumerate 0 ts)))
    (sorted_order (highest levels) 1 (zip (enumerate_from 0 ts) levels) (within_all (highest levels) (enumerate_from 0 ts) levels (levels_within (highest levels) [] (touches_by_turn ts) (omega arith))) (fine_levels [] 0 ts (omega arith))))

pub plan_order : (s : MailStore) (items : List Item) → IsOrder (by_levels (levels_of (touches_by_turn (turns s items))) (enumerate_from 0 (turns s items))) (enumerate_from 0 (turns s items))
plan_order s items = order_of (turns s items)

-- ---- items of one level are independent

abbrev apart_fine : List Leveled → Bool
apart_fine [] = true
apart_fine (x ∷ xs) = list_all (λ (y : Leveled). not (y.1 == x.1) || are_apart x.0 y.0) xs && apart_fine xs

module _ (a : Placed) (l : ℕ) where
  later_apart : (front back : List WithLevel) (n : ℕ) (ts : List SoughtItem) → highest (map (λ (e : WithLevel). e.1) (front ++ (touch_of a.1, l) ∷ back)) ≤ length (front ++ (touch_of a.1, l) ∷ back)
      → list_all (λ (y : Leveled). not (y.1 == l) || are_apart a y.0) (zip (enumerate_from n ts) (levels_behind (front ++ (touch_of a.1, l) ∷ back) (touches_by_turn ts))) ≡ true
  later_apart front back n [] few = refl
  later_apart front back n (t ∷ ts) few =
      let e : List WithLevel = front ++ (touch_of a.1, l) ∷ back in
      let v : ℕ = level_behind e (touch_of t) in
      let may : ((commute (touch_of a.1) (touch_of t) || nat_lt l v) && (are_independent (touch_of a.1) (touch_of t) || not (l == v))) ≡ true =
      all_mid (λ (e : WithLevel). (commute e.0 (touch_of t) || nat_lt e.1 v) && (are_independent e.0 (touch_of t) || not (e.1 == v))) front (touch_of a.1, l) back (passes e (touch_of t) few) in
      let joined : e ++ (touch_of t, v) ∷ [] ≡ front ++ (touch_of a.1, l) ∷ (back ++ (touch_of t, v) ∷ []) = append_assoc front ((touch_of a.1, l) ∷ back) ((touch_of t, v) ∷ []) in
      both _ _
      (elim (v == l) as (λ b. (v == l) ≡ b → (not b || are_independent (touch_of a.1) (touch_of t)) ≡ true) [
        | true ↦ λ same. must (are_independent (touch_of a.1) (touch_of t)) (l == v) (eq-eqb l v (sym (eqb-true v l same))) (second_so _ _ may)
        | false ↦ λ _. refl
      ] refl)
      (subst (λ (es : List WithLevel). list_all (λ (y : Leveled). not (y.1 == l) || are_apart a y.0) (zip (enumerate_from (n + 1) ts) (levels_behind es (touches_by_turn ts))) ≡ true) (sym joined)
      (later_apart front (back ++ (touch_of t, v) ∷ []) (n + 1) ts (subst (λ (es : List WithLevel). highest (map (λ (e : WithLevel). e.1) es) ≤ length es) joined (few_more e (touch_of t) few))))
    where
      must : (x y : Bool) → y ≡ true → (x || not y) ≡ true → x ≡ true
      must true y h k = refl
      must false true h k = k
      must false false h k = absurd (true≢false (sym h))

apart_levels : (earlier : List WithLevel) (n : ℕ) (ts : List SoughtItem) → highest (map (λ (e : WithLevel). e.1) earlier) ≤ length earlier → apart_fine (zip (enumerate_from n ts) (levels_behind earlier (touches_by_turn ts))) ≡ true
apart_levels earlier n [] few = refl
apart_levels earlier n (t ∷ ts) few =
    let v : ℕ = level_behind earlier (touch_of t) in
    both _ _ (later_apart (n, t) v earlier [] (n + 1) ts (few_more earlier (touch_of t) few))
    (apart_levels (earlier ++ (touch_of t, v) ∷ []) (n + 1) ts (few_more earlier (touch_of t) few))

apart_from : (x : Placed) (low : ℕ) (xs : List Leveled) → list_all (λ (y : Leveled). not (y.1 == low) || are_apart x y.0) xs ≡ true → list_all (λ q. are_apart x q) (map (λ (q : Leveled). q.0) (filter (λ (y : Leveled). y.1 == low) xs)) ≡ true
apart_from x low [] h = refl
apart_from x low (y ∷ xs) h = elim (y.1 == low) as (λ b. (not b || are_apart x y.0) ≡ true → list_all (λ q. are_apart x q) (map (λ (q : Leveled). q.0) (cond b (y ∷ filter (λ (y : Leveled). y.1 == low) xs) (filter (λ (y : Leveled). y.1 == low) xs))) ≡ true) [
  | true ↦ λ k. both _ _ k (apart_from x low xs (second_so _ _ h))
  | false ↦ λ _. apart_from x low xs (second_so _ _ h)
] (first_so _ _ h)

level_is_apart : (low : ℕ) (xs : List Leveled) → apart_fine xs ≡ true → all_apart (map (λ (q : Leveled). q.0) (filter (λ (y : Leveled). y.1 == low) xs)) ≡ true
level_is_apart low [] h = refl
level_is_apart low (x ∷ xs) h = elim (x.1 == low) as (λ b. (x.1 == low) ≡ b → all_apart (map (λ (q : Leveled). q.0) (cond b (x ∷ filter (λ (y : Leveled). y.1 == low) xs) (filter (λ (y : Leveled). y.1 == low) xs))) ≡ true) [
  | true ↦ λ is. both _ _ (apart_from x.0 low xs (subst (λ n. list_all (λ (y : Leveled). not (y.1 == n) || are_apart x.0 y.0) xs ≡ true) (eqb-true x.1 low is) (first_so _ _ h))) (level_is_apart low xs (second_so _ _ h))
  | false ↦ λ _. level_is_apart low xs (second_so _ _ h)
] refl

abbrev pub EachApart : List (List Placed) → Type 0
EachApart [] = Unit {0}
EachApart (level ∷ more) = (all_apart level ≡ true) × EachApart more

each_apart : (ts : List SoughtItem) (levels : List ℕ) → length levels ≡ length ts → apart_fine (zip (enumerate_from 0 ts) levels) ≡ true → (count low : ℕ) → EachApart (levels_at (enumerate_from 0 ts) (map (places_of levels) (run_from low count)))
each_apart ts levels same h zero low = tt
each_apart ts levels same h (suc count) low =
    (ap all_apart (places_are (enumerate_from 0 ts) 0 ts levels low same (found_all [] 0 ts refl)) ∙ level_is_apart low (zip (enumerate_from 0 ts) levels) h, each_apart ts levels same h count (low + 1))

pub plan_apart : (ts : List SoughtItem) → EachApart (levels_at (enumerate_from 0 ts) (levels_of (touches_by_turn ts)))
plan_apart ts = each_apart ts (levels_by_item (touches_by_turn ts)) (length_levels [] (touches_by_turn ts) ∙ length_touches ts) (apart_levels [] 0 ts (omega arith)) (highest (levels_by_item (touches_by_turn ts))) 1
