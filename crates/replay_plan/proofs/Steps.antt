-- One touch, part or level more in what is kept of the earlier items.
use Rattle.std.proofs.Common.{◌≡◌, ℕ, zero, suc, ◌+◌, ◌-◌, ◌<◌, ◌≤◌, max, Bool, true, false, not, ◌&&◌, ◌||◌, cond, nat_lt, List, [], ◌∷◌, ◌++◌, map, length, take, get_or, refl, sym, ap, ap₂, subst, ◌∙◌, arith, true≢false}
use Rattle.std.specs.List.{list_any}
use Rattle.std.specs.Cmp.{second_so}
use Rattle.std.proofs.lemmas.Bool.{lt-ltb, ltb-true}
use Rattle.std.proofs.lemmas.List.{take_more}
use Rattle.touch_rules.specs.declared.touched.Touch.{Touch}
use Rattle.touch_rules.specs.Commuting.{does_write}
use Rattle.replay_plan.specs.declared.slots.Part.{Part}
use Rattle.replay_plan.specs.declared.slots.Part.TheVariants.{Level}
use Rattle.replay_plan.specs.declared.slots.Slot.{Slot}
use Rattle.replay_plan.specs.declared.slots.Sides.{Sides}
use Rattle.replay_plan.specs.Placing.{highest}
use Rattle.replay_plan.specs.Slots.{Spot, spot_on, same_spot, level_at, at_level, is_at, asked_on, is_avoided, Leads, SameTaken, IsNextFree, IsPast}
use Rattle.replay_plan.proofs.Tables.{one_spot, spot_itself}

any_append : {X : Type 0} (f : X → Bool) (xs : List X) (x : X) → list_any f (xs ++ x ∷ []) ≡ (f x || list_any f xs)
any_append f [] x = refl
any_append f (y ∷ xs) x = ap (λ r. f y || r) (any_append f xs x) ∙ turn (f y) (f x) (list_any f xs)
  where
    turn : (a b c : Bool) → (a || (b || c)) ≡ (b || (a || c))
    turn true true c = refl
    turn true false c = refl
    turn false b c = refl

pub any_take : {X : Type 0} (f : X → Bool) (xs : List X) (i : ℕ) (d : X) → i < length xs → list_any f (take (i + 1) xs) ≡ (f (get_or xs i d) || list_any f (take i xs))
any_take f xs i d lt = ap (list_any f) (take_more xs i d lt) ∙ any_append f (take i xs) (get_or xs i d)

-- ---- levels that rise

raised : (a b : Bool) (level old : ℕ) → max (cond a level 0) (max (cond b level 0) old) ≡ max (cond (a || b) level 0) old
raised true true level old = omega arith
raised true false level old = omega arith
raised false true level old = omega arith
raised false false level old = omega arith

pub raise_more : {X : Type 0} (f : X → Bool) (xs : List X) (i : ℕ) (d : X) (level old mid now : ℕ) (here : Bool) → i < length xs → here ≡ f (get_or xs i d)
    → now ≡ max (cond here level 0) mid → mid ≡ max (cond (list_any f (take i xs)) level 0) old → now ≡ max (cond (list_any f (take (i + 1) xs)) level 0) old
raise_more f xs i d level old mid now here lt is n m =
    n ∙ ap₂ (λ h r. max (cond h level 0) r) is m ∙ raised (f (get_or xs i d)) (list_any f (take i xs)) level old ∙ ap (λ b. max (cond b level 0) old) (sym (any_take f xs i d lt))

or_false : (b : Bool) → (b || false) ≡ b
or_false true = refl
or_false false = refl

-- a slot raised by a touch is at the spots of its part
pub raised_here : (a : Touch) (spot : Spot) (p : Part) (w : Bool) (t : Spot) → w ≡ does_write a → t ≡ spot_on a spot.written p → ((not spot.written || w) && same_spot spot t) ≡ is_at (p ∷ []) a spot
raised_here a spot p w t way at =
    ap₂ (λ x y. (not spot.written || x) && same_spot spot y) way at
    ∙ ap (λ b. (not spot.written || does_write a) && b) (sym (or_false (same_spot spot (spot_on a spot.written p))))

-- a touch is at a spot by one of its parts
pub one_by_part : (a : Touch) (spot : Spot) (parts : List Part) → list_any (λ p. is_at (p ∷ []) a spot) parts ≡ is_at parts a spot
one_by_part a spot parts = out (not spot.written || does_write a) parts
  where
    out : (x : Bool) (ps : List Part) → list_any (λ p. x && (same_spot spot (spot_on a spot.written p) || false)) ps ≡ (x && list_any (λ p. same_spot spot (spot_on a spot.written p)) ps)
    out true [] = refl
    out true (p ∷ ps) = ap₂ (λ b c. b || c) (or_false (same_spot spot (spot_on a spot.written p))) (out true ps)
    out false [] = refl
    out false (p ∷ ps) = out false ps

pub highest_next : {X : Type 0} (f : X → ℕ) (xs : List X) (i : ℕ) (d : X) (now old here : ℕ) → i < length xs → here ≡ f (get_or xs i d) → now ≡ max old here → old ≡ highest (map f (take i xs)) → now ≡ highest (map f (take (i + 1) xs))
highest_next f xs i d now old here lt is n o =
    n ∙ ap₂ max o is ∙ sym (highest_append (take i xs) (get_or xs i d)) ∙ ap (λ ys. highest (map f ys)) (sym (take_more xs i d lt))
  where
    highest_append : (ys : List _) (y : _) → highest (map f (ys ++ y ∷ [])) ≡ max (highest (map f ys)) (f y)
    highest_append [] y = omega arith
    highest_append (x ∷ ys) y = let r : highest (map f (ys ++ y ∷ [])) ≡ max (highest (map f ys)) (f y) = highest_append ys y in omega (arith, r)

pub asked_at : (a : Touch) (w : Bool) (s : Spot) (p : Part) → s ≡ spot_on a (not w) p → w ≡ does_write a → s ≡ asked_on a p
asked_at a w s p h is = h ∙ ap (λ t. spot_on a (not t) p) is

-- ---- levels that are taken

pos : (n : ℕ) → nat_lt 0 n ≡ true → 1 ≤ n
pos n h = let r : 0 < n = ltb-true 0 n h in omega (arith, r)

is_pos : (n : ℕ) → 1 ≤ n → nat_lt 0 n ≡ true
is_pos n h = lt-ltb 0 n (omega (arith, h))

pub no_pos : (n : ℕ) → n ≡ 0 → nat_lt 0 n ≡ false
no_pos n h = ap (nat_lt 0) h

module _ (end : ℕ) (old new : List (Slot × Sides)) (spot : Spot) (level to : ℕ) (leads : Leads end old)
    (set : (s : Spot) → level_at new s ≡ cond (same_spot s (at_level spot level)) to (level_at old s))
    (over : level < to) (within : to ≤ end) (passes : (k : ℕ) → level < k → k < to → 1 ≤ level_at old (at_level spot k)) where
  -- what was taken stays taken
  stays : (s : Spot) → 1 ≤ level_at old s → 1 ≤ level_at new s
  stays s h = elim (same_spot s (at_level spot level)) as (λ b. level_at new s ≡ cond b to (level_at old s) → 1 ≤ level_at new s) [
    | true ↦ λ e. omega (arith, e, over)
    | false ↦ λ e. omega (arith, e, h)
  ] (set s)

  here : 1 ≤ level_at new (at_level spot level)
  here = let e : level_at new (at_level spot level) ≡ to = set (at_level spot level) ∙ ap (λ b. cond b to (level_at old (at_level spot level))) (spot_itself (at_level spot level)) in omega (arith, e, over)

  pub leads_set : Leads end new
  leads_set s m h = elim (same_spot (at_level s m) (at_level spot level)) as (λ b. same_spot (at_level s m) (at_level spot level) ≡ b → level_at new (at_level s m) ≡ cond b to (level_at old (at_level s m))
      → (m < level_at new (at_level s m)) × (level_at new (at_level s m) ≤ end) × ((k : ℕ) → m ≤ k → k < level_at new (at_level s m) → 1 ≤ level_at new (at_level s k))) [
        | true ↦ λ is e.
            let one : at_level s m ≡ at_level spot level = one_spot _ _ is in
            let at : (k : ℕ) → at_level s k ≡ at_level spot k = λ k. ap (λ t. at_level t k) one in
            let same : m ≡ level = ap (λ t. level_in t.part) one in (
              omega (arith, e, over, same),
              omega (arith, e, within),
              λ k low lt. subst (λ t. 1 ≤ level_at new t) (sym (at k)) (elim (nat_lt level k) as (λ b. nat_lt level k ≡ b → 1 ≤ level_at new (at_level spot k)) [
                | true ↦ λ up. stays (at_level spot k) (passes k (ltb-true level k up) (omega (arith, lt, e)))
                | false ↦ λ up. let k_is : k ≡ level = not_over level k up (omega (arith, low, same)) in subst (λ n. 1 ≤ level_at new (at_level spot n)) (sym k_is) here
              ] refl),
            )
        | false ↦ λ _ e.
            let was : 1 ≤ level_at old (at_level s m) = omega (arith, e, h) in
            let l : (m < level_at old (at_level s m)) × (level_at old (at_level s m) ≤ end) × ((k : ℕ) → m ≤ k → k < level_at old (at_level s m) → 1 ≤ level_at old (at_level s k)) = leads s m was in
            let first : m < level_at old (at_level s m) = l.0 in
            let second : level_at old (at_level s m) ≤ end = l.1 in
            (omega (arith, e, first), omega (arith, e, second), λ k low lt. stays (at_level s k) (l.2 k low (omega (arith, lt, e))))
      ] refl (set (at_level s m))
    where
      level_in : Part → ℕ
      level_in (Level n) = n
      level_in _ = 0

      not_over : (a b : ℕ) → nat_lt a b ≡ false → a ≤ b → b ≡ a
      not_over a b off le = elim (nat_lt b (a + 1)) as (λ t. nat_lt b (a + 1) ≡ t → b ≡ a) [
        | true ↦ λ on. let lt : b < a + 1 = ltb-true b (a + 1) on in omega (arith, lt, le)
        | false ↦ λ on. let not_low : (b < a + 1 → ⊥) = λ lt. true≢false (sym (lt-ltb b (a + 1) lt) ∙ on) in
            absurd (true≢false (sym (lt-ltb a b (omega (arith, not_low))) ∙ off))
      ] refl

pub same_set : (old new : List (Slot × Sides)) (s t : Spot) (to : ℕ) → level_at new s ≡ cond (same_spot s t) to (level_at old s) → 1 ≤ to → nat_lt 0 (level_at new s) ≡ (same_spot s t || nat_lt 0 (level_at old s))
same_set old new s t to h up = elim (same_spot s t) as (λ b. level_at new s ≡ cond b to (level_at old s) → nat_lt 0 (level_at new s) ≡ (b || nat_lt 0 (level_at old s))) [
  | true ↦ λ e. ap (nat_lt 0) e ∙ is_pos to up
  | false ↦ λ e. ap (nat_lt 0) e
] h

-- what is taken already is not taken anew
pub taken_already : (old : List (Slot × Sides)) (s t : Spot) → 1 ≤ level_at old t → nat_lt 0 (level_at old s) ≡ (same_spot s t || nat_lt 0 (level_at old s))
taken_already old s t up = elim (same_spot s t) as (λ b. same_spot s t ≡ b → nat_lt 0 (level_at old s) ≡ (b || nat_lt 0 (level_at old s))) [
  | true ↦ λ is. ap (λ u. nat_lt 0 (level_at old u)) (one_spot _ _ is) ∙ is_pos (level_at old t) up
  | false ↦ λ _. refl
] refl

-- a level that is taken, and leads as far as the one that it leads to
module _ (end : ℕ) (old new : List (Slot × Sides)) (spot : Spot) (level further beyond : ℕ) (leads : Leads end old)
    (is : further ≡ level_at old (at_level spot level)) (up : 1 ≤ further) (at : beyond ≡ level_at old (at_level spot further)) (on : 1 ≤ beyond)
    (set : (s : Spot) → level_at new s ≡ cond (same_spot s (at_level spot level)) beyond (level_at old s)) where
  pub shorter_leads : Leads end new
  shorter_leads =
      let one : (level < level_at old (at_level spot level)) × (level_at old (at_level spot level) ≤ end) × ((k : ℕ) → level ≤ k → k < level_at old (at_level spot level) → 1 ≤ level_at old (at_level spot k)) = leads spot level (omega (arith, is, up)) in
      let two : (further < level_at old (at_level spot further)) × (level_at old (at_level spot further) ≤ end) × ((k : ℕ) → further ≤ k → k < level_at old (at_level spot further) → 1 ≤ level_at old (at_level spot k)) = leads spot further (omega (arith, at, on)) in
      let a : level < level_at old (at_level spot level) = one.0 in
      let b : further < level_at old (at_level spot further) = two.0 in
      let c : level_at old (at_level spot further) ≤ end = two.1 in
      leads_set end old new spot level beyond leads set (omega (arith, a, b, is, at)) (omega (arith, c, at))
      (λ k low lt. elim (nat_lt k further) as (λ t. nat_lt k further ≡ t → 1 ≤ level_at old (at_level spot k)) [
        | true ↦ λ less. let less' : k < further = ltb-true k further less in one.2 k (omega (arith, low)) (omega (arith, less', is))
        | false ↦ λ more. let not_less : (k < further → ⊥) = λ lt'. true≢false (sym (lt-ltb k further lt') ∙ more) in two.2 k (omega (arith, not_less)) (omega (arith, lt, at))
      ] refl)

  pub shorter_same : SameTaken old new
  shorter_same s = same_set old new s (at_level spot level) beyond (set s) on ∙ sym (taken_already old s (at_level spot level) (omega (arith, is, up)))

-- a level that is taken by a touch, anew or as it was
module _ (end : ℕ) (old new : List (Slot × Sides)) (a : Touch) (level : ℕ) (leads : Leads end old) (below : level < end)
    (set : (s : Spot) → level_at new s ≡ max (cond (is_at (Level level ∷ []) a s) (level + 1) 0) (level_at old s)) where
  -- what was taken stays taken
  remains : (s : Spot) → 1 ≤ level_at old s → 1 ≤ level_at new s
  remains s h = let e : level_at new s ≡ max (cond (is_at (Level level ∷ []) a s) (level + 1) 0) (level_at old s) = set s in omega (arith, e, h)

  old_within : (s : Spot) (m : ℕ) → level_at old (at_level s m) ≤ end
  old_within s m = elim (nat_lt 0 (level_at old (at_level s m))) as (λ b. nat_lt 0 (level_at old (at_level s m)) ≡ b → level_at old (at_level s m) ≤ end) [
    | true ↦ λ up. (leads s m (pos (level_at old (at_level s m)) up)).1
    | false ↦ λ off. let not_up : (0 < level_at old (at_level s m) → ⊥) = λ lt. true≢false (sym (lt-ltb 0 (level_at old (at_level s m)) lt) ∙ off) in omega (arith, not_up)
  ] refl

  level_there : (s : Spot) (m : ℕ) → is_at (Level level ∷ []) a (at_level s m) ≡ true → m ≡ level
  level_there s m is =
      let here : (same_spot (at_level s m) (spot_on a s.written (Level level)) || false) ≡ true = second_so (not s.written || does_write a) (same_spot (at_level s m) (spot_on a s.written (Level level)) || false) is in
      ap (λ (t : Spot). level_of_part t.part) (one_spot (at_level s m) (spot_on a s.written (Level level)) (sym (or_false (same_spot (at_level s m) (spot_on a s.written (Level level)))) ∙ here))
    where
      level_of_part : Part → ℕ
      level_of_part (Level n) = n
      level_of_part _ = 0

  pub taken_leads : Leads end new
  taken_leads s m h = elim (is_at (Level level ∷ []) a (at_level s m)) as (λ b. is_at (Level level ∷ []) a (at_level s m) ≡ b → level_at new (at_level s m) ≡ max (cond b (level + 1) 0) (level_at old (at_level s m))
      → (m < level_at new (at_level s m)) × (level_at new (at_level s m) ≤ end) × ((k : ℕ) → m ≤ k → k < level_at new (at_level s m) → 1 ≤ level_at new (at_level s k))) [
        | true ↦ λ is e.
            let one : m ≡ level = level_there s m is in
            let within : level_at old (at_level s m) ≤ end = old_within s m in (
              omega (arith, e, one),
              omega (arith, e, within, below),
              λ k low lt. elim (nat_lt m k) as (λ b. nat_lt m k ≡ b → 1 ≤ level_at new (at_level s k)) [
                | true ↦ λ up. let over : m < k = ltb-true m k up in
                    let was : 1 ≤ level_at old (at_level s m) = omega (arith, e, lt, over, one) in
                    remains (at_level s k) ((leads s m was).2 k low (omega (arith, e, lt, over, one)))
                | false ↦ λ up. let not_over : (m < k → ⊥) = λ lt'. true≢false (sym (lt-ltb m k lt') ∙ up) in
                    let same : k ≡ m = omega (arith, not_over, low) in subst (λ n. 1 ≤ level_at new (at_level s n)) (sym same) h
              ] refl,
            )
        | false ↦ λ _ e.
            let was : 1 ≤ level_at old (at_level s m) = omega (arith, e, h) in
            let l : (m < level_at old (at_level s m)) × (level_at old (at_level s m) ≤ end) × ((k : ℕ) → m ≤ k → k < level_at old (at_level s m) → 1 ≤ level_at old (at_level s k)) = leads s m was in
            let first : m < level_at old (at_level s m) = l.0 in
            let second : level_at old (at_level s m) ≤ end = l.1 in
            (omega (arith, e, first), omega (arith, e, second), λ k low lt. remains (at_level s k) (l.2 k low (omega (arith, lt, e))))
      ] refl (set (at_level s m))

  pub taken_now : (s : Spot) → nat_lt 0 (level_at new s) ≡ (is_at (Level level ∷ []) a s || nat_lt 0 (level_at old s))
  taken_now s = elim (is_at (Level level ∷ []) a s) as (λ b. level_at new s ≡ max (cond b (level + 1) 0) (level_at old s) → nat_lt 0 (level_at new s) ≡ (b || nat_lt 0 (level_at old s))) [
    | true ↦ λ e. is_pos (level_at new s) (omega (arith, e))
    | false ↦ λ e. let same : level_at new s ≡ level_at old s = omega (arith, e) in ap (nat_lt 0) same
  ] (set s)

pub taken_next : (f : Touch → Bool) (xs : List Touch) (i : ℕ) (d : Touch) (now mid old : Bool) → i < length xs → now ≡ (f (get_or xs i d) || mid) → mid ≡ (list_any f (take i xs) || old) → now ≡ (list_any f (take (i + 1) xs) || old)
taken_next f xs i d now mid old lt n m = n ∙ ap (λ b. f (get_or xs i d) || b) m ∙ join (f (get_or xs i d)) (list_any f (take i xs)) old ∙ ap (λ b. b || old) (sym (any_take f xs i d lt))
  where
    join : (x y z : Bool) → (x || (y || z)) ≡ ((x || y) || z)
    join true y z = refl
    join false y z = refl

-- ---- a search past levels that are taken

module _ (end : ℕ) (next : List (Slot × Sides)) (spot : Spot) (free further : ℕ) (leads : Leads end next) (is : further ≡ level_at next (at_level spot free)) (up : 0 < further) where
  led : (free < level_at next (at_level spot free)) × (level_at next (at_level spot free) ≤ end) × ((k : ℕ) → free ≤ k → k < level_at next (at_level spot free) → 1 ≤ level_at next (at_level spot k))
  led = leads spot free (omega (arith, is, up))

  pub led_over : free < further
  led_over = let a : free < level_at next (at_level spot free) = led.0 in omega (arith, a, is)

  pub led_within : further ≤ end
  led_within = let a : level_at next (at_level spot free) ≤ end = led.1 in omega (arith, a, is)

  pub led_smaller : end - further < end - free
  led_smaller = omega (arith, led_over, led_within)

  pub led_first : (old : List (Slot × Sides)) (level : ℕ) → SameTaken old next → ((k : ℕ) → level ≤ k → k < free → nat_lt 0 (level_at old (at_level spot k)) ≡ true)
      → (k : ℕ) → level ≤ k → k < further → nat_lt 0 (level_at old (at_level spot k)) ≡ true
  led_first old level same before k low lt = elim (nat_lt k free) as (λ t. nat_lt k free ≡ t → nat_lt 0 (level_at old (at_level spot k)) ≡ true) [
    | true ↦ λ less. before k low (ltb-true k free less)
    | false ↦ λ more. let not_less : (k < free → ⊥) = λ lt'. true≢false (sym (lt-ltb k free lt') ∙ more) in
        sym (same (at_level spot k)) ∙ is_pos (level_at next (at_level spot k)) (led.2 k (omega (arith, not_less)) (omega (arith, lt, is)))
  ] refl

any_at : {X : Type 0} (f : X → Bool) (xs : List X) (i : ℕ) (d : X) → i < length xs → f (get_or xs i d) ≡ true → list_any f xs ≡ true
any_at f [] i d lt h = absurd (omega (arith, lt))
any_at f (x ∷ xs) zero d lt h = ap (λ b. b || list_any f xs) h
any_at f (x ∷ xs) (suc i) d lt h = ap (λ b. f x || b) (any_at f xs i d (omega (arith, lt)) h) ∙ or_true (f x)
  where
    or_true : (b : Bool) → (b || true) ≡ true
    or_true true = refl
    or_true false = refl

module _ (end : ℕ) (old next : List (Slot × Sides)) (touches : List Touch) (i : ℕ) (a : Touch) (w : Bool) (level free found : ℕ) (same : SameTaken old next)
    (lt : i < length touches) (is : a ≡ get_or touches i a) (way : w ≡ does_write a) (next_free : IsNextFree end next (spot_on a (not w) (Level free)) free found)
    (from : level ≤ free) (within : free ≤ max level end) where
  found_here : IsNextFree end next (asked_on a (Level free)) free found
  found_here = subst (λ t. IsNextFree end next (spot_on a (not t) (Level free)) free found) way next_free

  pub past_from : level ≤ found
  past_from = let x : free ≤ found = found_here.from in omega (arith, x, from)

  pub past_within : found ≤ max level end
  past_within = let x : found ≤ max free end = found_here.within in omega (arith, x, within)

  pub past_passed : ((k : ℕ) → level ≤ k → k < free → is_avoided old touches k ≡ true) → (k : ℕ) → level ≤ k → k < found → is_avoided old touches k ≡ true
  past_passed before k low less = elim (nat_lt k free) as (λ t. nat_lt k free ≡ t → is_avoided old touches k ≡ true) [
    | true ↦ λ lower. before k low (ltb-true k free lower)
    | false ↦ λ more. let not_less : (k < free → ⊥) = λ lt'. true≢false (sym (lt-ltb k free lt') ∙ more) in
        any_at (λ b. nat_lt 0 (level_at old (asked_on b (Level k)))) touches i a lt
        (ap (λ b. nat_lt 0 (level_at old (asked_on b (Level k)))) (sym is) ∙ sym (same (asked_on a (Level k))) ∙ found_here.first k (omega (arith, not_less)) less)
  ] refl

  pub past_still : (free ≡ level → is_avoided old (take i touches) level ≡ false) → found ≡ level → is_avoided old (take (i + 1) touches) level ≡ false
  past_still before e =
      let x : free ≤ found = found_here.from in
      let none : free ≡ level = omega (arith, x, from, e) in
      any_take (λ b. nat_lt 0 (level_at old (asked_on b (Level level)))) touches i a lt
      ∙ ap₂ (λ p q. p || q)
      (ap (λ b. nat_lt 0 (level_at old (asked_on b (Level level)))) (sym is) ∙ sym (same (asked_on a (Level level))) ∙ ap (λ n. nat_lt 0 (level_at next (asked_on a (Level n)))) (sym e) ∙ found_here.free)
      (before none)

avoided_same : (old next : List (Slot × Sides)) (touches : List Touch) (k : ℕ) → SameTaken old next → is_avoided next touches k ≡ is_avoided old touches k
avoided_same old next [] k same = refl
avoided_same old next (b ∷ touches) k same = ap₂ (λ p q. p || q) (same (asked_on b (Level k))) (avoided_same old next touches k same)

pub same_past : (end : ℕ) (old next : List (Slot × Sides)) (touches : List Touch) (level found : ℕ) → SameTaken old next → IsPast end next touches level found → IsPast end old touches level found
same_past end old next touches level found same past = record {
  from = past.from;
  within = past.within;
  passed = λ k low lt. sym (avoided_same old next touches k same) ∙ past.passed k low lt;
  same = λ e. sym (avoided_same old next touches level same) ∙ past.same e;
}

pub one_by_one : (end : ℕ) (old : List (Slot × Sides)) (touches : List Touch) (low level free : ℕ) → IsPast end old touches level free → ((k : ℕ) → low ≤ k → k < level → is_avoided old touches k ≡ true)
    → (k : ℕ) → low ≤ k → k < free → is_avoided old touches k ≡ true
one_by_one end old touches low level free past before k least lt = elim (nat_lt k level) as (λ t. nat_lt k level ≡ t → is_avoided old touches k ≡ true) [
  | true ↦ λ less. before k least (ltb-true k level less)
  | false ↦ λ more. let not_less : (k < level → ⊥) = λ lt'. true≢false (sym (lt-ltb k level lt') ∙ more) in past.passed k (omega (arith, not_less)) lt
] refl
