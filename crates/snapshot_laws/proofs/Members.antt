-- Members of lists, and places that rise.
use Rattle.std.proofs.Common.{◌≡◌, ◌⊎◌, inl, inr, ℕ, zero, suc, ◌-◌, ◌<◌, ◌≤◌, Bool, true, false, cond, List, [], ◌∷◌, ◌++◌, length, get_or, filter, nat_le, nat_lt, refl, ap, sym, subst, ◌∙◌, arith, le-leb, leb-true, add-one, ltb-true, ltb-false}
use Rattle.std.specs.List.{AllPairs, Contains}
use Rattle.std.specs.List.Sorted.{IsStrictlyIncreasing}
use Rattle.std.proofs.lemmas.List.Kept.{AllPairs-from_increasing}
use Rattle.store_kept.specs.Kept.{newest_at, not_behind, placed}

-- ---- members

-- a number is one of the list's
abbrev pub In : ℕ → List ℕ → Type 0
In n [] = ⊥
In n (x ∷ xs) = (x ≡ n) ⊎ In n xs

in_at : (n : ℕ) (xs : List ℕ) (k : ℕ) → k < length xs → get_or xs k n ≡ n → In n xs
in_at n [] k less here = absurd (omega arith)
in_at n (x ∷ xs) zero less here = inl here
in_at n (x ∷ xs) (suc k) less here = inr (in_at n xs k (omega arith) here)

pub in_of : (n : ℕ) (xs : List ℕ) → Contains xs n → In n xs
in_of n xs c = in_at n xs c.0 c.1 c.2

pub contains_of : (n : ℕ) (xs : List ℕ) → In n xs → Contains xs n
contains_of n [] wrong = absurd wrong
contains_of n (x ∷ xs) (inl here) = (zero, omega arith, here)
contains_of n (x ∷ xs) (inr behind) = let c = contains_of n xs behind in (suc c.0, (let less : c.0 < length xs = c.1 in omega arith), c.2)

in_left : (n : ℕ) (xs ys : List ℕ) → In n xs → In n (xs ++ ys)
in_left n [] ys wrong = absurd wrong
in_left n (x ∷ xs) ys (inl here) = inl here
in_left n (x ∷ xs) ys (inr behind) = inr (in_left n xs ys behind)

in_right : (n : ℕ) (xs ys : List ℕ) → In n ys → In n (xs ++ ys)
in_right n [] ys there = there
in_right n (x ∷ xs) ys there = inr (in_right n xs ys there)

in_either : (n : ℕ) (xs ys : List ℕ) → In n (xs ++ ys) → In n xs ⊎ In n ys
in_either n [] ys there = inr there
in_either n (x ∷ xs) ys (inl here) = inl (inl here)
in_either n (x ∷ xs) ys (inr behind) = by (in_either n xs ys behind)
  where
    by : In n xs ⊎ In n ys → ((x ≡ n) ⊎ In n xs) ⊎ In n ys
    by (inl left) = inl (inr left)
    by (inr right) = inr right

-- ---- those that pass a test

passes : (p : ℕ → Bool) (n : ℕ) (xs : List ℕ) → In n xs → p n ≡ true → In n (filter p xs)
passes p n [] wrong e = absurd wrong
passes p n (x ∷ xs) there e = by (p x) refl there (λ behind. passes p n xs behind e)
  where
    by : (b : Bool) → p x ≡ b → (x ≡ n) ⊎ In n xs → (In n xs → In n (filter p xs)) → In n (cond b (x ∷ filter p xs) (filter p xs))
    by true f (inl here) more = inl here
    by true f (inr behind) more = inr (more behind)
    by false f (inl here) more = absurd (let same : p x ≡ true = ap p here ∙ e in cc)
    by false f (inr behind) more = more behind

passed : (p : ℕ → Bool) (n : ℕ) (xs : List ℕ) → In n (filter p xs) → In n xs × (p n ≡ true)
passed p n [] wrong = absurd wrong
passed p n (x ∷ xs) there = by (p x) refl there (λ behind. passed p n xs behind)
  where
    by : (b : Bool) → p x ≡ b → In n (cond b (x ∷ filter p xs) (filter p xs)) → (In n (filter p xs) → In n xs × (p n ≡ true)) → ((x ≡ n) ⊎ In n xs) × (p n ≡ true)
    by true f (inl here) more = (inl here, sym (ap p here) ∙ f)
    by true f (inr behind) more = let both = more behind in (inr both.0, both.1)
    by false f behind more = let both = more behind in (inr both.0, both.1)

-- those not behind a place
pub stays : (place n : ℕ) (xs : List ℕ) → In n xs → n ≤ place → In n (not_behind place xs)
stays place n xs there le = passes (λ (x : ℕ). nat_le x place) n xs there (le-leb n place le)

pub stayed : (place n : ℕ) (xs : List ℕ) → In n (not_behind place xs) → In n xs × (n ≤ place)
stayed place n xs there = let both = passed (λ (x : ℕ). nat_le x place) n xs there in (both.0, leb-true n place both.1)

-- ---- with one more in its place

pub placed_itself : (n : ℕ) (xs : List ℕ) → In n (placed n xs)
placed_itself n xs = in_right n (filter (λ (x : ℕ). nat_lt x n) xs) (n ∷ filter (λ (x : ℕ). nat_lt n x) xs) (inl refl)

pub placed_others : (n m : ℕ) (xs : List ℕ) → In m xs → In m (placed n xs)
placed_others n m xs there = by (nat_lt m n) (nat_lt n m) refl refl
  where
    by : (low high : Bool) → nat_lt m n ≡ low → nat_lt n m ≡ high → In m (placed n xs)
    by true high e f = in_left m (filter (λ (x : ℕ). nat_lt x n) xs) (n ∷ filter (λ (x : ℕ). nat_lt n x) xs) (passes (λ (x : ℕ). nat_lt x n) m xs there e)
    by false true e f = in_right m (filter (λ (x : ℕ). nat_lt x n) xs) (n ∷ filter (λ (x : ℕ). nat_lt n x) xs) (inr (passes (λ (x : ℕ). nat_lt n x) m xs there f))
    by false false e f =
        let less : n ≤ m = ltb-false m n e in
        let more : m ≤ n = ltb-false n m f in
        let same : n ≡ m = omega arith in
        subst (λ (k : ℕ). In k (placed n xs)) same (placed_itself n xs)

pub placed_is : (n m : ℕ) (xs : List ℕ) → In m (placed n xs) → (n ≡ m) ⊎ In m xs
placed_is n m xs there = by (in_either m (filter (λ (x : ℕ). nat_lt x n) xs) (n ∷ filter (λ (x : ℕ). nat_lt n x) xs) there)
  where
    by : In m (filter (λ (x : ℕ). nat_lt x n) xs) ⊎ ((n ≡ m) ⊎ In m (filter (λ (x : ℕ). nat_lt n x) xs)) → (n ≡ m) ⊎ In m xs
    by (inl low) = inr (passed (λ (x : ℕ). nat_lt x n) m xs low).0
    by (inr (inl here)) = inl here
    by (inr (inr high)) = inr (passed (λ (x : ℕ). nat_lt n x) m xs high).0

-- ---- rising

-- each number is below all behind it
abbrev pub Rises : List ℕ → Type 0
Rises [] = Unit {0}
Rises (x ∷ xs) = ((n : ℕ) → In n xs → x < n) × Rises xs

in_at_place : (xs : List ℕ) (k d : ℕ) → k < length xs → In (get_or xs k d) xs
in_at_place [] k d less = absurd (omega arith)
in_at_place (x ∷ xs) zero d less = inl refl
in_at_place (x ∷ xs) (suc k) d less = inr (in_at_place xs k d (omega arith))

next_above : (xs : List ℕ) (k : ℕ) → Rises xs → suc k < length xs → get_or xs k 0 < get_or xs (suc k) 0
next_above [] k rises less = absurd (omega arith)
next_above (x ∷ xs) zero rises less = rises.0 (get_or xs zero 0) (in_at_place xs zero 0 (omega arith))
next_above (x ∷ xs) (suc k) rises less = next_above xs k rises.1 (omega arith)

pub increasing_of : (xs : List ℕ) → Rises xs → IsStrictlyIncreasing xs
increasing_of xs rises k less = subst (λ (j : ℕ). get_or xs k 0 < get_or xs j 0) (sym (add-one k)) (next_above xs k rises (omega arith))

rises_by : (xs : List ℕ) → AllPairs (λ (a b : ℕ). a < b) xs → Rises xs
rises_by [] pairs = tt
rises_by (x ∷ xs) pairs = (
  (λ n there. let c = contains_of n xs there in let less : c.0 < length xs = c.1 in subst (λ (m : ℕ). x < m) c.2 (pairs zero (suc c.0) n (omega arith) (omega arith))),
  rises_by xs (λ i j d less within. pairs (suc i) (suc j) d (omega arith) (omega arith)),
)

pub rises_of : (xs : List ℕ) → IsStrictlyIncreasing xs → Rises xs
rises_of xs increasing = rises_by xs (AllPairs-from_increasing xs increasing)

rises_filtered : (p : ℕ → Bool) (xs : List ℕ) → Rises xs → Rises (filter p xs)
rises_filtered p [] rises = tt
rises_filtered p (x ∷ xs) rises = elim (p x) as (λ b. Rises (cond b (x ∷ filter p xs) (filter p xs))) [
  | true ↦ ((λ n there. rises.0 n (passed p n xs there).0), rises_filtered p xs rises.1)
  | false ↦ rises_filtered p xs rises.1
]

pub rises_not_behind : (place : ℕ) (xs : List ℕ) → Rises xs → Rises (not_behind place xs)
rises_not_behind place xs rises = rises_filtered (λ (x : ℕ). nat_le x place) xs rises

rises_joined : (xs ys : List ℕ) → Rises xs → Rises ys → ((a b : ℕ) → In a xs → In b ys → a < b) → Rises (xs ++ ys)
rises_joined [] ys first second between = second
rises_joined (x ∷ xs) ys first second between = (
  (λ n there. by n (in_either n xs ys there)),
  rises_joined xs ys first.1 second (λ a b left right. between a b (inr left) right),
)
  where
    by : (n : ℕ) → In n xs ⊎ In n ys → x < n
    by n (inl left) = first.0 n left
    by n (inr right) = between x n (inl refl) right

pub rises_placed : (n : ℕ) (xs : List ℕ) → Rises xs → Rises (placed n xs)
rises_placed n xs rises =
    rises_joined (filter (λ (x : ℕ). nat_lt x n) xs) (n ∷ filter (λ (x : ℕ). nat_lt n x) xs) (rises_filtered (λ (x : ℕ). nat_lt x n) xs rises)
    ((λ m there. above m there), rises_filtered (λ (x : ℕ). nat_lt n x) xs rises)
    (λ a b left right. between a b (below a left) right)
  where
    above : (m : ℕ) → In m (filter (λ (x : ℕ). nat_lt n x) xs) → n < m
    above m there = ltb-true n m (passed (λ (x : ℕ). nat_lt n x) m xs there).1

    below : (m : ℕ) → In m (filter (λ (x : ℕ). nat_lt x n) xs) → m < n
    below m there = ltb-true m n (passed (λ (x : ℕ). nat_lt x n) m xs there).1

    between : (a b : ℕ) → a < n → (n ≡ b) ⊎ In b (filter (λ (x : ℕ). nat_lt n x) xs) → a < b
    between a b low (inl here) = omega arith
    between a b low (inr high) = let more : n < b = above b high in omega arith

-- ---- the last

last_behind : (x y : ℕ) (xs : List ℕ) → get_or (x ∷ y ∷ xs) (length (x ∷ y ∷ xs) - 1) 0 ≡ get_or (y ∷ xs) (length (y ∷ xs) - 1) 0
last_behind x y xs = let one : length (x ∷ y ∷ xs) - 1 ≡ suc (length (y ∷ xs) - 1) = omega arith in ap (λ (k : ℕ). get_or (x ∷ y ∷ xs) k 0) one

last_in : (xs : List ℕ) → (get_or xs (length xs - 1) 0 ≡ 0) ⊎ In (get_or xs (length xs - 1) 0) xs
last_in [] = inl refl
last_in (x ∷ xs) = inr (in_at_place (x ∷ xs) (length (x ∷ xs) - 1) 0 (omega arith))

last_highest : (xs : List ℕ) (n : ℕ) → Rises xs → In n xs → n ≤ get_or xs (length xs - 1) 0
last_highest [] n rises wrong = absurd wrong
last_highest (x ∷ []) n rises (inl here) = omega arith
last_highest (x ∷ []) n rises (inr wrong) = absurd wrong
last_highest (x ∷ y ∷ xs) n rises (inl here) =
    let less : x < y = rises.0 y (inl refl) in
    let more : y ≤ get_or (y ∷ xs) (length (y ∷ xs) - 1) 0 = last_highest (y ∷ xs) y rises.1 (inl refl) in
    omega (arith, last_behind x y xs)
last_highest (x ∷ y ∷ xs) n rises (inr behind) = subst (λ (m : ℕ). n ≤ m) (sym (last_behind x y xs)) (last_highest (y ∷ xs) n rises.1 behind)

-- of places
pub newest_one : (place : ℕ) (places : List ℕ) → (newest_at place places ≡ 0) ⊎ In (newest_at place places) places
newest_one place places = by (last_in (not_behind place places))
  where
    by : (newest_at place places ≡ 0) ⊎ In (newest_at place places) (not_behind place places) → (newest_at place places ≡ 0) ⊎ In (newest_at place places) places
    by (inl none) = inl none
    by (inr one) = inr (stayed place (newest_at place places) places one).0

pub newest_before : (place : ℕ) (places : List ℕ) → newest_at place places ≤ place
newest_before place places = by (last_in (not_behind place places))
  where
    by : (newest_at place places ≡ 0) ⊎ In (newest_at place places) (not_behind place places) → newest_at place places ≤ place
    by (inl none) = omega arith
    by (inr one) = (stayed place (newest_at place places) places one).1

pub newest_last : (place : ℕ) (places : List ℕ) → Rises places → (n : ℕ) → In n places → n ≤ place → n ≤ newest_at place places
newest_last place places rises n there le =
    last_highest (not_behind place places) n (rises_not_behind place places rises) (stays place n places there le)
