-- Numbers among others, and what stands beside numbers.
use Rattle.std.proofs.Common.{◌≡◌, ◌+◌, ◌<◌, ◌==◌, ◌∷◌, ◌++◌, ◌||◌, ℕ, Bool, cond, true, false, arith, refl, sym, ◌∙◌, ap, ap₂, List, [], Option, Some, None, take, length, get_or, find, reverse, option_map, is_some, map}
use Rattle.std.specs.List.{list_any, slice_get}
use Rattle.std.specs.BTreeMap.{is_at}
use Rattle.std.specs.Ordering.{nat_cmp}
use Rattle.std.proofs.lemmas.Bool.Decides.{nat_tests}
use Rattle.std.proofs.lemmas.List.{take_more, reverse-append}
use Rattle.std.proofs.lemmas.List.Folds.{list_any-append}
use Rattle.std.proofs.lemmas.Option.{slice_get-get_or}
use Rattle.repair_desk.specs.Lookups.{text_at}
use Rattle.repair_desk.specs.Repairs.{is_among, text_asked}

-- numbers compare alike where they are one
pub at_number : (a b : ℕ) → is_at (nat_cmp a) b ≡ (a == b)
at_number a b = grind (arith, nat_tests)

-- a set has the numbers of its list
pub has_number : (n : ℕ) (xs : List ℕ) → list_any (is_at (nat_cmp n)) xs ≡ is_among xs n
has_number n [] = refl
has_number n (x ∷ xs) = ap₂ (λ a b. a || b) (at_number n x) (has_number n xs)

flipped : (a b : ℕ) → (a == b) ≡ (b == a)
flipped a b = grind (arith, nat_tests)

either : (a b : Bool) → cond a true b ≡ (b || a)
either true true = refl
either true false = refl
either false true = refl
either false false = refl

pub one_more : (a n : ℕ) (old new : List ℕ) → list_any (is_at (nat_cmp n)) new ≡ cond (is_at (nat_cmp a) n) true (list_any (is_at (nat_cmp n)) old) → is_among new n ≡ (is_among old n || (n == a))
one_more a n old new h =
    sym (has_number n new) ∙ h ∙ either (is_at (nat_cmp a) n) (list_any (is_at (nat_cmp n)) old)
    ∙ ap₂ (λ x y. x || y) (has_number n old) (at_number a n ∙ flipped a n)

text_more : (xs : List (ℕ × List ℕ)) (x : ℕ × List ℕ) (n : ℕ) → text_asked (xs ++ x ∷ []) n ≡ cond (x.0 == n) (Some x.1) (text_asked xs n)
text_more xs x n =
    ap (λ (rs : List (ℕ × List ℕ)). option_map (λ (r : ℕ × List ℕ). r.1) (find (λ (r : ℕ × List ℕ). r.0 == n) rs)) (reverse-append xs (x ∷ []))
    ∙ elim (x.0 == n) as (λ b. option_map (λ (r : ℕ × List ℕ). r.1) (cond b (Some x) (find (λ (r : ℕ × List ℕ). r.0 == n) (reverse xs))) ≡ cond b (Some x.1) (text_asked xs n)) [ true ↦ refl | false ↦ refl ]

beside : (rs : List (ℕ × List ℕ)) (i : ℕ) (x : ℕ × List ℕ) (b c : Bool) (old : Option ℕ) (before : Option (List ℕ)) → slice_get rs i ≡ Some x → b ≡ c → text_at rs old ≡ before
    → text_at rs (cond b (Some i) old) ≡ cond c (Some x.1) before
beside rs i x true true old before here e h = ap (option_map (λ (r : ℕ × List ℕ). r.1)) here
beside rs i x false false old before here e h = h
beside rs i x true false old before here e h = cc
beside rs i x false true old before here e h = cc

-- the place of one more text
pub one_more_place : (rs : List (ℕ × List ℕ)) (i n : ℕ) (x : ℕ × List ℕ) (new old : Option ℕ) → i < length rs → x ≡ get_or rs i x → new ≡ cond (is_at (nat_cmp x.0) n) (Some i) old
    → text_at rs old ≡ text_asked (take i rs) n → text_at rs new ≡ text_asked (take (i + 1) rs) n
one_more_place rs i n x new old lt is h before =
    ap (text_at rs) h ∙ beside rs i x _ _ old _ (slice_get-get_or rs i x lt ∙ ap Some (sym is)) (at_number x.0 n) before
    ∙ sym (ap (λ (xs : List (ℕ × List ℕ)). text_asked xs n) (take_more rs i x lt ∙ ap (λ (y : ℕ × List ℕ). take i rs ++ y ∷ []) (sym is)) ∙ text_more (take i rs) x n)

-- ---- whether a text is asked for

found : {A : Type 0} (p : A → Bool) (xs : List A) → is_some (find p xs) ≡ list_any p xs
found p [] = refl
found {A = A} p (x ∷ xs) = elim (p x) as (λ b. is_some (cond {A = Option A} b (Some x) (find p xs)) ≡ (b || list_any p xs)) [ true ↦ refl | false ↦ found p xs ]

mapped : {A B : Type 0} (f : A → B) (o : Option A) → is_some (option_map f o) ≡ is_some o
mapped f None = refl
mapped f (Some x) = refl

turned : (a b : Bool) → (a || (b || false)) ≡ (b || a)
turned true true = refl
turned true false = refl
turned false true = refl
turned false false = refl

any_reversed : {A : Type 0} (p : A → Bool) (xs : List A) → list_any p (reverse xs) ≡ list_any p xs
any_reversed p [] = refl
any_reversed p (x ∷ xs) =
    ap (list_any p) (reverse-append (x ∷ []) xs) ∙ list_any-append p (reverse xs) (x ∷ []) ∙ turned (list_any p (reverse xs)) (p x)
    ∙ ap (λ b. p x || b) (any_reversed p xs)

by_number : (n : ℕ) (rs : List (ℕ × List ℕ)) → list_any (λ (r : ℕ × List ℕ). r.0 == n) rs ≡ is_among (map (λ (r : ℕ × List ℕ). r.0) rs) n
by_number n [] = refl
by_number n (r ∷ rs) = ap₂ (λ a b. a || b) (flipped r.0 n) (by_number n rs)

-- a text is asked for the numbers that stand beside one
pub is_asked : (replaces : List (ℕ × List ℕ)) (n : ℕ) → is_among (map (λ (r : ℕ × List ℕ). r.0) replaces) n ≡ is_some (text_asked replaces n)
is_asked replaces n =
    sym (by_number n replaces) ∙ sym (any_reversed (λ (r : ℕ × List ℕ). r.0 == n) replaces) ∙ sym (found (λ (r : ℕ × List ℕ). r.0 == n) (reverse replaces))
    ∙ sym (mapped (λ (r : ℕ × List ℕ). r.1) (find (λ (r : ℕ × List ℕ). r.0 == n) (reverse replaces)))
