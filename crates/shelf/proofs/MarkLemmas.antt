-- Snapshots whose positions rise: the fronts of their list, and one that comes into its place.
use Rattle.std.proofs.Common.{◌≡◌, ℕ, zero, suc, ◌<◌, ◌≤◌, Bool, true, false, not, ◌&&◌, ◌==◌, cond, List, [], ◌∷◌, ◌++◌, length, map, take, drop, filter, nat_lt, refl, sym, ap, ◌∙◌, arith}
use Rattle.std.specs.List.{AllByRecursion}
use Rattle.std.specs.List.Sorted.{IsNonDecreasingBy, IsPartitionPoint}
use Rattle.std.proofs.lemmas.Bool.Decides.{nat_tests}
use Rattle.std.proofs.lemmas.List.{map-append}
use Rattle.std.proofs.lemmas.List.Elements.{All-from_recursion}
use Rattle.seal_log.specs.declared.place.Place.{Place}
use Rattle.shelf.specs.Marks.{MarksRise, with_mark}

-- ---- tests of a list

step : {X : Type 0} (r q p : Bool) (x : X) (xs : List X) (inner outer : List X) → inner ≡ outer → r ≡ (q && p) → (test : X → Bool) → test x ≡ p → filter test xs ≡ inner → filter test (cond q (x ∷ xs) xs) ≡ cond r (x ∷ outer) outer
step r true true x xs inner outer same is test here rest = ap (λ t. cond t (x ∷ filter test xs) (filter test xs)) here ∙ ap (λ l. x ∷ l) (rest ∙ same) ∙ sym (ap (λ t. cond t (x ∷ outer) outer) is)
step r true false x xs inner outer same is test here rest = ap (λ t. cond t (x ∷ filter test xs) (filter test xs)) here ∙ (rest ∙ same) ∙ sym (ap (λ t. cond t (x ∷ outer) outer) is)
step r false p x xs inner outer same is test here rest = (rest ∙ same) ∙ sym (ap (λ t. cond t (x ∷ outer) outer) is)

-- two tests, one after the other, are one
pub filter_filter : {X : Type 0} (p q r : X → Bool) → ((x : X) → r x ≡ (q x && p x)) → (xs : List X) → filter p (filter q xs) ≡ filter r xs
filter_filter p q r is [] = refl
filter_filter p q r is (x ∷ xs) = step (r x) (q x) (p x) x (filter q xs) (filter r xs) (filter r xs) refl (is x) p refl (filter_filter p q r is xs)

mapped : {X Y : Type 0} (f : X → Y) (t : Bool) (x : X) (xs : List X) → map f (cond t (x ∷ xs) xs) ≡ cond t (f x ∷ map f xs) (map f xs)
mapped f true x xs = refl
mapped f false x xs = refl

-- a test of what each is mapped to
pub map_filter : {X Y : Type 0} (f : X → Y) (p : Y → Bool) (xs : List X) → map f (filter (λ x. p (f x)) xs) ≡ filter p (map f xs)
map_filter f p [] = refl
map_filter f p (x ∷ xs) = mapped f (p (f x)) x (filter (λ y. p (f y)) xs) ∙ ap (λ l. cond (p (f x)) (f x ∷ l) l) (map_filter f p xs)

-- what passes stands before what does not
pub parted_front : {X : Type 0} (p : X → Bool) (xs : List X) (i : ℕ) → i ≤ length xs → IsPartitionPoint (λ y. p y ≡ true) (λ y. p y ≡ false) xs i → take i xs ≡ filter p xs
parted_front p [] zero le parted = refl
parted_front p [] (suc i) le parted = absurd (omega arith)
parted_front p (x ∷ xs) zero le parted =
    parted_front p xs zero (omega arith) ((λ k d low high. absurd (omega arith)), (λ k d low high. parted.1 (suc k) d (omega arith) (omega arith)))
    ∙ sym (ap (λ t. cond t (x ∷ filter p xs) (filter p xs)) (parted.1 0 x (omega arith) (omega arith)))
parted_front p (x ∷ xs) (suc i) le parted =
    ap (λ l. x ∷ l) (parted_front p xs i (omega arith) ((λ k d low high. parted.0 (suc k) d (omega arith) (omega arith)), (λ k d low high. parted.1 (suc k) d (omega arith) (omega arith))))
    ∙ sym (ap (λ t. cond t (x ∷ filter p xs) (filter p xs)) (parted.0 0 x (omega arith) (omega arith)))

pub parted_rest : {X : Type 0} (p : X → Bool) (xs : List X) (i : ℕ) → i ≤ length xs → IsPartitionPoint (λ y. p y ≡ true) (λ y. p y ≡ false) xs i → drop i xs ≡ filter (λ y. not (p y)) xs
parted_rest p [] zero le parted = refl
parted_rest p [] (suc i) le parted = absurd (omega arith)
parted_rest p (x ∷ xs) zero le parted =
    ap (λ l. x ∷ l) (parted_rest p xs zero (omega arith) ((λ k d low high. absurd (omega arith)), (λ k d low high. parted.1 (suc k) d (omega arith) (omega arith))))
    ∙ sym (ap (λ t. cond (not t) (x ∷ filter (λ y. not (p y)) xs) (filter (λ y. not (p y)) xs)) (parted.1 0 x (omega arith) (omega arith)))
parted_rest p (x ∷ xs) (suc i) le parted =
    parted_rest p xs i (omega arith) ((λ k d low high. parted.0 (suc k) d (omega arith) (omega arith)), (λ k d low high. parted.1 (suc k) d (omega arith) (omega arith)))
    ∙ sym (ap (λ t. cond (not t) (x ∷ filter (λ y. not (p y)) xs) (filter (λ y. not (p y)) xs)) (parted.0 0 x (omega arith) (omega arith)))

-- ---- each of a list

all_kept : {X : Type 0} (P : X → Type 0) (t : Bool) (x : X) (xs : List X) → P x → AllByRecursion P xs → AllByRecursion P (cond t (x ∷ xs) xs)
all_kept P true x xs here rest = (here, rest)
all_kept P false x xs here rest = rest

all_filter : {X : Type 0} (P : X → Type 0) (p : X → Bool) (xs : List X) → AllByRecursion P xs → AllByRecursion P (filter p xs)
all_filter P p [] all = tt
all_filter P p (x ∷ xs) all = all_kept P (p x) x (filter p xs) all.0 (all_filter P p xs all.1)

passed : {X : Type 0} (P : X → Type 0) (t : Bool) (x : X) (xs : List X) → (t ≡ true → P x) → AllByRecursion P xs → AllByRecursion P (cond t (x ∷ xs) xs)
passed P true x xs here rest = (here refl, rest)
passed P false x xs here rest = rest

all_passed : {X : Type 0} (P : X → Type 0) (p : X → Bool) → ((x : X) → p x ≡ true → P x) → (xs : List X) → AllByRecursion P (filter p xs)
all_passed P p means [] = tt
all_passed P p means (x ∷ xs) = passed P (p x) x (filter p xs) (means x) (all_passed P p means xs)

all_more : {X : Type 0} (P Q : X → Type 0) → ((x : X) → P x → Q x) → (xs : List X) → AllByRecursion P xs → AllByRecursion Q xs
all_more P Q means [] all = tt
all_more P Q means (x ∷ xs) all = (means x all.0, all_more P Q means xs all.1)

all_joined : {X : Type 0} (P : X → Type 0) (xs ys : List X) → AllByRecursion P xs → AllByRecursion P ys → AllByRecursion P (xs ++ ys)
all_joined P [] ys one other = other
all_joined P (x ∷ xs) ys one other = (one.0, all_joined P xs ys one.1 other)

-- ---- positions that rise

abbrev Marks : Type 0
Marks = List (ℕ × Place)

rise_kept : (t : Bool) (m : ℕ × Place) (ms : Marks) → AllByRecursion (λ (n : ℕ × Place). m.0 < n.0) ms → MarksRise ms → MarksRise (cond t (m ∷ ms) ms)
rise_kept true m ms below rise = (below, rise)
rise_kept false m ms below rise = rise

-- some of them rise too
pub rise_filter : (p : ℕ × Place → Bool) (ms : Marks) → MarksRise ms → MarksRise (filter p ms)
rise_filter p [] rise = tt
rise_filter p (m ∷ ms) rise = rise_kept (p m) m (filter p ms) (all_filter (λ (n : ℕ × Place). m.0 < n.0) p ms rise.0) (rise_filter p ms rise.1)

-- one between two lists
rise_joined : (before after : Marks) (here : ℕ × Place) → MarksRise before → MarksRise after → AllByRecursion (λ (m : ℕ × Place). m.0 < here.0) before → AllByRecursion (λ (m : ℕ × Place). here.0 < m.0) after → MarksRise (before ++ here ∷ after)
rise_joined [] after here one other below above = (above, other)
rise_joined (m ∷ before) after here one other below above = (
  all_joined (λ (n : ℕ × Place). m.0 < n.0) before (here ∷ after) one.0 (below.0, all_more (λ (n : ℕ × Place). here.0 < n.0) (λ (n : ℕ × Place). m.0 < n.0) (λ n lt. omega arith) after above),
  rise_joined before after here one.1 other below.1 above,
)

-- one that comes into its place
pub rise_with : (position : ℕ) (place : Place) (ms : Marks) → MarksRise ms → MarksRise (with_mark position place ms)
rise_with position place ms rise =
    rise_joined (filter (λ m. nat_lt m.0 position) ms) (filter (λ m. nat_lt position m.0) ms) (position, place)
    (rise_filter (λ m. nat_lt m.0 position) ms rise) (rise_filter (λ m. nat_lt position m.0) ms rise)
    (all_passed (λ (m : ℕ × Place). m.0 < position) (λ m. nat_lt m.0 position) (λ m e. grind (arith, nat_tests)) ms)
    (all_passed (λ (m : ℕ × Place). position < m.0) (λ m. nat_lt position m.0) (λ m e. grind (arith, nat_tests)) ms)

-- the positions do not fall along the list
pub rise_along : (ms : Marks) → MarksRise ms → IsNonDecreasingBy (λ (m : ℕ × Place). m.0) ms
rise_along [] rise i j d le lt = absurd (omega arith)
rise_along (m ∷ ms) rise zero zero d le lt = omega arith
rise_along (m ∷ ms) rise zero (suc j) d le lt = let above = All-from_recursion (λ (n : ℕ × Place). m.0 < n.0) ms rise.0 j d (omega arith) in omega arith
rise_along (m ∷ ms) rise (suc i) zero d le lt = absurd (omega arith)
rise_along (m ∷ ms) rise (suc i) (suc j) d le lt = rise_along ms rise.1 i j d (omega arith) (omega arith)

-- what is left without a position, cut where the position would stand, with the snapshot between
pub put_between : (position : ℕ) (place : Place) (ms rest : Marks) (at : ℕ) → rest ≡ filter (λ m. not (m.0 == position)) ms → take at rest ≡ filter (λ m. nat_lt m.0 position) rest → drop at rest ≡ filter (λ m. not (nat_lt m.0 position)) rest → take at rest ++ (position, place) ∷ drop at rest ≡ with_mark position place ms
put_between position place ms rest at is front behind =
    let before : take at rest ≡ filter (λ m. nat_lt m.0 position) ms =
    front ∙ ap (filter (λ (m : ℕ × Place). nat_lt m.0 position)) is
    ∙ filter_filter (λ (m : ℕ × Place). nat_lt m.0 position) (λ m. not (m.0 == position)) (λ m. nat_lt m.0 position) (λ m. lower m.0 position) ms in
    let after : drop at rest ≡ filter (λ m. nat_lt position m.0) ms =
    behind ∙ ap (filter (λ (m : ℕ × Place). not (nat_lt m.0 position))) is
    ∙ filter_filter (λ (m : ℕ × Place). not (nat_lt m.0 position)) (λ m. not (m.0 == position)) (λ m. nat_lt position m.0) (λ m. higher m.0 position) ms in
    rw (before, after) refl
  where
    lower : (a b : ℕ) → nat_lt a b ≡ (not (a == b) && nat_lt a b)
    lower a b = grind (arith, nat_tests)

    higher : (a b : ℕ) → nat_lt b a ≡ (not (a == b) && not (nat_lt a b))
    higher a b = grind (arith, nat_tests)

-- the positions of the snapshots, with one in its place
pub positions_with : (position : ℕ) (place : Place) (ms : Marks) → map (λ (m : ℕ × Place). m.0) (with_mark position place ms) ≡ filter (λ p. nat_lt p position) (map (λ (m : ℕ × Place). m.0) ms) ++ position ∷ filter (λ p. nat_lt position p) (map (λ (m : ℕ × Place). m.0) ms)
positions_with position place ms =
    map-append (λ (m : ℕ × Place). m.0) (filter (λ m. nat_lt m.0 position) ms) ((position, place) ∷ filter (λ m. nat_lt position m.0) ms)
    ∙ rw (map_filter (λ (m : ℕ × Place). m.0) (λ p. nat_lt p position) ms, map_filter (λ (m : ℕ × Place). m.0) (λ p. nat_lt position p) ms) refl
