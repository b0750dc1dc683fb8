-- Answers that are put at their places.
use Rattle.std.proofs.Common.{◌≡◌, ℕ, zero, suc, ◌+◌, ◌<◌, Bool, true, false, ◌||◌, ◌==◌, List, [], ◌∷◌, ◌++◌, map, length, Option, Some, slice_get, slice_set, get_or, refl, sym, ap, ap₂, subst, ◌∙◌, arith, true≢false, eqb-true, eq-eqb, length-append, ◌⊎◌, inl, inr}
use Rattle.std.specs.List.{All, AllByRecursion, enumerate_from, list_any}
use Rattle.std.specs.List.Sorted.{IsPermutation}
use Rattle.std.proofs.lemmas.List.Sorted.{IsPermutation-sym}
use Rattle.std.proofs.lemmas.Map.Views.{All-map-IsPermutation}
use Rattle.std.proofs.lemmas.Option.{same_Some, slice_get_within}
use Rattle.verb_core.specs.declared.item.Shown.{Shown}
use Rattle.replay_crew.specs.Working.{put_each}
use Rattle.replay_crew.proofs.Turning.{append_assoc}

-- ---- lists

get_set_same : {X : Type 0} (xs : List X) (i : ℕ) (x : X) → i < length xs → slice_get (slice_set xs i x) i ≡ Some x
get_set_same [] i x h = absurd (omega (arith, h))
get_set_same (y ∷ xs) zero x h = refl
get_set_same (y ∷ xs) (suc i) x h = get_set_same xs i x (omega (arith, h))

get_set_other : {X : Type 0} (xs : List X) (i j : ℕ) (x : X) → (i ≡ j → ⊥) → slice_get (slice_set xs i x) j ≡ slice_get xs j
get_set_other [] i j x h = refl
get_set_other (y ∷ xs) zero zero x h = absurd (h refl)
get_set_other (y ∷ xs) zero (suc j) x h = refl
get_set_other (y ∷ xs) (suc i) zero x h = refl
get_set_other (y ∷ xs) (suc i) (suc j) x h = get_set_other xs i j x (λ e. h (ap suc e))

length_set : {X : Type 0} (xs : List X) (i : ℕ) (x : X) → length (slice_set xs i x) ≡ length xs
length_set [] i x = refl
length_set (y ∷ xs) zero x = refl
length_set (y ∷ xs) (suc i) x = ap suc (length_set xs i x)

-- lists of one length with the same at each place are the same
same_lists : {X : Type 0} (xs ys : List X) → length ys ≡ length xs → ((n : ℕ) (x : X) → slice_get xs n ≡ Some x → slice_get ys n ≡ Some x) → ys ≡ xs
same_lists [] [] long h = refl
same_lists [] (y ∷ ys) long h = absurd (omega (arith, long))
same_lists (x ∷ xs) [] long h = absurd (omega (arith, long))
same_lists (x ∷ xs) (y ∷ ys) long h = ap₂ (λ z zs. z ∷ zs) (same_Some y x (h zero x refl)) (same_lists xs ys (omega (arith, long)) (λ n z is. h (suc n) z is))

-- ---- answers at their places

-- an answer is the one of its place
abbrev IsAnswer : List Shown → ℕ × Shown → Type 0
IsAnswer xs p = slice_get xs p.0 ≡ Some p.1

abbrev is_at : ℕ → ℕ × Shown → Bool
is_at n p = p.0 == n

put_one : (xs : List Shown) (told : List (ℕ × Shown)) (shows : List Shown) (n : ℕ) (x : Shown) → slice_get xs n ≡ Some x → AllByRecursion (IsAnswer xs) told → n < length shows
    → (list_any (is_at n) told ≡ true) ⊎ (slice_get shows n ≡ Some x) → slice_get (put_each told shows) n ≡ Some x
put_one xs [] shows n x is all h (inl none) = absurd (true≢false (sym none))
put_one xs [] shows n x is all h (inr there) = there
put_one xs (p ∷ told) shows n x is all h at = elim (p.0 == n) as (λ b. (p.0 == n) ≡ b → ((b || list_any (is_at n) told) ≡ true) ⊎ (slice_get shows n ≡ Some x) → slice_get (put_each told (slice_set shows p.0 p.1)) n ≡ Some x) [
  | true ↦ λ here _.
      let same : p.0 ≡ n = eqb-true p.0 n here in
      let answer : p.1 ≡ x = same_Some p.1 x (sym all.0 ∙ ap (slice_get xs) same ∙ is) in
      put_one xs told (slice_set shows p.0 p.1) n x is all.1 (subst (λ m. n < m) (sym (length_set shows p.0 p.1)) h)
      (inr (ap₂ (λ k y. slice_get (slice_set shows k y) n) same answer ∙ get_set_same shows n x h))
  | false ↦ λ other rest. put_one xs told (slice_set shows p.0 p.1) n x is all.1 (subst (λ m. n < m) (sym (length_set shows p.0 p.1)) h) (later other rest)
] refl at
  where
    later : (p.0 == n) ≡ false → (list_any (is_at n) told ≡ true) ⊎ (slice_get shows n ≡ Some x) → (list_any (is_at n) told ≡ true) ⊎ (slice_get (slice_set shows p.0 p.1) n ≡ Some x)
    later other (inl there) = inl there
    later other (inr there) = inr (get_set_other shows p.0 n p.1 (λ same. true≢false (sym (eq-eqb p.0 n same) ∙ other)) ∙ there)

pub length_put : (told : List (ℕ × Shown)) (shows : List Shown) → length (put_each told shows) ≡ length shows
length_put [] shows = refl
length_put (p ∷ told) shows = length_put told (slice_set shows p.0 p.1) ∙ length_set shows p.0 p.1

-- ---- all answers

abbrev answer_there : List Shown → ℕ × Shown → Option Shown × Option Shown
answer_there xs p = (slice_get xs p.0, Some p.1)

abbrev agree : Option Shown × Option Shown → Type 0
agree q = q.0 ≡ q.1

from_places : {X Y : Type 0} (f : X → Y) (P : Y → Type 0) (xs : List X) → All P (map f xs) → AllByRecursion (λ x. P (f x)) xs
from_places f P [] all = tt
from_places f P (x ∷ xs) all = (all zero (f x) (omega arith), from_places f P xs (λ k d h. all (suc k) d (omega (arith, h))))

in_order : (front : List Shown) (n : ℕ) (xs : List Shown) → n ≡ length front → (k : ℕ) (d : _) → k < length (map (answer_there (front ++ xs)) (enumerate_from n xs)) → agree (get_or (map (answer_there (front ++ xs)) (enumerate_from n xs)) k d)
in_order front n [] long k d h = absurd (omega (arith, h))
in_order front n (x ∷ xs) long zero d h = at_front front x xs n long
  where
    at_front : (front : List Shown) (x : Shown) (xs : List Shown) (n : ℕ) → n ≡ length front → slice_get (front ++ x ∷ xs) n ≡ Some x
    at_front [] x xs zero long = refl
    at_front [] x xs (suc n) long = absurd (omega (arith, long))
    at_front (y ∷ front) x xs zero long = absurd (omega (arith, long))
    at_front (y ∷ front) x xs (suc n) long = at_front front x xs n (omega (arith, long))
in_order front n (x ∷ xs) long (suc k) d h =
    subst (λ (ys : List Shown). agree (get_or (map (answer_there ys) (enumerate_from (n + 1) xs)) k d)) (append_assoc front (x ∷ []) xs)
    (in_order (front ++ x ∷ []) (n + 1) xs (omega (arith, long, length-append front (x ∷ []))) k d
    (subst (λ (ys : List Shown). k < length (map (answer_there ys) (enumerate_from (n + 1) xs))) (sym (append_assoc front (x ∷ []) xs)) (omega (arith, h))))

all_answers : (told : List (ℕ × Shown)) (xs : List Shown) → IsPermutation told (enumerate_from 0 xs) → AllByRecursion (IsAnswer xs) told
all_answers told xs perm =
    from_places (answer_there xs) agree told (All-map-IsPermutation (answer_there xs) agree (enumerate_from 0 xs) told (IsPermutation-sym told (enumerate_from 0 xs) perm) (in_order [] 0 xs refl))

-- each place has an answer
abbrev is_no : Bool → Type 0
is_no b = b ≡ false

none_at : (n : ℕ) (told : List (ℕ × Shown)) → list_any (is_at n) told ≡ false → All is_no (map (is_at n) told)
none_at n [] none k d h = absurd (omega (arith, h))
none_at n (p ∷ told) none zero d h = first_no _ _ none
  where
    first_no : (a b : Bool) → (a || b) ≡ false → a ≡ false
    first_no true b h = h
    first_no false b h = refl
none_at n (p ∷ told) none (suc k) d h = none_at n told (second_no (p.0 == n) _ none) k d (omega (arith, h))
  where
    second_no : (a b : Bool) → (a || b) ≡ false → b ≡ false
    second_no true b h = absurd (true≢false h)
    second_no false b h = h

some_there : (q n m : ℕ) → q ≡ n + m → (xs : List Shown) → m < length xs → All is_no (map (is_at q) (enumerate_from n xs)) → ⊥
some_there q n m same [] h all = absurd (omega (arith, h))
some_there q n zero same (x ∷ xs) h all = true≢false (sym (eq-eqb n q (omega (arith, same))) ∙ all zero true (omega arith))
some_there q n (suc m) same (x ∷ xs) h all = some_there q (n + 1) m (omega (arith, same)) xs (omega (arith, h)) (λ k d le. all (suc k) d (omega (arith, le)))

each_told : (told : List (ℕ × Shown)) (xs : List Shown) → IsPermutation told (enumerate_from 0 xs) → (n : ℕ) → n < length xs → list_any (is_at n) told ≡ true
each_told told xs perm n h = elim (list_any (is_at n) told) as (λ b. list_any (is_at n) told ≡ b → b ≡ true) [
  | true ↦ λ _. refl
  | false ↦ λ none. absurd (some_there n 0 n (omega arith) xs h (All-map-IsPermutation (is_at n) is_no told (enumerate_from 0 xs) perm (none_at n told none)))
] refl

pub put_all : (told : List (ℕ × Shown)) (shows xs : List Shown) → length shows ≡ length xs → IsPermutation told (enumerate_from 0 xs) → put_each told shows ≡ xs
put_all told shows xs long perm =
    same_lists xs (put_each told shows) (length_put told shows ∙ long)
    (λ n x is. let h : n < length xs = slice_get_within xs n x is in put_one xs told shows n x is (all_answers told xs perm) (subst (λ m. n < m) (sym long) h) (inl (each_told told xs perm n h)))

-- putting some answers and then others
pub put_join : (one other : List (ℕ × Shown)) (shows : List Shown) → put_each (one ++ other) shows ≡ put_each other (put_each one shows)
put_join [] other shows = refl
put_join (p ∷ one) other shows = put_join one other (slice_set shows p.0 p.1)
