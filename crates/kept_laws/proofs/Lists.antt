-- What holds of each element of a list, and how long lists are.
use Rattle.std.proofs.Common.{ℕ, zero, suc, ◌≤◌, ◌<◌, Bool, true, false, cond, List, [], ◌∷◌, ◌++◌, length, get_or, map, take, drop, filter, filter_map, find, Option, None, Some, option_map, subst, arith}
use Rattle.std.specs.Prelude.{IfSome}
use Rattle.std.specs.List.{AllByRecursion, Contains, cons_option}

pub either : {A : Type 0} (P : A → Type 0) (b : Bool) (x y : A) → P x → P y → P (cond b x y)
either P true x y p q = p
either P false x y p q = q

module _ {X : Type 0} (P : X → Type 0) where
  pub all_joined : (xs ys : List X) → AllByRecursion P xs → AllByRecursion P ys → AllByRecursion P (xs ++ ys)
  all_joined [] ys h k = k
  all_joined (x ∷ xs) ys h k = (h.0, all_joined xs ys h.1 k)

  pub all_taken : (n : ℕ) (xs : List X) → AllByRecursion P xs → AllByRecursion P (take n xs)
  all_taken zero xs h = tt
  all_taken (suc n) [] h = tt
  all_taken (suc n) (x ∷ xs) h = (h.0, all_taken n xs h.1)

  pub all_dropped : (n : ℕ) (xs : List X) → AllByRecursion P xs → AllByRecursion P (drop n xs)
  all_dropped zero xs h = h
  all_dropped (suc n) [] h = tt
  all_dropped (suc n) (x ∷ xs) h = all_dropped n xs h.1

  pub all_filtered : (p : X → Bool) (xs : List X) → AllByRecursion P xs → AllByRecursion P (filter p xs)
  all_filtered p [] h = tt
  all_filtered p (x ∷ xs) h =
      either (λ ys. AllByRecursion P ys) (p x) (x ∷ filter p xs) (filter p xs) (h.0, all_filtered p xs h.1) (all_filtered p xs h.1)

  -- what each has, the one that is found has
  pub found_has : (p : X → Bool) (xs : List X) → AllByRecursion P xs → IfSome (find p xs) P
  found_has p [] h = tt
  found_has p (x ∷ xs) h = either (λ o. IfSome o P) (p x) (Some x) (find p xs) h.0 (found_has p xs h.1)

  at_place : (xs : List X) (k : ℕ) (d : X) → k < length xs → AllByRecursion P xs → P (get_or xs k d)
  at_place [] k d lt h = absurd (omega arith)
  at_place (x ∷ xs) zero d lt h = h.0
  at_place (x ∷ xs) (suc k) d lt h = at_place xs k d (omega arith) h.1

  -- what each has, a member has
  pub member_has : (xs : List X) (x : X) → Contains xs x → AllByRecursion P xs → P x
  member_has xs x c h = subst P c.2 (at_place xs c.0 x c.1 h)

  pub option_added : (o : Option X) (xs : List X) → IfSome o P → AllByRecursion P xs → AllByRecursion P (cons_option o xs)
  option_added None xs h k = k
  option_added (Some x) xs h k = (h, k)

module _ {X Y : Type 0} (P : X → Type 0) (Q : Y → Type 0) where
  pub all_mapped : (f : X → Y) → ((x : X) → P x → Q (f x)) → (xs : List X) → AllByRecursion P xs → AllByRecursion Q (map f xs)
  all_mapped f so [] h = tt
  all_mapped f so (x ∷ xs) h = (so x h.0, all_mapped f so xs h.1)

  pub all_chosen : (f : X → Option Y) → ((x : X) → P x → IfSome (f x) Q) → (xs : List X) → AllByRecursion P xs → AllByRecursion Q (filter_map f xs)
  all_chosen f so [] h = tt
  all_chosen f so (x ∷ xs) h = option_added Q (f x) (filter_map f xs) (so x h.0) (all_chosen f so xs h.1)

  pub some_mapped : (f : X → Y) (o : Option X) → ((x : X) → P x → Q (f x)) → IfSome o P → IfSome (option_map f o) Q
  some_mapped f None so h = tt
  some_mapped f (Some x) so h = so x h

pub all_weaker : {X : Type 0} (P Q : X → Type 0) → ((x : X) → P x → Q x) → (xs : List X) → AllByRecursion P xs → AllByRecursion Q xs
all_weaker P Q so [] h = tt
all_weaker P Q so (x ∷ xs) h = (so x h.0, all_weaker P Q so xs h.1)

-- ---- lengths

pub filter_no_longer : {X : Type 0} (p : X → Bool) (xs : List X) → length (filter p xs) ≤ length xs
filter_no_longer p [] = omega arith
filter_no_longer p (x ∷ xs) =
    let rest : length (filter p xs) ≤ length xs = filter_no_longer p xs in
    either (λ ys. length ys ≤ suc (length xs)) (p x) (x ∷ filter p xs) (filter p xs) (omega (arith, rest)) (omega (arith, rest))

option_no_longer : {X : Type 0} (o : Option X) (xs : List X) (n : ℕ) → length xs ≤ n → length (cons_option o xs) ≤ suc n
option_no_longer None xs n h = omega (arith, h)
option_no_longer (Some x) xs n h = omega (arith, h)

pub chosen_no_longer : {X Y : Type 0} (f : X → Option Y) (xs : List X) → length (filter_map f xs) ≤ length xs
chosen_no_longer f [] = omega arith
chosen_no_longer f (x ∷ xs) = option_no_longer (f x) (filter_map f xs) (length xs) (chosen_no_longer f xs)
