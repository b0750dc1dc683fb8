-- Tests of headers, and of the spans that cover them.
use Rattle.std.proofs.Common.{◌≡◌, List, [], ◌∷◌, Bool, true, false, ◌&&◌, ◌||◌, Option, Some, None, ℕ, refl, sym, ap, ◌∙◌, subst}
use Rattle.std.specs.Prelude.{map, find, option_map, length, nat_le, unwrap_or, if◌then◌else◌}
use Rattle.std.specs.List.{list_any, list_all}
use Rattle.std.specs.Char.{is_ascii_digit}
use Rattle.undo_base.specs.Digits.{number_of}
use Rattle.console_head.specs.Lengths.{Header, is_coding, is_length, agrees, agreed, body_length}

some_inj : {A : Type 0} (x y : A) → Some x ≡ Some y → x ≡ y
some_inj x y e = ap (λ (o : Option _). unwrap_or o x) e

both_first : (a b : Bool) → (a && b) ≡ true → a ≡ true
both_first true b e = refl
both_first false b e = e

both_second : (a b : Bool) → (a && b) ≡ true → b ≡ true
both_second true b e = e
both_second false b e = cc

-- a length that agrees is digits
digits_of : (header : Header) (first : List ℕ) → is_length header ≡ true → agrees first header ≡ true → list_all is_ascii_digit header.1 ≡ true
digits_of header first here agree =
    let number = both_first _ _ (rw here at agree) in
    both_second (nat_le 1 (length header.1)) _ number

module _ {A B : Type 0} where
  pub list_any-map : (f : A → B) (p : B → Bool) (xs : List A) → list_any p (map f xs) ≡ list_any (λ x. p (f x)) xs
  list_any-map f p [] = refl
  list_any-map f p (x ∷ xs) = ap (λ (b : Bool). p (f x) || b) (list_any-map f p xs)

  pub list_all-map : (f : A → B) (p : B → Bool) (xs : List A) → list_all p (map f xs) ≡ list_all (λ x. p (f x)) xs
  list_all-map f p [] = refl
  list_all-map f p (x ∷ xs) = ap (λ (b : Bool). p (f x) && b) (list_all-map f p xs)

  pub find-map : (f : A → B) (p : B → Bool) (xs : List A) → find p (map f xs) ≡ option_map f (find (λ x. p (f x)) xs)
  find-map f p [] = refl
  find-map f p (x ∷ xs) =
      elim (p (f x)) as (λ v. (if v then Some (f x) else find p (map f xs)) ≡ option_map f (if v then Some x else find (λ x. p (f x)) xs)) [
        | true ↦ refl
        | false ↦ find-map f p xs
      ]

module _ {A : Type 0} where
  -- what is found passes its test, and any test that all pass
  pub found_passes : (p q : A → Bool) (xs : List A) (x : A) → find p xs ≡ Some x → list_all q xs ≡ true → (p x ≡ true) × (q x ≡ true)
  found_passes p q [] x e all = cc
  found_passes p q (y ∷ xs) x e all =
      elim (p y) as (λ v. p y ≡ v → (if v then Some y else find p xs) ≡ Some x → (p x ≡ true) × (q x ≡ true)) [
        | true ↦ λ here found.
            let same : y ≡ x = some_inj y x found in
            (subst (λ (z : A). p z ≡ true) same here, subst (λ (z : A). q z ≡ true) same (both_first (q y) _ all))
        | false ↦ λ here found. found_passes p q xs x found (both_second (q y) _ all)
      ] refl e

-- the length that headers announce, step by step
module _ {A : Type 0} (f : A → Header) where
  pub with_coding : (xs : List A) → list_any (λ x. is_coding (f x)) xs ≡ true → body_length (map f xs) ≡ None
  with_coding xs e = rw (list_any-map f is_coding xs, e) refl

  without_coding : (xs : List A) → list_any (λ x. is_coding (f x)) xs ≡ false → body_length (map f xs) ≡ agreed (map f xs) (option_map f (find (λ x. is_length (f x)) xs))
  without_coding xs e = rw (list_any-map f is_coding xs, e, find-map f is_length xs) refl

  pub without_length : (xs : List A) → list_any (λ x. is_coding (f x)) xs ≡ false → option_map (λ x. (f x).1) (find (λ x. is_length (f x)) xs) ≡ None
      → body_length (map f xs) ≡ Some 0
  without_length xs e none =
      without_coding xs e ∙ elim (find (λ x. is_length (f x)) xs) as (λ o. option_map (λ x. (f x).1) o ≡ None → agreed (map f xs) (option_map f o) ≡ Some 0) [
        | None ↦ λ e. refl
        | Some x ↦ λ e. cc
      ] none

  pub with_length : (xs : List A) (first : List ℕ) (agree : Bool) → list_any (λ x. is_coding (f x)) xs ≡ false
      → option_map (λ x. (f x).1) (find (λ x. is_length (f x)) xs) ≡ Some first → agree ≡ list_all (λ x. agrees first (f x)) xs
      → body_length (map f xs) ≡ (if agree then Some (number_of first) else None)
  with_length xs first agree e some all =
      without_coding xs e ∙ elim (find (λ x. is_length (f x)) xs) as (λ o. option_map (λ x. (f x).1) o ≡ Some first → agreed (map f xs) (option_map f o) ≡ (if agree then Some (number_of first) else None)) [
        | None ↦ λ e. cc
        | Some x ↦ λ e. rw (some_inj _ _ e, list_all-map f (agrees first) xs, sym all) refl
      ] some

  -- the first length is digits, where all agree with it
  pub first_is_digits : (xs : List A) (first : List ℕ) → option_map (λ x. (f x).1) (find (λ x. is_length (f x)) xs) ≡ Some first
      → list_all (λ x. agrees first (f x)) xs ≡ true → list_all is_ascii_digit first ≡ true
  first_is_digits xs first some all =
      elim (find (λ x. is_length (f x)) xs) as (λ o. find (λ x. is_length (f x)) xs ≡ o → option_map (λ x. (f x).1) o ≡ Some first → list_all is_ascii_digit first ≡ true) [
        | None ↦ λ found e. cc
        | Some x ↦ λ found e.
            let passes = found_passes (λ x. is_length (f x)) (λ x. agrees first (f x)) xs x found all in
            subst (λ (v : List ℕ). list_all is_ascii_digit v ≡ true) (some_inj _ _ e) (digits_of (f x) first passes.0 passes.1)
      ] refl some
