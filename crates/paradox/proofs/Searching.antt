-- Looking for the members of one list in another.
use Rattle.std.proofs.Common.{◌≡◌, ℕ, suc, ◌+◌, Bool, true, false, not, ◌||◌, cond, List, [], ◌∷◌, ◌++◌, length, take, drop, Option, Some, None, is_some, refl, sym, ap, ap₂, ◌∙◌, arith}
use Rattle.std.specs.Prelude.{nat_lt}
use Rattle.std.specs.List.{position, position_or_len, prefix_len, list_any}
use Rattle.std.proofs.lemmas.Bool.Decides.{nat_tests}
use Rattle.std.proofs.lemmas.List.{take-append-drop}
use Rattle.std.proofs.lemmas.List.Folds.{list_any-append}

some_if : (b : Bool) (n : ℕ) → is_some (cond b (Some n) None) ≡ b
some_if true n = refl
some_if false n = refl

none_before : (n : ℕ) → nat_lt 0 (suc n) ≡ true
none_before n = grind (arith, nat_tests)

both_later : (a b : ℕ) → nat_lt (1 + a) (suc b) ≡ nat_lt a b
both_later a b = grind (arith, nat_tests)

-- the first place that passes lies in the list exactly where some element passes
found_within : {X : Type 0} (p : X → Bool) (xs : List X) → nat_lt (position_or_len p xs) (length xs) ≡ list_any p xs
found_within p [] = refl
found_within p (x ∷ xs) =
    elim (p x) as (λ b. nat_lt (cond (not b) (1 + prefix_len (λ y. not (p y)) xs) 0) (suc (length xs)) ≡ (b || list_any p xs)) [
      | true ↦ none_before (length xs)
      | false ↦ both_later (prefix_len (λ y. not (p y)) xs) (length xs) ∙ found_within p xs
    ]

-- a place is found exactly where some element passes
found_some : {X : Type 0} (p : X → Bool) (xs : List X) → is_some (position p xs) ≡ list_any p xs
found_some p xs = some_if (nat_lt (position_or_len p xs) (length xs)) (position_or_len p xs) ∙ found_within p xs

pub or_true : (b : Bool) → (b || true) ≡ true
or_true true = refl
or_true false = refl

or_false : (b : Bool) → (b || false) ≡ b
or_false true = refl
or_false false = refl

module _ {X : Type 0} (p : X → Bool) (xs before behind : List X) (i : ℕ) (front : before ≡ take i xs) (back : behind ≡ drop i xs) where
  joined : before ++ behind ≡ xs
  joined = ap₂ (λ (a b : List X). a ++ b) front back ∙ take-append-drop i xs

  -- some element passes where one does before a place or behind it
  in_either : list_any p xs ≡ (list_any p before || list_any p behind)
  in_either = ap (list_any p) (sym joined) ∙ list_any-append p before behind

  -- what is found behind a place is in the list
  pub found_behind : (n : ℕ) → Some n ≡ position p behind → true ≡ list_any p xs
  found_behind n e =
      sym (in_either ∙ ap (λ b. list_any p before || b) (sym (found_some p behind) ∙ ap is_some (sym e)) ∙ or_true (list_any p before))

  -- what is not found behind a place is in the list where it is found before it
  pub found_before : (r : Option ℕ) → None ≡ position p behind → r ≡ position p before → is_some r ≡ list_any p xs
  found_before r later e =
      ap is_some e ∙ found_some p before
      ∙ sym (in_either ∙ ap (λ b. list_any p before || b) (sym (found_some p behind) ∙ ap is_some (sym later)) ∙ or_false (list_any p before))
