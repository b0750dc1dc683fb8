-- What holds of each element of a list.
use Rattle.std.proofs.Common.{ℕ, zero, suc, List, [], ◌∷◌, ◌++◌, take, drop, map}
use Rattle.std.specs.List.{AllByRecursion}

module _ {X : Type 0} where
  pub joined : (P : X → Type 0) (xs ys : List X) → AllByRecursion P xs → AllByRecursion P ys → AllByRecursion P (xs ++ ys)
  joined P [] ys a b = b
  joined P (x ∷ xs) ys a b = (a.0, joined P xs ys a.1 b)

  pub first_of : (P : X → Type 0) (xs ys : List X) → AllByRecursion P (xs ++ ys) → AllByRecursion P xs
  first_of P [] ys a = tt
  first_of P (x ∷ xs) ys a = (a.0, first_of P xs ys a.1)

  pub second_of : (P : X → Type 0) (xs ys : List X) → AllByRecursion P (xs ++ ys) → AllByRecursion P ys
  second_of P [] ys a = a
  second_of P (x ∷ xs) ys a = second_of P xs ys a.1

  pub taken : (P : X → Type 0) (n : ℕ) (xs : List X) → AllByRecursion P xs → AllByRecursion P (take n xs)
  taken P zero xs a = tt
  taken P (suc n) [] a = tt
  taken P (suc n) (x ∷ xs) a = (a.0, taken P n xs a.1)

  pub rest_of : (P : X → Type 0) (n : ℕ) (xs : List X) → AllByRecursion P xs → AllByRecursion P (drop n xs)
  rest_of P zero xs a = a
  rest_of P (suc n) [] a = tt
  rest_of P (suc n) (x ∷ xs) a = rest_of P n xs a.1

  pub mapped : (P Q : X → Type 0) (f : X → X) → ((x : X) → P x → Q (f x)) → (xs : List X) → AllByRecursion P xs → AllByRecursion Q (map f xs)
  mapped P Q f h [] a = tt
  mapped P Q f h (x ∷ xs) a = (h x a.0, mapped P Q f h xs a.1)

  pub weaker : (P Q : X → Type 0) → ((x : X) → P x → Q x) → (xs : List X) → AllByRecursion P xs → AllByRecursion Q xs
  weaker P Q h [] a = tt
  weaker P Q h (x ∷ xs) a = (h x a.0, weaker P Q h xs a.1)

  pub both : (P Q : X → Type 0) (xs : List X) → AllByRecursion P xs → AllByRecursion Q xs → AllByRecursion (λ (x : X). P x × Q x) xs
  both P Q [] a b = tt
  both P Q (x ∷ xs) a b = ((a.0, b.0), both P Q xs a.1 b.1)
