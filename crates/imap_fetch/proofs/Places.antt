-- What is written of items with their places, one by one.
use Rattle.std.proofs.Common.{◌≡◌, ℕ, ◌+◌, ◌<◌, ◌≤◌, List, [], ◌∷◌, ◌++◌, length, take, get_or, refl, ◌∙◌, ap, arith}
use Rattle.std.specs.List.{flat_map, enumerate_from}
use Rattle.std.proofs.lemmas.Grind.{flat_map-append, common_steps}
use Rattle.std.proofs.lemmas.List.{append-nil}

-- items with their places, from one on, and one more
pub places_more : {X : Type 0} (n : ℕ) (xs : List X) (x : X) → enumerate_from n (xs ++ x ∷ []) ≡ enumerate_from n xs ++ (n + length xs, x) ∷ []
places_more n [] x = ap (λ k. (k, x) ∷ []) (omega arith)
places_more n (y ∷ ys) x = ap (λ rest. (n, y) ∷ rest) (places_more (n + 1) ys x ∙ ap (λ k. enumerate_from (n + 1) ys ++ (k, x) ∷ []) (omega arith))

-- one item more is written
pub placed_step : {X : Type 0} (f : ℕ × X → List ℕ) (xs : List X) (i : ℕ) (d : X) (out next : List ℕ) → i < length xs → out ≡ flat_map f (enumerate_from 0 (take i xs)) → next ≡ out ++ f (i, get_or xs i d) → next ≡ flat_map f (enumerate_from 0 (take (i + 1) xs))
placed_step f xs i d out next h before more =
    let one : take (i + 1) xs ≡ take i xs ++ get_or xs i d ∷ [] = grind (arith, common_steps) in
    let size : 0 + length (take i xs) ≡ i = grind (arith, common_steps) in
    let placed : enumerate_from 0 (take (i + 1) xs) ≡ enumerate_from 0 (take i xs) ++ (i, get_or xs i d) ∷ [] =
    rw one (rw size at (places_more 0 (take i xs) (get_or xs i d))) in
    rw (placed, flat_map-append f (enumerate_from 0 (take i xs)) ((i, get_or xs i d) ∷ []), append-nil (f (i, get_or xs i d)), more, before) refl

-- no item is left
pub placed_end : {X : Type 0} (f : ℕ × X → List ℕ) (xs : List X) (i : ℕ) (out : List ℕ) → length xs ≤ i → out ≡ flat_map f (enumerate_from 0 (take i xs)) → out ≡ flat_map f (enumerate_from 0 xs)
placed_end f xs i out h before =
    let all : take i xs ≡ xs = grind (arith, common_steps) in
    rw all at before
