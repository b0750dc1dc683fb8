-- Words with spaces between them, item by item.
use Rattle.std.proofs.Common.{◌≡◌, ℕ, zero, suc, ◌+◌, ◌<◌, ◌==◌, true, false, rules, List, [], ◌∷◌, ◌++◌, length, map, take, drop, get_or, refl, sym, ◌∙◌, ap, arith, append_assoc}
use Rattle.std.specs.List.{flat_map}
use Rattle.std.proofs.lemmas.Grind.{flat_map-append, common_steps}
use Rattle.std.proofs.lemmas.List.{append-nil, map-append}
use Rattle.imap_text.specs.Words.{spaced, space_before}

-- one word more
pub spaced_more : (words : List (List ℕ)) (word : List ℕ) → spaced (words ++ word ∷ []) ≡ spaced words ++ (space_before (length words) ++ word)
spaced_more [] word = append-nil word
spaced_more (first ∷ words) word =
    let more : (length (first ∷ words) == 0) ≡ false = search rules in
    rw (flat_map-append (λ y. 32 ∷ y) words (word ∷ []), more) (simp (append_assoc, append-nil))

-- one item more
pub spaced_step : {X : Type 0} (f : X → List ℕ) (xs : List X) (i : ℕ) (d : X) (start out spaced_out next : List ℕ) → i < length xs → out ≡ start ++ spaced (map f (take i xs)) → spaced_out ≡ out ++ space_before i → next ≡ spaced_out ++ f (get_or xs i d) → next ≡ start ++ spaced (map f (take (i + 1) xs))
spaced_step f xs i d start out spaced_out next h before space more =
    let one : take (i + 1) xs ≡ take i xs ++ get_or xs i d ∷ [] = grind (arith, common_steps) in
    let size : length (map f (take i xs)) ≡ i = grind (arith, common_steps) in
    let step : spaced (map f (take (i + 1) xs)) ≡ spaced (map f (take i xs)) ++ (space_before i ++ f (get_or xs i d)) =
    rw (one, map-append f (take i xs) (get_or xs i d ∷ [])) (rw size at (spaced_more (map f (take i xs)) (f (get_or xs i d)))) in
    rw (more, space, before, step) (simp append_assoc)

-- two texts added one after the other
pub joined : (old mid new xs ys : List ℕ) → mid ≡ old ++ xs → new ≡ mid ++ ys → new ≡ old ++ (xs ++ ys)
joined old mid new xs ys first second = rw (second, first) (append_assoc old xs ys)
