-- The loops over the elements of a list, whose bytes lie one after another.
use Rattle.std.proofs.Common.{◌≡◌, ℕ, ◌+◌, ◌<◌, ◌≤◌, List, ◌∷◌, ◌++◌, length, get_or, drop, Option, sym, ap, subst, ◌∙◌, append_assoc, add-one, drop-cons, arith}
use Rattle.std.specs.Prelude.{min}
use Rattle.std.specs.List.{flat_map}
use Rattle.std.specs.Option.{option_to_list}
use Rattle.std.proofs.lemmas.List.{append-nil, drop_all}
use Rattle.verb_bytes.specs.declared.places.TextPlace.{TextPlace}
use Rattle.verb_bytes.specs.Fields.{Field, most_of_four, name_field}
use Rattle.verb_bytes.specs.Places.{places_along, size_of}
use Rattle.verb_bytes.proofs.Sizes.{size_both, size_name, size_none}

rest_is : {A : Type 0} (xs : List A) (i : ℕ) (d : A) → i < length xs → drop i xs ≡ get_or xs i d ∷ drop (i + 1) xs
rest_is xs i d lt = rw (add-one) (drop-cons xs i d lt)

-- what lies from here on, and what was found so far, is all of it
abbrev pub Walks : {A : Type 0} → (A → List Field) → (ℕ → A → Option TextPlace) → List A → ℕ → List TextPlace → ℕ → List TextPlace → List A → Type 0
Walks F P xs start old at now rest = (at + size_of (flat_map F rest) ≡ start + size_of (flat_map F xs)) × (now ++ places_along F P at rest ≡ old ++ places_along F P start xs)

step : {A : Type 0} (F : A → List Field) (P : ℕ → A → Option TextPlace) (xs : List A) (start : ℕ) (old : List TextPlace) (at next : ℕ) (now after : List TextPlace) (x : A) (rest : List A) → next ≡ at + size_of (F x) → after ≡ now ++ option_to_list (P at x) → Walks F P xs start old at now (x ∷ rest) → Walks F P xs start old next after rest
step F P xs start old at next now after x rest e f w = (
  omega (arith, e, w.0, size_both (F x) (flat_map F rest)),
  ap (λ (y : List TextPlace). y ++ places_along F P next rest) f
      ∙ append_assoc now (option_to_list (P at x)) (places_along F P next rest)
      ∙ ap (λ (n : ℕ). now ++ (option_to_list (P at x) ++ places_along F P n rest)) e
      ∙ w.1,
)

pub walks_next : {A : Type 0} (F : A → List Field) (P : ℕ → A → Option TextPlace) (xs : List A) (i start : ℕ) (old : List TextPlace) (at next : ℕ) (now after : List TextPlace) (x : A) → i < length xs → x ≡ get_or xs i x → next ≡ at + size_of (F x) → after ≡ now ++ option_to_list (P at x) → Walks F P xs start old at now (drop i xs) → Walks F P xs start old next after (drop (i + 1) xs)
walks_next {A} F P xs i start old at next now after x lt is e f w =
    let split : drop i xs ≡ x ∷ drop (i + 1) xs = rest_is xs i x lt ∙ ap (λ (y : A). y ∷ drop (i + 1) xs) (sym is) in
    step F P xs start old at next now after x (drop (i + 1) xs) e f (subst (Walks F P xs start old at now) split w)

pub walks_all : {A : Type 0} (F : A → List Field) (P : ℕ → A → Option TextPlace) (xs : List A) (i start : ℕ) (old : List TextPlace) (at : ℕ) (now : List TextPlace) → length xs ≤ i → Walks F P xs start old at now (drop i xs) → (at ≡ start + size_of (flat_map F xs)) × (now ≡ old ++ places_along F P start xs)
walks_all F P xs i start old at now le w =
    let done = subst (Walks F P xs start old at now) (drop_all i xs le) w in
    (omega (arith, done.0, size_none), sym (append-nil now) ∙ done.1)

-- ---- names

abbrev pub Counts : List (List ℕ) → ℕ → List (List ℕ) → Type 0
Counts names size rest = (size ≤ most_of_four) × (min (size + size_of (flat_map name_field rest)) most_of_four ≡ min (size_of (flat_map name_field names)) most_of_four)

counts_step : (names : List (List ℕ)) (size next : ℕ) (x : List ℕ) (rest : List (List ℕ)) → next ≡ min (size + (1 + length x)) most_of_four → Counts names size (x ∷ rest) → Counts names next rest
counts_step names size next x rest e w = (omega (arith, e), omega (arith, e, w.1, size_both (name_field x) (flat_map name_field rest), size_name x))

pub counts_next : (names : List (List ℕ)) (i size next : ℕ) (x : List ℕ) → i < length names → x ≡ get_or names i x → next ≡ min (size + (1 + length x)) most_of_four → Counts names size (drop i names) → Counts names next (drop (i + 1) names)
counts_next names i size next x lt is e w =
    let split : drop i names ≡ x ∷ drop (i + 1) names = rest_is names i x lt ∙ ap (λ (y : List ℕ). y ∷ drop (i + 1) names) (sym is) in
    counts_step names size next x (drop (i + 1) names) e (subst (Counts names size) split w)

pub counts_all : (names : List (List ℕ)) (i size : ℕ) → length names ≤ i → Counts names size (drop i names) → size ≡ min (size_of (flat_map name_field names)) most_of_four
counts_all names i size le w =
    let done = subst (Counts names size) (drop_all i names le) w in
    omega (arith, done.0, done.1, size_none)
