-- A string found in lower case is one that occurs, ASCII case aside.
use Rattle.std.proofs.Common.{◌≡◌, ℕ, ◌+◌, ◌<◌, Bool, true, false, List, ◌++◌, map, length, take, drop, Option, Some, None, is_some, subst, refl, ap, sym, ◌∙◌, arith}
use Rattle.std.proofs.lemmas.List.{append_assoc, take-append-drop, take_at, drop_at, take-map, drop-map, map-append, length-map, length-append}
use Rattle.std.proofs.lemmas.Slice.Eq.{bytes_eq-Decides}
use Rattle.std.specs.Char.{to_ascii_lowercase}
use Rattle.std.specs.Str.{str_to_ascii_lowercase}
use Rattle.memchr.specs.Find.{OccursAt, FindsNeedle}
use Rattle.memchr.proofs.lemmas.MatchLemmas.{OccursAt-part, OccursAt-from_part}
use Rattle.search_verb.specs.Occurs.{occurs_in, HasPart}
use Rattle.search_verb.proofs.Parts.{occurs_as_part, part_occurs}

-- a place of the lower case is a part
part_at : (string bytes : List ℕ) (k : ℕ) → OccursAt (str_to_ascii_lowercase bytes) (str_to_ascii_lowercase string) k → HasPart string bytes
part_at string bytes k at =
    let n = length string in
    let part = take n (drop k bytes) in
    let low = str_to_ascii_lowercase bytes in
    let is : str_to_ascii_lowercase part ≡ str_to_ascii_lowercase string =
    sym (take-map to_ascii_lowercase n (drop k bytes)) ∙ ap (λ (l : List ℕ). take n l) (sym (drop-map to_ascii_lowercase k bytes))
    ∙ ap (λ (m : ℕ). take m (drop k low)) (sym (length-map string to_ascii_lowercase)) ∙ OccursAt-part low (str_to_ascii_lowercase string) k at in
    record {
      front = take k bytes;
      part = part;
      back = drop n (drop k bytes);
      whole = sym (take-append-drop k bytes) ∙ ap (λ (l : List ℕ). take k bytes ++ l) (sym (take-append-drop n (drop k bytes))) ∙ sym (append_assoc (take k bytes) part (drop n (drop k bytes)));
      same = (bytes_eq-Decides (str_to_ascii_lowercase part) (str_to_ascii_lowercase string)).1 is;
    }

-- a part is a place of the lower case
place_of : (front part back string : List ℕ) → str_to_ascii_lowercase part ≡ str_to_ascii_lowercase string
    → OccursAt (str_to_ascii_lowercase (front ++ part ++ back)) (str_to_ascii_lowercase string) (length front)
place_of front part back string same =
    let low = str_to_ascii_lowercase string in
    let f = to_ascii_lowercase in
    let whole : map f (front ++ part ++ back) ≡ map f front ++ (map f part ++ map f back) = ap (λ (l : List ℕ). map f l) (append_assoc front part back) ∙ map-append f front (part ++ back) ∙ ap (λ (l : List ℕ). map f front ++ l) (map-append f part back) in
    let size : length (map f part) ≡ length low = ap length same in
    let long : length (map f (front ++ part ++ back)) ≡ length front + (length part + length back) =
    length-map (front ++ part ++ back) f ∙ ap length (append_assoc front part back) ∙ length-append front (part ++ back) ∙ ap (λ (m : ℕ). length front + m) (length-append part back) in
    OccursAt-from_part (map f (front ++ part ++ back)) low (length front) (omega (arith, long, size, length-map part f))
    (ap (λ (l : List ℕ). take (length low) (drop (length front) l)) whole
    ∙ ap (λ (l : List ℕ). take (length low) l) (drop_at (map f front) (map f part ++ map f back) (length front) (length-map front f))
    ∙ take_at (map f part) (map f back) (length low) size ∙ same)

false_unless : (t : Bool) → (t ≡ true → ⊥) → t ≡ false
false_unless true never = absurd (never refl)
false_unless false never = refl

nowhere : (string bytes : List ℕ) → ((k : ℕ) → k < length (str_to_ascii_lowercase bytes) + 1 → OccursAt (str_to_ascii_lowercase bytes) (str_to_ascii_lowercase string) k → ⊥) → HasPart string bytes → ⊥
nowhere string bytes none h =
    let same = (bytes_eq-Decides (str_to_ascii_lowercase h.part) (str_to_ascii_lowercase string)).0 h.same in
    let at = subst (λ (l : List ℕ). OccursAt (str_to_ascii_lowercase l) (str_to_ascii_lowercase string) (length h.front)) (sym h.whole) (place_of h.front h.part h.back string same) in
    none (length h.front) (omega (arith, at.fits)) at

-- what a search in lower case answers
pub found_lower : (string bytes : List ℕ) (r : Option ℕ) → FindsNeedle (str_to_ascii_lowercase bytes) (str_to_ascii_lowercase string) 0 r → is_some r ≡ occurs_in string bytes
found_lower string bytes None h = sym (false_unless (occurs_in string bytes) (λ e. nowhere string bytes (λ k less at. h k (omega arith) less at) (occurs_as_part string bytes e)))
found_lower string bytes (Some k) h = sym (part_occurs string bytes (part_at string bytes k h.1))

-- a string does not occur in what is shorter
pub too_long : (string bytes : List ℕ) → length bytes < length string → occurs_in string bytes ≡ false
too_long string bytes less = false_unless (occurs_in string bytes) (λ e. no_part string bytes less (occurs_as_part string bytes e))
  where
    no_part : (string bytes : List ℕ) → length bytes < length string → HasPart string bytes → ⊥
    no_part string bytes less h =
        let same = ap length ((bytes_eq-Decides (str_to_ascii_lowercase h.part) (str_to_ascii_lowercase string)).0 h.same) in
        let long = ap length h.whole ∙ ap length (append_assoc h.front h.part h.back) ∙ length-append h.front (h.part ++ h.back) ∙ ap (λ (m : ℕ). length h.front + m) (length-append h.part h.back) in
        omega (arith, less, same, long, length-map h.part to_ascii_lowercase, length-map string to_ascii_lowercase)
