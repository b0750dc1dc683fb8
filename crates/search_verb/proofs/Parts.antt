-- A string that occurs is a part.
use Rattle.std.proofs.Common.{◌≡◌, ℕ, Bool, true, false, ◌||◌, List, [], ◌∷◌, ◌++◌, map, length, take, drop, refl, ap, sym, ◌∙◌}
use Rattle.std.proofs.lemmas.List.{take-append-drop, take_at, length-map}
use Rattle.std.proofs.lemmas.Slice.Eq.{bytes_eq-Decides}
use Rattle.std.specs.Char.{to_ascii_lowercase}
use Rattle.std.specs.Str.{str_eq_ignore_ascii_case}
use Rattle.search_verb.specs.Occurs.{begins_with, occurs_in, HasPart}
use Rattle.search_verb.proofs.Finding.{found_here}

begins_as_part : (string bytes : List ℕ) → begins_with string bytes ≡ true → HasPart string bytes
begins_as_part string bytes e = record {
  front = [];
  part = take (length string) bytes;
  back = drop (length string) bytes;
  whole = sym (take-append-drop (length string) bytes);
  same = e;
}

later_part : (b : ℕ) (string bytes : List ℕ) → HasPart string bytes → HasPart string (b ∷ bytes)
later_part b string bytes h = record { front = b ∷ h.front; part = h.part; back = h.back; whole = ap (λ (l : List ℕ). b ∷ l) h.whole; same = h.same }

part_case : (b : ℕ) (string bytes : List ℕ) (t : Bool) → begins_with string (b ∷ bytes) ≡ t → (t || occurs_in string bytes) ≡ true → (occurs_in string bytes ≡ true → HasPart string bytes) → HasPart string (b ∷ bytes)
part_case b string bytes true begins e later = begins_as_part string (b ∷ bytes) begins
part_case b string bytes false begins e later = later_part b string bytes (later e)

pub occurs_as_part : (string bytes : List ℕ) → occurs_in string bytes ≡ true → HasPart string bytes
occurs_as_part string [] e = begins_as_part string [] e
occurs_as_part string (b ∷ bytes) e = part_case b string bytes (begins_with string (b ∷ bytes)) refl e (occurs_as_part string bytes)

-- of one length
same_length : (part string : List ℕ) → str_eq_ignore_ascii_case part string ≡ true → length string ≡ length part
same_length part string e =
    let same = (bytes_eq-Decides (map to_ascii_lowercase part) (map to_ascii_lowercase string)).0 e in
    sym (length-map string to_ascii_lowercase) ∙ sym (ap length same) ∙ length-map part to_ascii_lowercase

later_true : (t : Bool) → (t || true) ≡ true
later_true true = refl
later_true false = refl

occurs_behind : (front part back string : List ℕ) → str_eq_ignore_ascii_case part string ≡ true → occurs_in string (front ++ part ++ back) ≡ true
occurs_behind [] part back string e =
    found_here string (part ++ back) (ap (λ (l : List ℕ). str_eq_ignore_ascii_case l string) (take_at part back (length string) (sym (same_length part string e))) ∙ e)
occurs_behind (b ∷ front) part back string e = rw (occurs_behind front part back string e) (later_true (begins_with string (b ∷ (front ++ part ++ back))))

pub part_occurs : (string bytes : List ℕ) → HasPart string bytes → occurs_in string bytes ≡ true
part_occurs string bytes h = ap (occurs_in string) h.whole ∙ occurs_behind h.front h.part h.back string h.same
