-- The parts of a text, together.
use Rattle.std.proofs.Common.{◌≡◌, ℕ, ◌≤◌, Bool, true, false, List, [], ◌∷◌, ◌++◌, take, drop, length, if◌then◌else◌, refl, ap, sym, ◌∙◌, arith}
use Rattle.std.proofs.lemmas.List.{append_assoc, take-append-drop, length-take}
use Rattle.header_fields.specs.Lines.{is_end, onto_first, lines_of, joined}
use Rattle.header_fields.specs.Fields.{goes_on, onto_field, fields_in, header_lines, fields_of}
use Rattle.header_fields.specs.Header.{empty_line_of, header_of}
use Rattle.header_fields.proofs.Grouping.{FirstLine, begins}

-- ---- lines

first_joined : (b c : ℕ) (s : List ℕ) → FirstLine c s → joined (onto_first b (lines_of (c ∷ s))) ≡ b ∷ joined (lines_of (c ∷ s))
first_joined b c s m = rw m.is refl

-- the lines of a text have its bytes
pub lines_joined : (s : List ℕ) → joined (lines_of s) ≡ s
lines_joined [] = refl
lines_joined (b ∷ []) = refl
lines_joined (b ∷ c ∷ s) = two (is_end b c) refl (lines_joined s) (lines_joined (c ∷ s))
  where
    two : (t : Bool) → is_end b c ≡ t → joined (lines_of s) ≡ s → joined (lines_of (c ∷ s)) ≡ c ∷ s → joined (lines_of (b ∷ c ∷ s)) ≡ b ∷ c ∷ s
    two true e rest more = rw e (ap (λ (l : List ℕ). b ∷ c ∷ l) rest)
    two false e rest more = rw e (first_joined b c s (begins c s) ∙ ap (λ (l : List ℕ). b ∷ l) more)

-- ---- fields

onto_joined : (line : List ℕ) (fields : List (List ℕ)) → joined (onto_field line fields) ≡ line ++ joined fields
onto_joined line [] = refl
onto_joined line (field ∷ fields) = append_assoc line field (joined fields)

if_joined : (line : List ℕ) (fields : List (List ℕ)) (t : Bool) → joined (if t then onto_field line fields else line ∷ fields) ≡ line ++ joined fields
if_joined line fields true = onto_joined line fields
if_joined line fields false = refl

-- lines and their fields have the same bytes
pub fields_joined : (lines : List (List ℕ)) → joined (fields_in lines) ≡ joined lines
fields_joined [] = refl
fields_joined (line ∷ lines) = if_joined line (fields_in lines) (goes_on lines) ∙ ap (λ rest. line ++ rest) (fields_joined lines)

pub fields_together : (text : List ℕ) → joined (fields_of text) ++ empty_line_of text ≡ header_of text
fields_together text = ap (λ all. all ++ empty_line_of text) (fields_joined (header_lines (lines_of text)))

-- ---- the header

-- a front that has so many bytes
pub front_length : (text front : List ℕ) (n : ℕ) → n ≤ length text → take n text ≡ front → n ≡ length front
front_length text front n within is = let size : length (take n text) ≡ length front = ap length is in omega (arith, within, size, length-take n text)

-- what follows the front
pub behind_front : (text front : List ℕ) (n : ℕ) → n ≤ length text → take n text ≡ front → drop n text ≡ drop (length front) text
behind_front text front n within is = ap (λ (m : ℕ). drop m text) (front_length text front n within is)

-- a front and what follows it
pub front_and_rest : (text front : List ℕ) (n : ℕ) → n ≤ length text → take n text ≡ front → front ++ drop (length front) text ≡ text
front_and_rest text front n within is = rw (sym (front_length text front n within is), sym is) (take-append-drop n text)
