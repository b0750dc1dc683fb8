-- The fields of a header, one after the other.
use Rattle.std.proofs.Common.{◌≡◌, ℕ, ◌<◌, ◌==◌, ◌&&◌, Bool, true, false, not, nat_lt, List, [], ◌∷◌, ◌++◌, length, take, if◌then◌else◌, refl, ap, sym, ◌∙◌, arith}
use Rattle.std.proofs.lemmas.List.{append_assoc}
use Rattle.std.proofs.Math.Bool.{and-true, and-false}
use Rattle.std.specs.Str.{bytes_eq}
use Rattle.std.proofs.lemmas.Slice.Eq.{bytes_eq-Decides}
use Rattle.std.proofs.lemmas.Bool.{and_parts, lt-ltb}
use Rattle.header_fields.specs.Lines.{is_end, lines_of, is_empty_line, begins_empty}
use Rattle.header_fields.specs.Fields.{is_blank, is_folded, goes_on, onto_field, header_lines, fields_of, begins_field}
use Rattle.header_fields.specs.Header.{has_empty_line, empty_line_of}

-- the first of some lines
abbrev pub first_of : List (List ℕ) → List ℕ
first_of [] = []
first_of (line ∷ lines) = line

-- what is known of the lines of bytes that begin with this one
pub record FirstLine (b : ℕ) (s : List ℕ) : Type 0 where
  pub line : List ℕ
  pub others : List (List ℕ)
  pub is : lines_of (b ∷ s) ≡ (b ∷ line) ∷ others
  pub empty : is_empty_line (b ∷ line) ≡ begins_empty (b ∷ s)

not_both : (x y z : Bool) → (x && y) ≡ false → (x && (y && z)) ≡ false
not_both true true z e = ap (λ t. t && z) e
not_both true false z e = refl
not_both false y z e = refl

begins_case : (b c : ℕ) (s : List ℕ) → FirstLine c s → (t : Bool) → is_end b c ≡ t → FirstLine b (c ∷ s)
begins_case b c s m true e = record { line = c ∷ []; others = lines_of s; is = rw e refl; empty = ap (λ x. (b == 13) && x) (and-true (c == 10)) }
begins_case b c s m false e = record {
  line = c ∷ m.line;
  others = m.others;
  is = rw (e, m.is) refl;
  empty = not_both (b == 13) (c == 10) (bytes_eq m.line []) e ∙ sym e;
}

pub begins : (b : ℕ) (s : List ℕ) → FirstLine b s
begins b [] = record { line = []; others = []; is = refl; empty = and-false (b == 13) }
begins b (c ∷ s) = begins_case b c s (begins c s) (is_end b c) refl

-- ---- what goes on

blank_apart : (b : ℕ) (x : Bool) → is_blank b ≡ true → ((b == 13) && x) ≡ false
blank_apart b x e = grind (arith)

pub folded_apart : (s : List ℕ) → is_folded s ≡ true → begins_empty s ≡ false
folded_apart [] e = refl
folded_apart (b ∷ []) e = refl
folded_apart (b ∷ c ∷ s) e = blank_apart b (c == 10) e

goes_case : (b : ℕ) (s : List ℕ) (m : FirstLine b s) (t : Bool) → begins_empty (b ∷ s) ≡ t → goes_on (header_lines (lines_of (b ∷ s))) ≡ is_blank b
goes_case b s m true e = rw (m.is, m.empty, e) (not_blank (is_blank b) refl)
  where
    not_blank : (t : Bool) → is_blank b ≡ t → false ≡ is_blank b
    not_blank true blank = sym (folded_apart (b ∷ s) blank) ∙ e ∙ sym blank
    not_blank false blank = sym blank
goes_case b s m false e = rw (m.is, m.empty, e) refl

pub goes_with : (s : List ℕ) → goes_on (header_lines (lines_of s)) ≡ is_folded s
goes_with [] = refl
goes_with (b ∷ s) = goes_case b s (begins b s) (begins_empty (b ∷ s)) refl

-- ---- a field, and what may go on with it

-- the lines of a field so far, before bytes that may go on with it
abbrev pub carried : List ℕ → List ℕ → List (List ℕ)
carried field s = if is_folded s then onto_field field (fields_of s) else field ∷ fields_of s

pub carried_end : (field s : List ℕ) → is_folded s ≡ false → carried field s ≡ field ∷ fields_of s
carried_end field s e = rw e refl

-- the first line is no empty one
pub first_apart : (s line : List ℕ) (lines : List (List ℕ)) → 0 < length s → begins_empty s ≡ false → lines_of s ≡ line ∷ lines → is_empty_line line ≡ false
first_apart [] line lines some e is = absurd (omega arith)
first_apart (b ∷ s) line lines some e is =
    let m = begins b s in
    ap is_empty_line (ap first_of (sym is ∙ m.is)) ∙ m.empty ∙ e

pub field_begins : (s line rest : List ℕ) → is_empty_line line ≡ false → lines_of s ≡ line ∷ lines_of rest → fields_of s ≡ carried line rest
field_begins s line rest e is = rw (is, e, goes_with rest) refl

pub end_behind : (s line rest : List ℕ) → is_empty_line line ≡ false → lines_of s ≡ line ∷ lines_of rest → has_empty_line s ≡ has_empty_line rest
end_behind s line rest e is = rw (is, e) refl

onto_both : (field line : List ℕ) (fields : List (List ℕ)) → onto_field field (onto_field line fields) ≡ onto_field (field ++ line) fields
onto_both field line [] = refl
onto_both field line (f ∷ fields) = ap (λ all. all ∷ fields) (sym (append_assoc field line f))

onto_case : (field line : List ℕ) (fields : List (List ℕ)) (t : Bool)
    → onto_field field (if t then onto_field line fields else line ∷ fields) ≡ (if t then onto_field (field ++ line) fields else (field ++ line) ∷ fields)
onto_case field line fields true = onto_both field line fields
onto_case field line fields false = refl

-- one line more goes on with the field
pub carried_more : (field s line rest : List ℕ) → is_folded s ≡ true → is_empty_line line ≡ false → lines_of s ≡ line ∷ lines_of rest → carried field s ≡ carried (field ++ line) rest
carried_more field s line rest folded e is =
    rw folded (ap (onto_field field) (field_begins s line rest e is) ∙ onto_case field line (fields_of rest) (is_folded rest))

pub folded_some : (s : List ℕ) → is_folded s ≡ true → 0 < length s
folded_some [] e = grind (arith)
folded_some (b ∷ s) e = omega arith

-- ---- where a field comes first, and where none does

pub begins_some : (s : List ℕ) → begins_field s ≡ true → 0 < length s
begins_some [] e = grind (arith)
begins_some (b ∷ s) e = omega arith

not_false : (t : Bool) → not t ≡ true → t ≡ false
not_false true e = sym e
not_false false e = refl

pub begins_apart : (s : List ℕ) → begins_field s ≡ true → begins_empty s ≡ false
begins_apart s e = not_false (begins_empty s) (and_parts (nat_lt 0 (length s)) (not (begins_empty s)) e).1

not_begun : (t u : Bool) → t ≡ true → (t && not u) ≡ false → u ≡ true
not_begun true true some e = refl
not_begun true false some e = sym e
not_begun false u some e = absurd (let wrong : false ≡ true = some in cc)

-- bytes with which no field comes first begin with an empty line
begins_none : (b : ℕ) (s : List ℕ) → begins_field (b ∷ s) ≡ false → begins_empty (b ∷ s) ≡ true
begins_none b s e = not_begun (nat_lt 0 (length (b ∷ s))) (begins_empty (b ∷ s)) (lt-ltb 0 (length (b ∷ s)) (omega arith)) e

none_case : (b : ℕ) (s : List ℕ) → FirstLine b s → begins_empty (b ∷ s) ≡ true → fields_of (b ∷ s) ≡ []
none_case b s m e = rw (m.is, m.empty, e) refl

-- at the end, or at the empty line
pub no_fields : (s : List ℕ) → begins_field s ≡ false → fields_of s ≡ []
no_fields [] e = refl
no_fields (b ∷ s) e = none_case b s (begins b s) (begins_none b s e)

end_case : (b : ℕ) (s : List ℕ) → FirstLine b s → begins_empty (b ∷ s) ≡ true → empty_line_of (b ∷ s) ≡ 13 ∷ 10 ∷ []
end_case b s m e = rw (m.is, m.empty, e) refl

two_bytes : (b c : ℕ) (s : List ℕ) → is_end b c ≡ true → b ∷ c ∷ take 0 s ≡ 13 ∷ 10 ∷ []
two_bytes b c s e = (bytes_eq-Decides (b ∷ c ∷ []) (13 ∷ 10 ∷ [])).0 (ap (λ x. (b == 13) && x) (and-true (c == 10)) ∙ e)

pub end_here : (s : List ℕ) → begins_field s ≡ false → empty_line_of s ≡ take 2 s
end_here [] e = refl
end_here (b ∷ []) e = grind (arith)
end_here (b ∷ c ∷ s) e =
    let empty : begins_empty (b ∷ c ∷ s) ≡ true = begins_none b (c ∷ s) e in
    end_case b (c ∷ s) (begins b (c ∷ s)) empty ∙ sym (two_bytes b c s empty)
