-- Fields of a header (RFC 5322, 2.2): a line, and the lines after it that begin with a space or a tab (2.2.3, folding).
use Rattle.std.specs.Prelude.{ℕ, Bool, false, not, ◌==◌, ◌||◌, ◌&&◌, List, [], ◌∷◌, ◌++◌, length, nat_lt, if◌then◌else◌}
use Rattle.header_fields.specs.Lines.{lines_of, is_empty_line, begins_empty}

-- a space or a tab
abbrev pub is_blank : ℕ → Bool
is_blank b = b == 32 || b == 9

-- whether a line, or what begins with one, goes on with the field before it
abbrev pub is_folded : List ℕ → Bool
is_folded [] = false
is_folded (b ∷ bytes) = is_blank b

-- whether the first line goes on with the field before it
abbrev pub goes_on : List (List ℕ) → Bool
goes_on [] = false
goes_on (line ∷ lines) = is_folded line

-- the line goes before the first field
abbrev pub onto_field : List ℕ → List (List ℕ) → List (List ℕ)
onto_field line [] = line ∷ []
onto_field line (field ∷ fields) = (line ++ field) ∷ fields

-- lines as fields
abbrev pub fields_in : List (List ℕ) → List (List ℕ)
fields_in [] = []
fields_in (line ∷ lines) = if goes_on lines then onto_field line (fields_in lines) else line ∷ fields_in lines

-- the lines before the first empty one (2.1: it ends the header)
abbrev pub header_lines : List (List ℕ) → List (List ℕ)
header_lines [] = []
header_lines (line ∷ lines) = if is_empty_line line then [] else line ∷ header_lines lines

-- the fields of a text's header
abbrev pub fields_of : List ℕ → List (List ℕ)
fields_of text = fields_in (header_lines (lines_of text))

-- whether a field comes first: neither the end nor an empty line
abbrev pub begins_field : List ℕ → Bool
begins_field bytes = nat_lt 0 (length bytes) && not (begins_empty bytes)
