-- Lines of a text (RFC 5322, 2.1): a line ends with CRLF, and a lone CR or LF is a byte of it.
use Rattle.std.specs.Prelude.{ℕ, Bool, false, ◌==◌, ◌&&◌, List, [], ◌∷◌, flat_map, if◌then◌else◌}
use Rattle.std.specs.Str.{bytes_eq}
use Rattle.undo_base.specs.LineEnd.{crlf}

-- the two bytes are CR and LF
abbrev pub is_end : ℕ → ℕ → Bool
is_end b c = (b == 13) && (c == 10)

-- the byte goes onto the first line
abbrev pub onto_first : ℕ → List (List ℕ) → List (List ℕ)
onto_first b [] = []
onto_first b (line ∷ lines) = (b ∷ line) ∷ lines

-- the lines of a text, each with its CRLF; the last may have none
abbrev pub lines_of : List ℕ → List (List ℕ)
lines_of [] = []
lines_of (b ∷ []) = (b ∷ []) ∷ []
lines_of (b ∷ c ∷ bytes) = if is_end b c then (b ∷ c ∷ []) ∷ lines_of bytes else onto_first b (lines_of (c ∷ bytes))

-- CRLF alone
abbrev pub is_empty_line : List ℕ → Bool
is_empty_line line = bytes_eq line crlf

-- whether an empty line comes first
abbrev pub begins_empty : List ℕ → Bool
begins_empty [] = false
begins_empty (b ∷ []) = false
begins_empty (b ∷ c ∷ bytes) = is_end b c

-- lines, or fields, one behind the other
abbrev pub joined : List (List ℕ) → List ℕ
joined pieces = flat_map (λ piece. piece) pieces
