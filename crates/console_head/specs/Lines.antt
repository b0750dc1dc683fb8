-- The head of a request, cut out of bytes by their lines (RFC 9112, 2.2).
use Rattle.std.specs.Prelude.{ℕ, ◌+◌, Bool, ◌==◌, ◌||◌, List, [], ◌∷◌, length, Option, Some, None, option_map, if◌then◌else◌}
use Rattle.std.specs.Str.{bytes_eq}
use Rattle.undo_base.specs.LineEnd.{crlf}
use Rattle.console_head.specs.declared.lines.Head.{Head}

-- the byte goes onto the first line
abbrev pub onto_line : ℕ → List (List ℕ) → List (List ℕ)
onto_line b [] = (b ∷ []) ∷ []
onto_line b (line ∷ lines) = (b ∷ line) ∷ lines

-- the lines of bytes, each with its LF, which the last may lack
abbrev pub lines_of : List ℕ → List (List ℕ)
lines_of [] = []
lines_of (b ∷ bytes) = if b == 10 then (b ∷ []) ∷ lines_of bytes else onto_line b (lines_of bytes)

-- LF or CRLF alone
abbrev pub is_empty_line : List ℕ → Bool
is_empty_line line = bytes_eq line (10 ∷ []) || bytes_eq line crlf

-- a line that stands before the others, and counts so many header lines
abbrev pub behind : List ℕ → ℕ → Head → Head
behind line count head = record { size = length line + head.size; fields = count + head.fields }

-- what stands behind the request line: the header lines, through the first empty line
abbrev pub section_of : List (List ℕ) → Option Head
section_of [] = None
section_of (line ∷ lines) =
    if is_empty_line line then Some (record { size = length line; fields = 0 })
    else option_map (behind line 1) (section_of lines)

-- empty lines, the request line, which is the first that is not empty, and its section
abbrev pub head_of_lines : List (List ℕ) → Option Head
head_of_lines [] = None
head_of_lines (line ∷ lines) = if is_empty_line line then option_map (behind line 0) (head_of_lines lines) else option_map (behind line 0) (section_of lines)

-- the head that bytes begin with, if they hold a whole one
abbrev pub head_of : List ℕ → Option Head
head_of bytes = head_of_lines (lines_of bytes)
