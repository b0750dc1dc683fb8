-- The header of a text, and what follows it (RFC 5322, 2.1: the header ends with the first empty line).
use Rattle.std.specs.Prelude.{ℕ, Bool, List, [], ◌++◌, length, drop, if◌then◌else◌}
use Rattle.std.specs.List.{list_any}
use Rattle.undo_base.specs.LineEnd.{crlf}
use Rattle.header_fields.specs.Lines.{lines_of, is_empty_line, joined}
use Rattle.header_fields.specs.Fields.{header_lines}

-- whether a text has an empty line
abbrev pub has_empty_line : List ℕ → Bool
has_empty_line text = list_any is_empty_line (lines_of text)

-- the empty line, where the text has one
abbrev pub empty_line_of : List ℕ → List ℕ
empty_line_of text = if has_empty_line text then crlf else []

-- the text through its first empty line, or all of it where it has none
abbrev pub header_of : List ℕ → List ℕ
header_of text = joined (header_lines (lines_of text)) ++ empty_line_of text

-- what follows the header; nothing where no empty line ends it
abbrev pub behind_header : List ℕ → List ℕ
behind_header text = drop (length (header_of text)) text
