-- The header, line by line.
use Rattle.std.proofs.Common.{◌≡◌, ℕ, true, false, List, [], ◌∷◌, ◌++◌, sym}
use Rattle.std.proofs.lemmas.List.{append_assoc}
use Rattle.std.proofs.lemmas.Slice.Eq.{bytes_eq-Decides}
use Rattle.header_fields.specs.Lines.{lines_of, is_empty_line, joined}
use Rattle.header_fields.specs.Fields.{header_lines}
use Rattle.header_fields.specs.Header.{empty_line_of, header_of}

-- a line before the empty one
pub header_more : (s line rest : List ℕ) → is_empty_line line ≡ false → lines_of s ≡ line ∷ lines_of rest → header_of s ≡ line ++ header_of rest
header_more s line rest e is = rw (is, e) (append_assoc line (joined (header_lines (lines_of rest))) (empty_line_of rest))

-- the empty line
pub header_ends : (s line rest : List ℕ) → is_empty_line line ≡ true → lines_of s ≡ line ∷ lines_of rest → header_of s ≡ line
header_ends s line rest e is = rw (is, e) (sym ((bytes_eq-Decides line (13 ∷ 10 ∷ [])).0 e))
