-- A text as it is sent (RFC 1939, 3: multi-line responses).
use Rattle.std.specs.Prelude.{ℕ, ◌-◌, Bool, ◌==◌, List, [], ◌∷◌, ◌++◌, codes, bytes_eq, drop, flat_map, length, take, Option, None, Some, if◌then◌else◌}
use Rattle.undo_base.specs.LineEnd.{crlf}
use Rattle.header_fields.specs.Header.{behind_header, header_of}
use Rattle.header_fields.specs.Lines.{joined, lines_of}
use Rattle.pop_session.specs.declared.answer.Answer.TheVariants.{Done, Octets}
use Rattle.pop_session.specs.Answer.{answer_text, said}

-- a line that begins with a dot gets one more
abbrev pub dotted : List ℕ → List ℕ
dotted [] = []
dotted (b ∷ line) = if b == 46 then 46 ∷ b ∷ line else b ∷ line

abbrev pub ends_in_line_end : List ℕ → Bool
ends_in_line_end text = bytes_eq (drop (length text - 2) text) crlf

-- CRLF, where the text does not end in one
abbrev pub line_end : List ℕ → List ℕ
line_end text = if ends_in_line_end text then [] else crlf

-- the lines of a text
abbrev pub sent : List ℕ → List ℕ
sent text = flat_map dotted (lines_of text) ++ line_end text

-- the header with its empty line, and so many lines of the rest (RFC 1939, 7: TOP)
abbrev pub top : ℕ → List ℕ → List ℕ
top count text = header_of text ++ joined (take count (lines_of (behind_header text)))

-- the answer to RETR, with the octets that are stored, or to TOP with its number of lines
abbrev pub retrieved : ℕ → Option ℕ → List ℕ → List ℕ
retrieved size None text = answer_text (Octets size) ++ (sent text ++ said (codes "."))
retrieved size (Some count) text = answer_text Done ++ (sent (top count text) ++ said (codes "."))
