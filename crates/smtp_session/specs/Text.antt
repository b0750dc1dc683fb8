-- A text as it comes, line by line (RFC 5321, 4.5.2).
use Rattle.std.specs.Prelude.{ℕ, List, [], ◌∷◌, ◌++◌, length, nat_le, if◌then◌else◌, Option, None, Some, option_and_then}
use Rattle.std.specs.List.{flat_map}
use Rattle.smtp_lines.specs.declared.line.SmtpLine.{SmtpLine}
use Rattle.smtp_lines.specs.Stuffing.{unstuffed}
use Rattle.smtp_session.specs.Bytes.{said}

-- a text of at most 1,048,576 octets; none where it is larger
abbrev pub fits : List ℕ → Option (List ℕ)
fits text = if nat_le (length text) 1048576 then Some text else None

-- a text with one more line that is whole
abbrev pub add_whole : Option (List ℕ) → List ℕ → Option (List ℕ)
add_whole text line = option_and_then (λ t. fits (t ++ said (unstuffed line))) text

-- a text with one line more: a line that was cut makes it too large
abbrev pub add_line : Option (List ℕ) → SmtpLine → Option (List ℕ)
add_line text line = if line.long then None else add_whole text line.bytes

-- a text after these lines of it
abbrev pub text_after : Option (List ℕ) → List SmtpLine → Option (List ℕ)
text_after text [] = text
text_after text (line ∷ lines) = text_after (add_line text line) lines

-- the text that lines make: each without its stuffed dot, and with its CRLF
abbrev pub text_of : List (List ℕ) → List ℕ
text_of lines = flat_map (λ line. said (unstuffed line)) lines
