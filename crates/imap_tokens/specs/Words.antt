-- Words, atoms and numbers (RFC 3501, 9: atom, list-mailbox, nz-number, number).
use Rattle.std.specs.Prelude.{ℕ, Bool, true, false, not, ◌-◌, ◌==◌, ◌&&◌, ◌||◌, List, [], ◌∷◌, length, nat_le, nat_lt, Option, None, Some, if◌then◌else◌}
use Rattle.std.specs.List.{list_all}
use Rattle.std.specs.Char.{is_ascii_digit}
use Rattle.undo_base.specs.Digits.{number_of, number_between}
use Rattle.imap_stream.specs.LiteralMarks.{is_atom_byte}

-- a letter as a capital
abbrev pub upper : ℕ → ℕ
upper b = if nat_le 97 b && nat_le b 122 then b - 32 else b

-- whether bytes are a word in capitals, ignoring case
abbrev pub is_word : List ℕ → List ℕ → Bool
is_word [] [] = true
is_word [] (b ∷ bytes) = false
is_word (w ∷ word) [] = false
is_word (w ∷ word) (b ∷ bytes) = (upper b == w) && is_word word bytes

-- what the first row gives whose word the bytes are, ignoring case
abbrev pub row_of : {X : Type 0} → List (List ℕ × X) → List ℕ → Option X
row_of [] bytes = None
row_of (row ∷ rows) bytes = if is_word row.0 bytes then Some row.1 else row_of rows bytes

-- what follows a word in capitals, ignoring case
abbrev pub after_word : List ℕ → List ℕ → Option (List ℕ)
after_word [] bytes = Some bytes
after_word (w ∷ word) [] = None
after_word (w ∷ word) (b ∷ bytes) = if upper b == w then after_word word bytes else None

abbrev pub is_atom : List ℕ → Bool
is_atom bytes = not (length bytes == 0) && list_all is_atom_byte bytes

-- a byte of a pattern that is an atom
abbrev pub is_pattern_byte : ℕ → Bool
is_pattern_byte b = is_atom_byte b || b == 37 || b == 42

-- a number from 1 to 4294967295, without leading zeros
abbrev pub number_in : List ℕ → Option ℕ
number_in bytes = number_between 1 4294967295 bytes

-- a number from 0 to 4294967295: one or more digits, of which the first may be zeros
abbrev pub count_in : List ℕ → Option ℕ
count_in bytes = if not (nat_le 1 (length bytes) && list_all is_ascii_digit bytes) then None else if nat_lt 4294967295 (number_of bytes) then None else Some (number_of bytes)
