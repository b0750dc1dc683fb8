-- Tags of lines and marks of literals (RFC 3501, 9: atom, tag, literal).
use Rattle.std.specs.Prelude.{ℕ, Bool, not, ◌+◌, ◌-◌, ◌==◌, ◌&&◌, ◌||◌, List, [], ◌∷◌, length, take, drop, nat_le, slice_index, Option, None, Some, option_map, option_and_then, if◌then◌else◌}
use Rattle.std.specs.Char.{is_ascii_digit}
use Rattle.std.specs.List.{list_all}
use Rattle.std.specs.Option.{option_or}
use Rattle.undo_base.specs.Digits.{number_of}
use Rattle.imap_stream.specs.declared.marks.Mark.{Mark}

-- 1 to 10 digits
abbrev pub all_digits : List ℕ → Bool
all_digits bytes = not (length bytes == 0) && nat_le (length bytes) 10 && list_all is_ascii_digit bytes

-- a byte of an atom: it shows, and is none of ( ) { % * " \
abbrev pub is_atom_byte : ℕ → Bool
is_atom_byte b = nat_le 33 b && nat_le b 126 && not (b == 40 || b == 41 || b == 123 || b == 37 || b == 42 || b == 34 || b == 92)

-- a byte of a tag: one of an atom, and no +
abbrev pub is_tag_byte : ℕ → Bool
is_tag_byte b = is_atom_byte b && not (b == 43)

-- 1 to 64 bytes of a tag
abbrev pub is_tag : List ℕ → Bool
is_tag word = not (length word == 0) && nat_le (length word) 64 && list_all is_tag_byte word

-- what stands before the first space
abbrev pub before_space : List ℕ → Option (List ℕ)
before_space [] = None
before_space (b ∷ line) = if b == 32 then Some [] else option_map (λ word. b ∷ word) (before_space line)

-- the tag of a line, which begins with it and a space
abbrev pub tag_of : List ℕ → Option (List ℕ)
tag_of line = option_and_then (λ word. if is_tag word then Some word else None) (before_space line)

-- where the last { stands
abbrev pub last_brace : List ℕ → Option ℕ
last_brace [] = None
last_brace (b ∷ line) = option_or (option_map (λ n. n + 1) (last_brace line)) (if b == 123 then Some 0 else None)

-- the size in a mark, of which this stands after the {: digits and a }
abbrev pub size_in : List ℕ → Option ℕ
size_in tail =
    if not (length tail == 0) && (slice_index tail (length tail - 1) == 125) && all_digits (take (length tail - 1) tail)
    then Some (number_of (take (length tail - 1) tail)) else None

abbrev pub mark_at : ℕ → ℕ → Mark
mark_at place size = record { place = place; size = size }

-- the literal mark that a line ends with: {, 1 to 10 digits and }
abbrev pub mark_of : List ℕ → Option Mark
mark_of line = option_and_then (λ n. option_map (mark_at n) (size_in (drop (n + 1) line))) (last_brace line)
