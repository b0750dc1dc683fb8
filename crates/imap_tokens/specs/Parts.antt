-- Parts of a command's lines.
use Rattle.std.specs.Prelude.{ℕ, Bool, ◌-◌, ◌==◌, List, [], ◌∷◌, length, take, drop}
use Rattle.std.specs.List.{suffix_len, position_or_len}

abbrev pub is_space : ℕ → Bool
is_space b = b == 32

-- a line without the spaces at its end
abbrev pub trimmed : List ℕ → List ℕ
trimmed bytes = take (length bytes - suffix_len is_space bytes) bytes

-- a line before others: of the last one the spaces at its end don't count
abbrev pub line_before : List ℕ → List (List ℕ) → List ℕ
line_before line [] = trimmed line
line_before line (next ∷ lines) = line

-- what stands from the first space on
abbrev pub from_space : List ℕ → List ℕ
from_space bytes = drop (position_or_len is_space bytes) bytes
