-- Parts of a command line.
use Rattle.std.specs.Prelude.{ℕ, ◌-◌, Bool, ◌==◌, ◌&&◌, List, length, take, drop, nat_le}
use Rattle.std.specs.List.{prefix_len, suffix_len}
use Rattle.std.specs.Str.{str_eq_ignore_ascii_case}

abbrev pub is_space : ℕ → Bool
is_space b = b == 32

-- a line without the spaces at its end
abbrev pub trimmed : List ℕ → List ℕ
trimmed bytes = take (length bytes - suffix_len is_space bytes) bytes

-- bytes without the spaces at their head
abbrev pub unspaced : List ℕ → List ℕ
unspaced bytes = drop (prefix_len is_space bytes) bytes

-- whether bytes are a word, ignoring case
abbrev pub is_spelled : List ℕ → List ℕ → Bool
is_spelled word bytes = str_eq_ignore_ascii_case bytes word

-- whether bytes begin with a word, ignoring case
abbrev pub starts_as : List ℕ → List ℕ → Bool
starts_as word bytes = nat_le (length word) (length bytes) && is_spelled word (take (length word) bytes)

-- a byte of ASCII that shows
abbrev pub is_visible : ℕ → Bool
is_visible b = nat_le 33 b && nat_le b 126

-- as many bytes as a name may have
abbrev pub is_short : List ℕ → Bool
is_short bytes = nat_le 1 (length bytes) && nat_le (length bytes) 200
