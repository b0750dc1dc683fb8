-- Numbers in digits, without a sign or a leading zero.
use Rattle.std.specs.Prelude.{ℕ, List, Option}
use Rattle.undo_base.specs.Digits.{number_between}

-- a port of TCP that can be named
abbrev pub port_of : List ℕ → Option ℕ
port_of text = number_between 1 65535 text

-- how many rounds `grow` takes
abbrev pub rounds_of : List ℕ → Option ℕ
rounds_of text = number_between 3 100000 text

-- the number of an item, or 0
abbrev pub point_of : List ℕ → Option ℕ
point_of text = number_between 0 4294967295 text
