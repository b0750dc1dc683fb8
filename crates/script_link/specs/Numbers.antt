-- Numbers of a script's lines.
use Rattle.std.specs.Prelude.{ℕ, List, Option}
use Rattle.undo_base.specs.declared.limits.TheConstants.{LAST_MOMENT}
use Rattle.undo_base.specs.Digits.{number_between}

-- a moment up to the end of the year 9999
abbrev pub moment_of : List ℕ → Option ℕ
moment_of text = number_between 0 LAST_MOMENT text

-- the number of a connection
abbrev pub conn_of : List ℕ → Option ℕ
conn_of text = number_between 1 1000 text
