-- The end of a line, as the protocols send it (RFC 5321, 2.3.8; RFC 3501, 2.2; RFC 1939, 3; RFC 9112, 2.2).
use Rattle.std.specs.Prelude.{ℕ, List, [], ◌∷◌}

abbrev pub crlf : List ℕ
crlf = 13 ∷ 10 ∷ []
