-- A string in bytes, ASCII case aside (RFC 3501, 6.4.4).
use Rattle.std.specs.Prelude.{◌≡◌, ℕ, Bool, true, ◌||◌, List, [], ◌∷◌, ◌++◌, length, take}
use Rattle.std.specs.Str.{str_eq_ignore_ascii_case}

-- whether bytes begin with a string
abbrev pub begins_with : List ℕ → List ℕ → Bool
begins_with string bytes = str_eq_ignore_ascii_case (take (length string) bytes) string

-- whether a string occurs in bytes: they begin with it, or it occurs behind their first
abbrev pub occurs_in : List ℕ → List ℕ → Bool
occurs_in string [] = begins_with string []
occurs_in string (b ∷ bytes) = begins_with string (b ∷ bytes) || occurs_in string bytes

-- a part of bytes is the string, ASCII case aside
pub record HasPart (string bytes : List ℕ) : Type 0 where
  pub front : List ℕ
  pub part : List ℕ
  pub back : List ℕ
  pub whole : bytes ≡ front ++ part ++ back
  pub same : str_eq_ignore_ascii_case part string ≡ true
