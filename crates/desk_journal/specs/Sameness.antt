-- Whether two values are the same, as a test: of types whose values are told apart by codes made of numbers.
use Rattle.std.specs.Prelude.{◌==◌, ◌&&◌, Bool, true, false}
use Rattle.std.specs.Coded.{Coded}
use base.Stored.{Gv, gnil, gnum, gcons}

-- whether two codes are the same
abbrev pub same_codes : Gv → Gv → Bool
same_codes gnil gnil = true
same_codes gnil (gnum n) = false
same_codes gnil (gcons c d) = false
same_codes (gnum m) gnil = false
same_codes (gnum m) (gnum n) = m == n
same_codes (gnum m) (gcons c d) = false
same_codes (gcons a b) gnil = false
same_codes (gcons a b) (gnum n) = false
same_codes (gcons a b) (gcons c d) = same_codes a c && same_codes b d

-- whether two values are: a code has one value
abbrev pub is_same : {A : Type 0} → Coded A → A → A → Bool
is_same coded x y = same_codes (coded.code x) (coded.code y)
