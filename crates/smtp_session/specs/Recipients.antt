-- The recipients of a transaction, in order.
use Rattle.std.specs.Prelude.{ℕ, Bool, not, ◌&&◌, List, [], ◌∷◌, ◌++◌, bytes_eq, if◌then◌else◌, Option, None, Some, true}
use Rattle.std.specs.List.{list_any}
use Rattle.std.specs.Str.{str_eq_ignore_ascii_case}
use Rattle.verb_core.specs.declared.conf.House.{House}
use Rattle.verb_core.specs.declared.conf.Conf.{Conf}
use Rattle.verb_core.specs.Names.{is_empty}
use Rattle.verb_core.specs.Recipients.{resolved}

-- a name is held once
abbrev pub put_once : List ℕ → List (List ℕ) → List (List ℕ)
put_once name names = if list_any (λ held. bytes_eq held name) names then names else names ++ name ∷ []

-- the domain is one of the house's, in any case; `postmaster` alone has none (RFC 5321, 4.5.1)
abbrev pub is_of_house : House → Option (List ℕ) → Bool
is_of_house house None = true
is_of_house house (Some domain) = list_any (λ own. str_eq_ignore_ascii_case own domain) house.domains

-- whether mail for a local part at a domain comes to a user here
abbrev pub is_here : House → Conf → List ℕ → Option (List ℕ) → Bool
is_here house conf local domain = is_of_house house domain && not (is_empty (resolved house conf local))
