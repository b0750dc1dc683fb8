-- How a plan grows: item by item, each in a level that is there or in the one behind the last.
use Rattle.std.specs.Prelude.{ℕ, zero, suc, ◌+◌, max, Bool, true, ◌&&◌, nat_le, List, [], ◌∷◌, ◌++◌}

-- with a place at the end of a list of the plan, from 0, or in a list of its own behind the last
abbrev pub with_place : ℕ → ℕ → List (List ℕ) → List (List ℕ)
with_place index place [] = (place ∷ []) ∷ []
with_place zero place (places ∷ more) = (places ++ place ∷ []) ∷ more
with_place (suc index) place (places ∷ more) = places ∷ with_place index place more

-- whether each level is at least 1, and at most one above the highest before it
abbrev pub rise_by_one : ℕ → List ℕ → Bool
rise_by_one high [] = true
rise_by_one high (level ∷ levels) = nat_le 1 level && nat_le level (high + 1) && rise_by_one (max high level) levels
