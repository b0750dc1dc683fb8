-- A set of names beside a list of them.
use Rattle.std.specs.Prelude.{◌≡◌, ℕ, List, bytes_eq}
use Rattle.std.specs.List.{list_any}
use Rattle.std.specs.Ordering.{nat_cmp}
use Rattle.std.specs.Cmp.Lexicographic.{slice_cmp}
use Rattle.std.specs.BTreeSet.{BTreeSet, contains}

-- the set has the names of the list, and no other
abbrev pub HoldsNames : BTreeSet (List ℕ) → List (List ℕ) → Type 0
HoldsNames held names = (name : List ℕ) → contains (slice_cmp nat_cmp) held name ≡ list_any (λ n. bytes_eq n name) names
