-- A set of names in lower case beside a list of names.
use Rattle.std.specs.Prelude.{◌≡◌, ℕ, ◌≤◌, List, length}
use Rattle.std.specs.List.{All, list_any}
use Rattle.std.specs.Ordering.{nat_cmp}
use Rattle.std.specs.Cmp.Lexicographic.{slice_cmp}
use Rattle.std.specs.Str.{bytes_eq, str_to_ascii_lowercase}
use Rattle.std.specs.BTreeSet.{BTreeSet, contains_by}
use Rattle.std.specs.declared.vec.Vec.{Vec}

-- the set has the names of the list in lower case, and no other
abbrev pub HoldsListed : {Z : Type 0} → BTreeSet (Vec ℕ Z) → List (List ℕ) → Type 0
HoldsListed lower names = (own : List ℕ) → contains_by (λ k. slice_cmp nat_cmp own k.items) lower ≡ list_any (λ name. bytes_eq own (str_to_ascii_lowercase name)) names

-- no name has more than 200 bytes
abbrev pub AreShort : List (List ℕ) → Type 0
AreShort names = All (λ name. length name ≤ 200) names
