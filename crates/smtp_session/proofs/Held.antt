-- A set of names beside a list of them.
use Rattle.std.proofs.Common.{◌≡◌, ℕ, ◌+◌, ◌≤◌, Bool, true, false, ◌||◌, List, [], ◌∷◌, ◌++◌, refl, bytes_eq, cond, arith}
use Rattle.std.specs.List.{list_any}
use Rattle.std.specs.Ordering.{nat_cmp, is_eq}
use Rattle.std.specs.Cmp.Lexicographic.{slice_cmp}
use Rattle.std.specs.BTreeSet.{BTreeSet, contains}
use Rattle.std.proofs.lemmas.Map.Text.{is_eq-slice_cmp}
use Rattle.std.proofs.lemmas.List.Folds.{list_any-append}
use Rattle.smtp_session.specs.Held.{HoldsNames}

-- one more at the end
either : (a b : Bool) → cond a true b ≡ (b || (a || false))
either true true = refl
either true false = refl
either false true = refl
either false false = refl

-- a name more in both
pub holds_more : (old new : BTreeSet (List ℕ)) (names : List (List ℕ)) (k : List ℕ) → HoldsNames old names
    → ((q : List ℕ) → contains (slice_cmp nat_cmp) new q ≡ cond (is_eq (slice_cmp nat_cmp k q)) true (contains (slice_cmp nat_cmp) old q))
    → HoldsNames new (names ++ k ∷ [])
holds_more old new names k h u name =
    rw (u name, h name, is_eq-slice_cmp k name, list_any-append (λ n. bytes_eq n name) names (k ∷ []))
    (either (bytes_eq k name) (list_any (λ n. bytes_eq n name) names))

-- at most one name more in the set for one more in the list
pub one_more : (added : Bool) (old new names more : ℕ) → new ≡ old + cond added 1 0 → old ≤ names → more ≡ names + 1 → new ≤ more
one_more true old new names more e few m = omega arith
one_more false old new names more e few m = omega arith
