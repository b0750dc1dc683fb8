-- Of marks that rise the last is the greatest.
use Rattle.std.proofs.Common.{◌≡◌, ℕ, zero, suc, ◌<◌, ◌≤◌, ◌-◌, Bool, true, false, cond, List, [], ◌∷◌, length, filter, nat_le, Option, Some, None, slice_get, refl, subst, sym, ◌∙◌, arith}
use Rattle.std.specs.List.{AllByRecursion}
use Rattle.std.proofs.lemmas.Bool.Decides.{nat_tests}
use Rattle.seal_log.specs.declared.place.Place.{Place}
use Rattle.shelf.specs.Marks.{MarksRise, marks_at_or_before, newest}

abbrev Mark : Type 0
Mark = ℕ × Place

-- what stands in a list behind one that passes a test, or in place of it where it does not
stands_by : (p : Mark → Bool) (n m : Mark) (ms : List Mark) (b : Bool) → p n ≡ b → ((j : ℕ) → slice_get ms j ≡ Some m → p m ≡ true) → (i : ℕ)
    → slice_get (cond b (n ∷ ms) ms) i ≡ Some m → p m ≡ true
stands_by p n m ms true e more zero here = (let same : Some n ≡ Some m = here in let equal : n ≡ m = cc in subst (λ (k : Mark). p k ≡ true) equal e)
stands_by p n m ms true e more (suc i) here = more i here
stands_by p n m ms false e more i here = more i here

-- what is found among those that pass a test passes it
passes : (p : Mark → Bool) (ms : List Mark) (m : Mark) (i : ℕ) → slice_get (filter p ms) i ≡ Some m → p m ≡ true
passes p [] m i here = absurd (let none : ◌≡◌ {A = Option Mark} None (Some m) = here in cc)
passes p (n ∷ ms) m i here = stands_by p n m (filter p ms) (p n) refl (passes p ms m) i here

pub newest_before : (position : ℕ) (ms : List Mark) (m : Mark) → newest (marks_at_or_before position ms) ≡ Some m → m.0 ≤ position
newest_before position ms m here =
    let passed : nat_le m.0 position ≡ true = passes (λ n. nat_le n.0 position) ms m (length (marks_at_or_before position ms) - 1) here
    in grind (arith, nat_tests)

-- what is found among those that pass a test is found among all
found_by : (n m : Mark) (passed ms : List Mark) (b : Bool) → ((j : ℕ) → slice_get passed j ≡ Some m → (k : ℕ) × (slice_get ms k ≡ Some m)) → (i : ℕ)
    → slice_get (cond b (n ∷ passed) passed) i ≡ Some m → (k : ℕ) × (slice_get (n ∷ ms) k ≡ Some m)
found_by n m passed ms true more zero here = (zero, here)
found_by n m passed ms true more (suc i) here = (let behind : (k : ℕ) × (slice_get ms k ≡ Some m) = more i here in (suc behind.0, behind.1))
found_by n m passed ms false more i here = (let behind : (k : ℕ) × (slice_get ms k ≡ Some m) = more i here in (suc behind.0, behind.1))

found : (p : Mark → Bool) (ms : List Mark) (m : Mark) (i : ℕ) → slice_get (filter p ms) i ≡ Some m → (k : ℕ) × (slice_get ms k ≡ Some m)
found p [] m i here = absurd (let none : ◌≡◌ {A = Option Mark} None (Some m) = here in cc)
found p (n ∷ ms) m i here = found_by n m (filter p ms) ms (p n) (found p ms m) i here

pub newest_found : (position : ℕ) (ms : List Mark) (m : Mark) → newest (marks_at_or_before position ms) ≡ Some m → (k : ℕ) × (slice_get ms k ≡ Some m)
newest_found position ms m here = found (λ n. nat_le n.0 position) ms m (length (marks_at_or_before position ms) - 1) here

-- the last one is at or above each
greatest_at : (ms : List Mark) (m : Mark) (i : ℕ) → MarksRise ms → suc i ≡ length ms → slice_get ms i ≡ Some m → AllByRecursion (λ (n : Mark). n.0 ≤ m.0) ms
greatest_at [] m i rise last here = tt
greatest_at (n ∷ []) m zero rise last here = (let same : Some n ≡ Some m = here in let equal : n ≡ m = cc in let at : n.0 ≡ m.0 = cc in omega arith, tt)
greatest_at (n ∷ []) m (suc i) rise last here = absurd (omega arith)
greatest_at (n ∷ k ∷ ms) m zero rise last here = absurd (omega arith)
greatest_at (n ∷ k ∷ ms) m (suc i) rise last here =
    let rest : AllByRecursion (λ (n : Mark). n.0 ≤ m.0) (k ∷ ms) = greatest_at (k ∷ ms) m i rise.1 (omega arith) here
    in let less : n.0 < k.0 = rise.0.0
    in let most : k.0 ≤ m.0 = rest.0
    in (omega arith, rest)

newest_greatest : (ms : List Mark) (m : Mark) → MarksRise ms → newest ms ≡ Some m → AllByRecursion (λ (n : Mark). n.0 ≤ m.0) ms
newest_greatest [] m rise here = tt
newest_greatest (n ∷ ms) m rise here =
    let at : length (n ∷ ms) - 1 ≡ length ms = omega arith
    in greatest_at (n ∷ ms) m (length ms) rise refl (subst (λ i. slice_get (n ∷ ms) i ≡ Some m) at here)

-- ---- of those that pass a test

module _ (p : Mark → Bool) where
  -- what holds of all holds of those that pass
  kept_by : (P : Mark → Type 0) (n : Mark) (ms : List Mark) (b : Bool) → P n → AllByRecursion P ms → AllByRecursion P (cond b (n ∷ ms) ms)
  kept_by P n ms true one all = (one, all)
  kept_by P n ms false one all = all

  all_kept : (P : Mark → Type 0) (ms : List Mark) → AllByRecursion P ms → AllByRecursion P (filter p ms)
  all_kept P [] all = tt
  all_kept P (n ∷ ms) all = kept_by P n (filter p ms) (p n) all.0 (all_kept P ms all.1)

  rises_by : (n : Mark) (ms : List Mark) (b : Bool) → AllByRecursion (λ (m : Mark). n.0 < m.0) ms → MarksRise ms → MarksRise (cond b (n ∷ ms) ms)
  rises_by n ms true above rise = (above, rise)
  rises_by n ms false above rise = rise

  -- those that pass rise too
  rises : (ms : List Mark) → MarksRise ms → MarksRise (filter p ms)
  rises [] rise = tt
  rises (n ∷ ms) rise = rises_by n (filter p ms) (p n) (all_kept (λ (m : Mark). n.0 < m.0) ms rise.0) (rises ms rise.1)

  back_by : (P : Mark → Type 0) (n : Mark) (ms : List Mark) (b : Bool) → p n ≡ b → AllByRecursion P (cond b (n ∷ ms) ms) → (p n ≡ true → P n) × AllByRecursion P ms
  back_by P n ms true e all = (λ passed. all.0, all.1)
  back_by P n ms false e all = (λ passed. absurd (let wrong : true ≡ false = sym passed ∙ e in cc), all)

  -- what holds of those that pass holds of each where it passes
  all_back : (P : Mark → Type 0) (ms : List Mark) → AllByRecursion P (filter p ms) → AllByRecursion (λ (n : Mark). p n ≡ true → P n) ms
  all_back P [] all = tt
  all_back P (n ∷ ms) all =
      let both : (p n ≡ true → P n) × AllByRecursion P (filter p ms) = back_by P n (filter p ms) (p n) refl all
      in (both.0, all_back P ms both.1)

-- a place in all is a place in each
each_by : (P Q : Mark → Type 0) (ms : List Mark) → ((n : Mark) → P n → Q n) → AllByRecursion P ms → AllByRecursion Q ms
each_by P Q [] to all = tt
each_by P Q (n ∷ ms) to all = (to n all.0, each_by P Q ms to all.1)

at_or_before : (position : ℕ) (n : Mark) → n.0 ≤ position → nat_le n.0 position ≡ true
at_or_before position n low = grind (arith, nat_tests)

pub newest_at_most : (position : ℕ) (ms : List Mark) (m : Mark) → MarksRise ms → newest (marks_at_or_before position ms) ≡ Some m
    → AllByRecursion (λ (n : Mark). n.0 ≤ position → n.0 ≤ m.0) ms
newest_at_most position ms m rise here =
    let passes_of : Mark → Bool = λ n. nat_le n.0 position
    in let greatest : AllByRecursion (λ (n : Mark). n.0 ≤ m.0) (filter passes_of ms) = newest_greatest (filter passes_of ms) m (rises passes_of ms rise) here
    in each_by (λ n. nat_le n.0 position ≡ true → n.0 ≤ m.0) (λ n. n.0 ≤ position → n.0 ≤ m.0) ms (λ n most low. most (at_or_before position n low))
    (all_back passes_of (λ n. n.0 ≤ m.0) ms greatest)

-- where there is no last one there is none
last_is : (n : Mark) (ms : List Mark) → slice_get (n ∷ ms) (length ms) ≡ None → ⊥
last_is n [] none = (let wrong : ◌≡◌ {A = Option Mark} (Some n) None = none in cc)
last_is n (k ∷ ms) none = last_is k ms none

none_left : (P : Mark → Type 0) (ms : List Mark) → newest ms ≡ None → AllByRecursion P ms
none_left P [] none = tt
none_left P (n ∷ ms) none =
    let at : length (n ∷ ms) - 1 ≡ length ms = omega arith
    in absurd (last_is n ms (subst (λ i. slice_get (n ∷ ms) i ≡ None) at none))

behind : (position : ℕ) (n : Mark) → (nat_le n.0 position ≡ true → ⊥) → position < n.0
behind position n not = by_test (nat_le n.0 position) refl
  where
    by_test : (b : Bool) → nat_le n.0 position ≡ b → position < n.0
    by_test true e = absurd (not e)
    by_test false e = grind (arith, nat_tests)

pub none_before : (position : ℕ) (ms : List Mark) → newest (marks_at_or_before position ms) ≡ None → AllByRecursion (λ (n : Mark). position < n.0) ms
none_before position ms none =
    let passes_of : Mark → Bool = λ n. nat_le n.0 position
    in each_by (λ n. nat_le n.0 position ≡ true → ⊥) (λ n. position < n.0) ms (behind position) (all_back passes_of (λ n. ⊥) ms (none_left (λ n. ⊥) (filter passes_of ms) none))
