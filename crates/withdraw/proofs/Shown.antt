-- Items as they are shown at present, and the timeline without a cycle.
use Rattle.std.proofs.Common.{◌≡◌, ◌≢◌, ℕ, zero, suc, ◌==◌, Bool, cond, true, false, arith, refl, sym, ◌∙◌, ap, ap₂, List, [], ◌∷◌, ◌++◌, take, drop, length, map, Option, Some, None, option_map, eqb-true}
use Rattle.std.specs.List.{AllByRecursion}
use Rattle.std.specs.Option.{option_or}
use Rattle.std.proofs.lemmas.Bool.Decides.{nat_tests}
use Rattle.std.proofs.lemmas.List.{drop_at, length-map, map-append, take-append-drop}
use Rattle.std.proofs.lemmas.List.Folds.{find-append}
use Rattle.verb_core.specs.declared.item.Item.{Item}
use Rattle.verb_core.specs.Items.{NumbersApart}
use Rattle.withdraw.specs.declared.undone.Undone.{Undone}
use Rattle.withdraw.specs.declared.undone.UndoneBehind.{UndoneBehind}
use Rattle.withdraw.specs.Unediting.{as_shown, before_of, item_of, showing, shown_among, unedited, unedited_behind, unshown, whole_of}
use Rattle.withdraw.proofs.Parts.{second_of}

-- ---- one item

-- it has its own number, moment, user, deed, text and rev
pub same_but_shown : (present : List Item) (i : Item) → unshown (as_shown present i) ≡ unshown i
same_but_shown present i = elim (shown_among present i.number) as (λ o. unshown (showing i o) ≡ unshown i) [ None ↦ refl | Some shown ↦ refl ]

pub same_number : (present : List Item) (i : Item) → (as_shown present i).number ≡ i.number
same_number present i = ap (λ (j : Item). j.number) (same_but_shown present i)

-- none has the number
pub none_of : (n : ℕ) (xs : List Item) → AllByRecursion (λ (j : Item). j.number ≢ n) xs → item_of xs n ≡ None
none_of n [] a = refl
none_of n (x ∷ xs) a = by (x.number == n) refl (none_of n xs a.1)
  where
    by : (b : Bool) → (x.number == n) ≡ b → item_of xs n ≡ None → cond b (Some x) (item_of xs n) ≡ None
    by true e rest = absurd (a.0 (eqb-true x.number n e))
    by false e rest = rest

pub gone_shown : (present : List Item) (i : Item) → AllByRecursion (λ (j : Item). j.number ≢ i.number) present → as_shown present i ≡ i
gone_shown present i a = ap (λ (o : Option Item). showing i (option_map (λ (j : Item). j.shown) o)) (none_of i.number present a)

pub there_shown : (present : List Item) (i j : Item) → item_of present i.number ≡ Some j → as_shown present i ≡ record i { shown = j.shown }
there_shown present i j e = ap (λ (o : Option Item). showing i (option_map (λ (j : Item). j.shown) o)) e

-- ---- all items

all_unshown : (present before : List Item) → map unshown (map (as_shown present) before) ≡ map unshown before
all_unshown present [] = refl
all_unshown present (i ∷ is) = ap₂ (λ (x : Item) (xs : List Item). x ∷ xs) (same_but_shown present i) (all_unshown present is)

pub all_back : (present : List Item) (last : Undone) → map unshown (unedited present last) ≡ map unshown last.before ++ map unshown (drop last.placed present)
all_back present last =
    map-append unshown (map (as_shown present) last.before) (drop last.placed present)
    ∙ ap (λ (xs : List Item). xs ++ map unshown (drop last.placed present)) (all_unshown present last.before)

pub those_behind : (present : List Item) (last : Undone) → drop (length last.before) (unedited present last) ≡ drop last.placed present
those_behind present last = drop_at (map (as_shown present) last.before) (drop last.placed present) (length last.before) (length-map last.before (as_shown present))

-- ---- the front

own : (n : ℕ) → (n == n) ≡ true
own n = grind (arith, nat_tests)

-- where numbers are distinct, each item is found by its own
pub all_found : (t : List Item) → NumbersApart t → AllByRecursion (λ (i : Item). item_of t i.number ≡ Some i) t
all_found [] a = tt
all_found (x ∷ xs) a = (
  ap (λ b. cond b (Some x) (item_of xs x.number)) (own x.number),
  further xs a.0 (all_found xs a.1),
)
  where
    past : (i : Item) (b : Bool) → (x.number == i.number) ≡ b → x.number ≢ i.number → item_of xs i.number ≡ Some i → cond b (Some x) (item_of xs i.number) ≡ Some i
    past i true e differs found = absurd (differs (eqb-true x.number i.number e))
    past i false e differs found = found

    further : (ys : List Item) → AllByRecursion (λ (i : Item). x.number ≢ i.number) ys → AllByRecursion (λ (i : Item). item_of xs i.number ≡ Some i) ys → AllByRecursion (λ (i : Item). item_of (x ∷ xs) i.number ≡ Some i) ys
    further [] differ found = tt
    further (y ∷ ys) differ found = (past y (x.number == y.number) refl differ.0 found.0, further ys differ.1 found.1)

-- and shows what it shows
found_same : (t : List Item) (i : Item) → item_of t i.number ≡ Some i → as_shown t i ≡ i
found_same t i e = there_shown t i i e

pub taken_same : (n : ℕ) (t xs : List Item) → AllByRecursion (λ (i : Item). item_of t i.number ≡ Some i) xs → map (as_shown t) (take n xs) ≡ take n xs
taken_same zero t xs a = refl
taken_same (suc n) t [] a = refl
taken_same (suc n) t (x ∷ xs) a = ap₂ (λ (y : Item) (ys : List Item). y ∷ ys) (found_same t x a.0) (taken_same n t xs a.1)

-- no item of the second of two lists has a number of the first
pub apart_from : (xs ys : List Item) → NumbersApart (xs ++ ys) → AllByRecursion (λ (i : Item). AllByRecursion (λ (j : Item). j.number ≢ i.number) xs) ys
apart_from [] ys a = each ys
  where
    each : (ys : List Item) → AllByRecursion (λ (i : Item). Unit {0}) ys
    each [] = tt
    each (y ∷ ys) = (tt, each ys)
apart_from (x ∷ xs) ys a = more ys (second_of (λ (i : Item). x.number ≢ i.number) xs ys a.0) (apart_from xs ys a.1)
  where
    more : (ys : List Item) → AllByRecursion (λ (i : Item). x.number ≢ i.number) ys → AllByRecursion (λ (i : Item). AllByRecursion (λ (j : Item). j.number ≢ i.number) xs) ys
        → AllByRecursion (λ (i : Item). AllByRecursion (λ (j : Item). j.number ≢ i.number) (x ∷ xs)) ys
    more [] a b = tt
    more (y ∷ ys) a b = ((a.0, b.0), more ys a.1 b.1)

-- what an item shows is looked for behind a front that has not its number
found_behind : (n : ℕ) (t : List Item) (i : Item) → AllByRecursion (λ (j : Item). j.number ≢ i.number) (take n t) → item_of t i.number ≡ item_of (drop n t) i.number
found_behind n t i a =
    ap (λ (xs : List Item). item_of xs i.number) (sym (take-append-drop n t)) ∙ find-append (λ (j : Item). j.number == i.number) (take n t) (drop n t)
    ∙ ap (λ (o : Option Item). option_or o (item_of (drop n t) i.number)) (none_of i.number (take n t) a)

later_same : (n : ℕ) (t later : List Item) → AllByRecursion (λ (i : Item). AllByRecursion (λ (j : Item). j.number ≢ i.number) (take n t)) later → map (as_shown t) later ≡ map (as_shown (drop n t)) later
later_same n t [] a = refl
later_same n t (i ∷ is) a =
    ap₂ (λ (x : Item) (xs : List Item). x ∷ xs) (ap (λ (o : Option Item). showing i (option_map (λ (j : Item). j.shown) o)) (found_behind n t i a.0)) (later_same n t is a.1)

pub front_stays : (present : List Item) (last : UndoneBehind) → NumbersApart present → NumbersApart (before_of present last) → unedited present (whole_of present last) ≡ unedited_behind present last
front_stays present last apart before =
    let front = take last.position present in
    ap (λ (xs : List Item). xs ++ drop last.placed present)
    (map-append (as_shown present) front last.later
    ∙ ap₂ (λ (a b : List Item). a ++ b) (taken_same last.position present present (all_found present apart)) (later_same last.position present last.later (apart_from front last.later before)))
