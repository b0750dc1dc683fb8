-- Lists in two parts, entries of all mailboxes, and what is named in them.
use Rattle.std.proofs.Common.{◌≡◌, ◌≢◌, ℕ, zero, suc, ◌+◌, ◌≤◌, ◌&&◌, ◌||◌, not, Bool, true, false, cond, List, [], ◌∷◌, ◌++◌, map, take, drop, refl, ap, ap₂, sym, ◌∙◌, arith, is_lt}
use Rattle.std.specs.Prelude.{count_by}
use Rattle.std.specs.Cmp.{first_so, second_so}
use Rattle.std.specs.FinMap.Entries as rows
use Rattle.std.specs.List.{AllByRecursion, list_all, list_any}
use Rattle.std.proofs.lemmas.List.Folds.{list_all-append, list_all-map}
use Rattle.std.proofs.lemmas.List.Sums.{sum_by-cons}
use Rattle.undo_base.specs.declared.keys.Key.{Key}
use Rattle.undo_base.specs.declared.keys.User.{User}
use Rattle.verb_core.specs.declared.item.Item.{Item}
use Rattle.verb_core.specs.declared.mailbox.Body.{Body}
use Rattle.verb_core.specs.declared.mailbox.BoxId.{BoxId}
use Rattle.verb_core.specs.declared.mailbox.Entry.{Entry}
use Rattle.verb_core.specs.declared.mailbox.Mailbox.{Mailbox}
use Rattle.verb_core.specs.Boxes.{box_cmp, is_rising}
use Rattle.verb_core.specs.Items.{NumbersApart}
use Rattle.store_kept.specs.Founding.{entries_of}
use Rattle.store_kept.specs.Texts.{all_bodies}
use Rattle.desk_journal.specs.Once.{keys_held, keys_of_row, same_held}
use Rattle.desk_journal.proofs.Once.{all_entries, same_itself}

-- ---- lists in two parts

pub halves : {X : Type 0} (n : ℕ) (xs : List X) → take n xs ++ drop n xs ≡ xs
halves zero xs = refl
halves (suc n) [] = refl
halves {X} (suc n) (x ∷ xs) = ap (λ (l : List X). x ∷ l) (halves n xs)

pub all_taken : (P : Item → Type 0) (n : ℕ) (t : List Item) → AllByRecursion P t → AllByRecursion P (take n t)
all_taken P zero t all = tt
all_taken P (suc n) [] all = tt
all_taken P (suc n) (i ∷ t) all = (all.0, all_taken P n t all.1)

pub all_dropped : (P : Item → Type 0) (n : ℕ) (t : List Item) → AllByRecursion P t → AllByRecursion P (drop n t)
all_dropped P zero t all = all
all_dropped P (suc n) [] all = tt
all_dropped P (suc n) (i ∷ t) all = all_dropped P n t all.1

pub apart_taken : (n : ℕ) (t : List Item) → NumbersApart t → NumbersApart (take n t)
apart_taken zero t apart = tt
apart_taken (suc n) [] apart = tt
apart_taken (suc n) (i ∷ t) apart = (all_taken (λ (j : Item). i.number ≢ j.number) n t apart.0, apart_taken n t apart.1)

pub apart_dropped : (n : ℕ) (t : List Item) → NumbersApart t → NumbersApart (drop n t)
apart_dropped zero t apart = apart
apart_dropped (suc n) [] apart = tt
apart_dropped (suc n) (i ∷ t) apart = apart_dropped n t apart.1

pub zipped : (P Q : Item → Type 0) (t : List Item) → AllByRecursion P t → AllByRecursion Q t → AllByRecursion (λ (i : Item). P i × Q i) t
zipped P Q [] p q = tt
zipped P Q (i ∷ t) p q = ((p.0, q.0), zipped P Q t p.1 q.1)

pub weaker : (P Q : Item → Type 0) → ((i : Item) → P i → Q i) → (t : List Item) → AllByRecursion P t → AllByRecursion Q t
weaker P Q less [] all = tt
weaker P Q less (i ∷ t) all = (less i all.0, weaker P Q less t all.1)

-- the numbers of the first items are those of none behind them
pub parts_apart : (n : ℕ) (t : List Item) → NumbersApart t → AllByRecursion (λ (i : Item). AllByRecursion (λ (j : Item). j.number ≢ i.number) (take n t)) (drop n t)
parts_apart zero t apart = each t
  where
    each : (t : List Item) → AllByRecursion (λ (i : Item). Unit {0}) t
    each [] = tt
    each (i ∷ t) = (tt, each t)
parts_apart (suc n) [] apart = tt
parts_apart (suc n) (j ∷ t) apart = zipped (λ (i : Item). j.number ≢ i.number) (λ (i : Item). AllByRecursion (λ (k : Item). k.number ≢ i.number) (take n t)) (drop n t) (all_dropped (λ (i : Item). j.number ≢ i.number) n t apart.0) (parts_apart n t apart.1)

-- ---- tests of entries

pub all_both : {X : Type 0} (f g : X → Bool) (xs : List X) → list_all f xs ≡ true → list_all g xs ≡ true → list_all (λ x. f x && g x) xs ≡ true
all_both f g [] p q = refl
all_both f g (x ∷ xs) p q =
    ap₂ (λ (a b : Bool). a && b) (ap₂ (λ (a b : Bool). a && b) (first_so (f x) (list_all f xs) p) (first_so (g x) (list_all g xs) q))
    (all_both f g xs (second_so (f x) (list_all f xs) p) (second_so (g x) (list_all g xs) q))

pub all_weaker : {X : Type 0} (f g : X → Bool) → ((x : X) → f x ≡ true → g x ≡ true) → (xs : List X) → list_all f xs ≡ true → list_all g xs ≡ true
all_weaker f g less [] all = refl
all_weaker f g less (x ∷ xs) all = ap₂ (λ (a b : Bool). a && b) (less x (first_so (f x) (list_all f xs) all)) (all_weaker f g less xs (second_so (f x) (list_all f xs) all))

-- of the bodies of entries
pub bodies_all : (test : Body → Bool) (boxes : List (BoxId × Mailbox)) → all_bodies test boxes ≡ true → list_all (λ (e : Entry). test e.body) (entries_of boxes) ≡ true
bodies_all test boxes all = sym (all_entries (λ (e : Entry). test e.body) boxes) ∙ all

-- of their keys
pub keys_all : (test : Key → Bool) (boxes : List (BoxId × Mailbox)) → list_all (λ (k : User × Key). test k.1) (keys_held boxes) ≡ true → list_all (λ (e : Entry). test e.key) (entries_of boxes) ≡ true
keys_all test [] all = refl
keys_all test (r ∷ boxes) all =
    let parts : (list_all (λ (k : User × Key). test k.1) (keys_of_row r) && list_all (λ (k : User × Key). test k.1) (keys_held boxes)) ≡ true = sym (list_all-append (λ (k : User × Key). test k.1) (keys_of_row r) (keys_held boxes)) ∙ all in
    list_all-append (λ (e : Entry). test e.key) r.1.entries (entries_of boxes)
    ∙ ap₂ (λ (a b : Bool). a && b)
    (sym (list_all-map (λ (k : User × Key). test k.1) (λ (e : Entry). (r.0.user, e.key)) r.1.entries) ∙ first_so (list_all (λ (k : User × Key). test k.1) (keys_of_row r)) (list_all (λ (k : User × Key). test k.1) (keys_held boxes)) parts)
    (keys_all test boxes (second_so (list_all (λ (k : User × Key). test k.1) (keys_of_row r)) (list_all (λ (k : User × Key). test k.1) (keys_held boxes)) parts))

-- of each key that users have, if of each that is counted once at least
pub all_counted : (test : User × Key → Bool) (all xs : List (User × Key)) → ((k : User × Key) → 1 ≤ count_by (same_held k) xs → 1 ≤ count_by (same_held k) all)
    → ((k : User × Key) → 1 ≤ count_by (same_held k) all → test k ≡ true) → list_all test xs ≡ true
all_counted test all [] more each = refl
all_counted test all (x ∷ xs) more each =
    ap₂ (λ (a b : Bool). a && b)
    (each x (more x (here x (same_itself x))))
    (all_counted test all xs (λ k some. more k (later k some)) each)
  where
    counted : (k : User × Key) → count_by (same_held k) (x ∷ xs) ≡ cond (same_held k x) 1 0 + count_by (same_held k) xs
    counted k = sum_by-cons (λ (b : User × Key). cond (same_held k b) 1 0) x xs

    here : (k : User × Key) → same_held k x ≡ true → 1 ≤ count_by (same_held k) (x ∷ xs)
    here k same = let one : count_by (same_held k) (x ∷ xs) ≡ 1 + count_by (same_held k) xs = counted k ∙ ap (λ (b : Bool). cond b 1 0 + count_by (same_held k) xs) same in omega (arith, one)

    later : (k : User × Key) → 1 ≤ count_by (same_held k) xs → 1 ≤ count_by (same_held k) (x ∷ xs)
    later k some = let one : count_by (same_held k) (x ∷ xs) ≡ cond (same_held k x) 1 0 + count_by (same_held k) xs = counted k in omega (arith, one, some)

-- ---- tests that none passes

pub none_any : {X : Type 0} (f : X → Bool) (xs : List X) → list_all (λ x. not (f x)) xs ≡ true → list_any f xs ≡ false
none_any f [] all = refl
none_any f (x ∷ xs) all = ap₂ (λ (a b : Bool). a || b) (other (f x) (first_so (not (f x)) (list_all (λ x. not (f x)) xs) all)) (none_any f xs (second_so (not (f x)) (list_all (λ x. not (f x)) xs) all))
  where
    other : (b : Bool) → not b ≡ true → b ≡ false
    other false e = refl
    other true e = absurd (cc e)

-- ---- rows of the same mailboxes

abbrev ids : {X : Type 0} → List (BoxId × X) → List BoxId
ids rs = map (λ r. r.0) rs

below_same : {X Y : Type 0} (id : BoxId) (xs : List (BoxId × X)) (ys : List (BoxId × Y)) → ids xs ≡ ids ys → rows.below_all box_cmp id xs ≡ rows.below_all box_cmp id ys
below_same id [] [] same = refl
below_same id [] (y ∷ ys) same = absurd (cc same)
below_same id (x ∷ xs) [] same = absurd (cc same)
below_same id (x ∷ xs) (y ∷ ys) same =
    let first : x.0 ≡ y.0 = cc same in
    let rest : ids xs ≡ ids ys = cc same in
    ap₂ (λ (a b : Bool). a && b) (ap (λ (q : BoxId). is_lt (box_cmp id q)) first) (below_same id xs ys rest)

-- they rise in the one where they rise in the other
pub rising_same : {X Y : Type 0} (xs : List (BoxId × X)) (ys : List (BoxId × Y)) → ids xs ≡ ids ys → is_rising xs ≡ is_rising ys
rising_same [] [] same = refl
rising_same [] (y ∷ ys) same = absurd (cc same)
rising_same (x ∷ xs) [] same = absurd (cc same)
rising_same (x ∷ xs) (y ∷ ys) same =
    let first : x.0 ≡ y.0 = cc same in
    let rest : ids xs ≡ ids ys = cc same in
    ap₂ (λ (a b : Bool). a && b) (below_same x.0 xs ys rest ∙ ap (λ (q : BoxId). rows.below_all box_cmp q ys) first) (rising_same xs ys rest)

-- a test of a row's mailbox
pub ids_all : {X : Type 0} (test : BoxId → Bool) (xs : List (BoxId × X)) → list_all (λ (r : BoxId × X). test r.0) xs ≡ list_all test (ids xs)
ids_all test [] = refl
ids_all test (x ∷ xs) = ap (λ (b : Bool). test x.0 && b) (ids_all test xs)
