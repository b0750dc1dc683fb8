-- The keys that users have, and whether each is there once; and rows whose keys rise.
use Rattle.std.proofs.Common.{◌≡◌, ◌≢◌, ℕ, zero, suc, ◌+◌, ◌<◌, ◌≤◌, ◌==◌, ◌&&◌, ◌||◌, Bool, true, false, cond, not, List, [], ◌∷◌, ◌++◌, map, take, length, get_or, append_assoc, append-nil, nat_le, nat_cmp, Ordering, Less, Equal, Greater, is_lt, refl, ap, ap₂, sym, subst, ◌∙◌, arith, eqb-true}
use Rattle.std.specs.Prelude.{count_by, flat_map, sum_by, MatchBool}
use Rattle.std.specs.Cmp.{IsTotalOrder, first_so, second_so, nat_cmp_total, tied_itself}
use Rattle.std.specs.FinMap.Entries as rows
use Rattle.std.specs.List.{AllAdjacentBelow, AllByRecursion, IsAllAdjacentAnswer, list_all, list_any}
use Rattle.std.specs.List.Sorted.{IsPermutation, IsSortedBy}
use Rattle.std.specs.Ordering.{ordering_reverse, ordering_then}
use Rattle.std.proofs.lemmas.Bool.{le-leb, lt-ltb}
use Rattle.std.proofs.lemmas.Bool.Decides.{nat_tests}
use Rattle.std.proofs.lemmas.Cmp.{on_total, then_total}
use Rattle.std.proofs.lemmas.List.{map-append, take_more}
use Rattle.std.proofs.lemmas.List.Folds.{list_all-append, list_all-map}
use Rattle.std.proofs.lemmas.List.Sorted.{list_any-IsPermutation, ranks_by, sorted_far, sum_by-IsPermutation}
use Rattle.std.proofs.lemmas.List.Sums.{sum_by-append, sum_by-cons}
use Rattle.std.proofs.lemmas.Map.Lookups.{exact_unsigned}
use Rattle.undo_base.specs.declared.keys.Key.{Key}
use Rattle.undo_base.specs.declared.keys.User.{User}
use Rattle.verb_core.specs.declared.mailbox.BoxId.{BoxId}
use Rattle.verb_core.specs.declared.mailbox.Entry.{Entry}
use Rattle.verb_core.specs.declared.mailbox.Mailbox.{Mailbox}
use Rattle.verb_core.specs.Boxes.{same_user}
use Rattle.verb_core.specs.Fates.{of_key, times_held}
use Rattle.verb_core.specs.KeyOrder.{key_cmp}
use Rattle.verb_core.specs.Mailboxes.{same_key}
use Rattle.verb_core.proofs.KeyOrders.{exact_keys, keys_total}
use Rattle.verb_core.specs.declared.conf.House.{House}
use Rattle.verb_core.specs.Store.{is_known}
use Rattle.paradox.specs.declared.reports.BrokenItem.{BrokenItem}
use Rattle.paradox.specs.declared.reports.Report.{Report}
use Rattle.store_kept.specs.Founding.{entries_of, once_each, users_told}
use Rattle.desk_journal.specs.Once.{comes_before, each_once, held_cmp, keys_held, keys_of_row, same_held}

abbrev HeldKey : Type 0
HeldKey = User × Key

-- ---- tests of all elements

and_false : (b : Bool) → (b && false) ≡ false
and_false true = refl
and_false false = refl

pub both_true : (a b : Bool) → a ≡ true → b ≡ true → (a && b) ≡ true
both_true a b x y = ap₂ (λ (c d : Bool). c && d) x y

pub all_so : {X : Type 0} (f : X → Bool) → ((x : X) → f x ≡ true) → (xs : List X) → list_all f xs ≡ true
all_so f each [] = refl
all_so f each (x ∷ xs) = both_true (f x) (list_all f xs) (each x) (all_so f each xs)

all_but : {X : Type 0} (f : X → Bool) (xs : List X) (k : ℕ) (d : X) → k < length xs → f (get_or xs k d) ≡ false → list_all f xs ≡ false
all_but f [] k d lt is = absurd (omega (arith, lt))
all_but f (x ∷ xs) zero d lt is = ap (λ (b : Bool). b && list_all f xs) is
all_but f (x ∷ xs) (suc k) d lt is = ap (λ (b : Bool). f x && b) (all_but f xs k d (omega (arith, lt)) is) ∙ and_false (f x)

all_not_any : {X : Type 0} (f : X → Bool) (xs : List X) → list_all f xs ≡ not (list_any (λ x. not (f x)) xs)
all_not_any f [] = refl
all_not_any f (x ∷ xs) = elim (f x) as (λ b. (b && list_all f xs) ≡ not (not b || list_any (λ x. not (f x)) xs)) [
  | true ↦ all_not_any f xs
  | false ↦ refl
]

all_permuted : {X : Type 0} (f : X → Bool) (xs ys : List X) → IsPermutation xs ys → list_all f xs ≡ list_all f ys
all_permuted f xs ys same = all_not_any f xs ∙ ap not (list_any-IsPermutation (λ x. not (f x)) xs ys same) ∙ sym (all_not_any f ys)

all_alike : {X : Type 0} (f g : X → Bool) → ((x : X) → f x ≡ g x) → (xs : List X) → list_all f xs ≡ list_all g xs
all_alike f g each [] = refl
all_alike f g each (x ∷ xs) = ap₂ (λ (a b : Bool). a && b) (each x) (all_alike f g each xs)

-- ---- rows whose keys rise

less_is : (o : Ordering) → is_lt o ≡ true → o ≡ Less
less_is Less e = refl
less_is Equal e = absurd (cc e)
less_is Greater e = absurd (cc e)

one_later : (k : ℕ) → suc k + 1 ≡ suc (k + 1)
one_later k = omega arith

module _ {K X : Type 0} (R : K → K → Ordering) (total : IsTotalOrder R) where
  below_more : (a b : K) (es : List (K × X)) → R a b ≡ Less → rows.below_all R b es ≡ true → rows.below_all R a es ≡ true
  below_more a b [] less below = refl
  below_more a b (e ∷ es) less below =
      both_true (is_lt (R a e.0)) (rows.below_all R a es)
      (ap is_lt (total.trans a b e.0 less (less_is (R b e.0) (first_so (is_lt (R b e.0)) (rows.below_all R b es) below))))
      (below_more a b es less (second_so (is_lt (R b e.0)) (rows.below_all R b es) below))

  rise_all : (xs : List (K × X)) → AllAdjacentBelow (λ (a b : K × X). true ≡ is_lt (R a.0 b.0)) xs (length xs) → rows.is_sorted R xs ≡ true
  rise_all [] next = refl
  rise_all (e ∷ []) next = refl
  rise_all (e ∷ f ∷ es) next =
      let rest : rows.is_sorted R (f ∷ es) ≡ true = rise_all (f ∷ es) (λ k d lt. subst (λ (n : ℕ). true ≡ is_lt (R (get_or (f ∷ es) k d).0 (get_or (e ∷ f ∷ es) n d).0)) (one_later k) (next (suc k) d (omega (arith, lt)))) in
      let less : is_lt (R e.0 f.0) ≡ true = sym (next 0 e (omega arith)) in
      both_true (rows.below_all R e.0 (f ∷ es)) (rows.is_sorted R (f ∷ es))
      (both_true (is_lt (R e.0 f.0)) (rows.below_all R e.0 es) less (below_more e.0 f.0 es (less_is (R e.0 f.0) less) (first_so (rows.below_all R f.0 es) (rows.is_sorted R es) rest)))
      rest

  one_falls : (xs : List (K × X)) (k : ℕ) (d : K × X) → k + 1 < length xs → false ≡ is_lt (R (get_or xs k d).0 (get_or xs (k + 1) d).0) → rows.is_sorted R xs ≡ false
  one_falls [] k d lt falls = absurd (omega (arith, lt))
  one_falls (e ∷ []) k d lt falls = absurd (omega (arith, lt))
  one_falls (e ∷ f ∷ es) zero d lt falls = ap (λ (b : Bool). (b && rows.below_all R e.0 es) && rows.is_sorted R (f ∷ es)) (sym falls)
  one_falls (e ∷ f ∷ es) (suc k) d lt falls =
      ap (λ (b : Bool). rows.below_all R e.0 (f ∷ es) && b)
      (one_falls (f ∷ es) k d (omega (arith, lt)) (subst (λ (n : ℕ). false ≡ is_lt (R (get_or (f ∷ es) k d).0 (get_or (e ∷ f ∷ es) n d).0)) (one_later k) falls))
      ∙ and_false (rows.below_all R e.0 (f ∷ es))

  -- what a test of each row and the next answers
  pub rising_answer : (xs : List (K × X)) (r : Bool) → IsAllAdjacentAnswer (λ (a b : K × X) (t : Bool). t ≡ is_lt (R a.0 b.0)) xs r → r ≡ rows.is_sorted R xs
  rising_answer xs true answer = sym (rise_all xs answer)
  rising_answer [] false answer = absurd (let lt : answer.0 + 1 < 0 = answer.1 in omega (arith, lt))
  rising_answer (e ∷ es) false answer = sym (one_falls (e ∷ es) answer.0 e answer.1 (answer.2 e))

-- ---- the order of keys

then_first : (o p : Ordering) → ordering_then o p ≡ Equal → o ≡ Equal
then_first Less p e = absurd (cc e)
then_first Equal p e = refl
then_first Greater p e = absurd (cc e)

then_second : (o p : Ordering) → ordering_then o p ≡ Equal → p ≡ Equal
then_second Less p e = absurd (cc e)
then_second Equal p e = e
then_second Greater p e = absurd (cc e)

pub held_total : IsTotalOrder held_cmp
held_total = then_total (on_total (λ (a : HeldKey). a.0.0) nat_cmp_total) (on_total (λ (a : HeldKey). a.1) keys_total)

abbrev held : ℕ → Key → HeldKey
held user key = (record { 0 = user }, key)

abbrev key_of : ℕ → ℕ → Key
key_of item index = record { item = item; index = index }

held_is : (a b : HeldKey) → held_cmp a b ≡ Equal → a ≡ b
held_is a b e = λ j. held (users j) (keys j)
  where
    users : a.0.0 ≡ b.0.0
    users = exact_unsigned a.0.0 b.0.0 (then_first (nat_cmp a.0.0 b.0.0) (key_cmp a.1 b.1) e)

    keys : a.1 ≡ b.1
    keys = exact_keys a.1 b.1 (then_second (nat_cmp a.0.0 b.0.0) (key_cmp a.1 b.1) e)

pub same_itself : (a : HeldKey) → same_held a a ≡ true
same_itself a = grind (arith, nat_tests)

pub same_is : (a b : HeldKey) → same_held a b ≡ true → a ≡ b
same_is a b e = λ j. held (user j) (key_of (item j) (index j))
  where
    keys : same_key a.1 b.1 ≡ true
    keys = second_so (same_user a.0 b.0) (same_key a.1 b.1) e

    user : a.0.0 ≡ b.0.0
    user = eqb-true a.0.0 b.0.0 (first_so (same_user a.0 b.0) (same_key a.1 b.1) e)

    item : a.1.item ≡ b.1.item
    item = eqb-true a.1.item b.1.item (first_so (a.1.item == b.1.item) (a.1.index == b.1.index) keys)

    index : a.1.index ≡ b.1.index
    index = eqb-true a.1.index b.1.index (second_so (a.1.item == b.1.item) (a.1.index == b.1.index) keys)

other : (a b : HeldKey) → held_cmp a b ≡ Less → same_held a b ≡ false
other a b less = by (same_held a b) refl
  where
    by : (t : Bool) → same_held a b ≡ t → t ≡ false
    by false e = refl
    by true e =
        let tied : held_cmp a b ≡ Equal = subst (λ (k : HeldKey). held_cmp a k ≡ Equal) (same_is a b e) (tied_itself held_total a) in
        absurd (let clash : ◌≡◌ {A = Ordering} Less Equal = sym less ∙ tied in cc clash)

-- ---- keys that rise are there once

abbrev Above : HeldKey → List HeldKey → Type 0
Above a keys = AllByRecursion (λ (b : HeldKey). held_cmp a b ≡ Less) keys

abbrev Rise : List HeldKey → Type 0
Rise [] = Unit {0}
Rise (a ∷ keys) = Above a keys × Rise keys

above_more : (a b : HeldKey) (keys : List HeldKey) → held_cmp a b ≡ Less → Above b keys → Above a keys
above_more a b [] less above = tt
above_more a b (c ∷ keys) less above = (held_total.trans a b c less above.0, above_more a b keys less above.1)

rise_keys : (keys : List HeldKey) → AllAdjacentBelow (λ (a b : HeldKey). true ≡ comes_before a b) keys (length keys) → Rise keys
rise_keys [] next = tt
rise_keys (a ∷ []) next = (tt, tt)
rise_keys (a ∷ b ∷ keys) next =
    let rest : Rise (b ∷ keys) = rise_keys (b ∷ keys) (λ k d lt. subst (λ (n : ℕ). true ≡ comes_before (get_or (b ∷ keys) k d) (get_or (a ∷ b ∷ keys) n d)) (one_later k) (next (suc k) d (omega (arith, lt)))) in
    let less : held_cmp a b ≡ Less = less_is (held_cmp a b) (sym (next 0 a (omega arith))) in
    ((less, above_more a b keys less rest.0), rest)

counted : (p : HeldKey → Bool) (a : HeldKey) (keys : List HeldKey) → count_by p (a ∷ keys) ≡ cond (p a) 1 0 + count_by p keys
counted p a keys = sum_by-cons (λ (b : HeldKey). cond (p b) 1 0) a keys

none_above : (a : HeldKey) (keys : List HeldKey) → Above a keys → count_by (same_held a) keys ≡ 0
none_above a [] above = refl
none_above a (b ∷ keys) above = counted (same_held a) b keys ∙ ap₂ (λ (t : Bool) (n : ℕ). cond t 1 0 + n) (other a b above.0) (none_above a keys above.1)

pub at_most_once : (keys : List HeldKey) → Rise keys → (a : HeldKey) → count_by (same_held a) keys ≤ 1
at_most_once [] rise a = omega arith
at_most_once (b ∷ keys) rise a = by (at_most_once keys rise.1 a) (same_held a b) refl
  where
    by : count_by (same_held a) keys ≤ 1 → (t : Bool) → same_held a b ≡ t → count_by (same_held a) (b ∷ keys) ≤ 1
    by rest true e =
        let none : count_by (same_held a) keys ≡ 0 = none_above a keys (subst (λ (k : HeldKey). Above k keys) (sym (same_is a b e)) rise.0) in
        let all : count_by (same_held a) (b ∷ keys) ≡ 1 = counted (same_held a) b keys ∙ ap₂ (λ (t : Bool) (n : ℕ). cond t 1 0 + n) e none in
        omega (arith, all)
    by rest false e =
        let all : count_by (same_held a) (b ∷ keys) ≡ 0 + count_by (same_held a) keys = counted (same_held a) b keys ∙ ap (λ (t : Bool). cond t 1 0 + count_by (same_held a) keys) e in
        omega (arith, all, rest)

twice : (a : HeldKey) (keys : List HeldKey) (k : ℕ) (d : HeldKey) → k + 1 < length keys → same_held a (get_or keys k d) ≡ true → same_held a (get_or keys (k + 1) d) ≡ true → 2 ≤ count_by (same_held a) keys
twice a [] k d lt one two = absurd (omega (arith, lt))
twice a (b ∷ []) k d lt one two = absurd (omega (arith, lt))
twice a (b ∷ c ∷ keys) zero d lt one two =
    let all : count_by (same_held a) (b ∷ c ∷ keys) ≡ 1 + (1 + count_by (same_held a) keys) =
    counted (same_held a) b (c ∷ keys) ∙ ap₂ (λ (t : Bool) (n : ℕ). cond t 1 0 + n) one (counted (same_held a) c keys ∙ ap (λ (t : Bool). cond t 1 0 + count_by (same_held a) keys) two) in
    omega (arith, all)
twice a (b ∷ c ∷ keys) (suc k) d lt one two =
    let rest : 2 ≤ count_by (same_held a) (c ∷ keys) = twice a (c ∷ keys) k d (omega (arith, lt)) one (subst (λ (n : ℕ). same_held a (get_or (b ∷ c ∷ keys) n d) ≡ true) (one_later k) two) in
    let all : count_by (same_held a) (b ∷ c ∷ keys) ≡ cond (same_held a b) 1 0 + count_by (same_held a) (c ∷ keys) = counted (same_held a) b (c ∷ keys) in
    omega (arith, all, rest)

-- of keys in order one that does not come before the next is the same
falls_same : (a b : HeldKey) → comes_before a b ≡ false → comes_before b a ≡ false → a ≡ b
falls_same a b first second = by (held_cmp a b) refl
  where
    by : (o : Ordering) → held_cmp a b ≡ o → a ≡ b
    by Equal e = held_is a b e
    by Less e = absurd (let clash : ◌≡◌ {A = Bool} true false = sym (ap is_lt e) ∙ first in cc clash)
    by Greater e =
        let back : held_cmp b a ≡ Less = held_total.antisymm b a ∙ ap ordering_reverse e in
        absurd (let clash : ◌≡◌ {A = Bool} true false = sym (ap is_lt back) ∙ second in cc clash)

-- whether each key comes before the next is whether each is there once, of keys in order
once_answer : (keys : List HeldKey) (r : Bool) → IsSortedBy comes_before keys → IsAllAdjacentAnswer (λ (a b : HeldKey) (t : Bool). t ≡ comes_before a b) keys r → r ≡ each_once keys
once_answer keys true ordered answer = sym (all_so (λ (a : HeldKey). nat_le (count_by (same_held a) keys) 1) (λ a. le-leb (count_by (same_held a) keys) 1 (at_most_once keys (rise_keys keys answer) a)) keys)
once_answer [] false ordered answer = absurd (let lt : answer.0 + 1 < 0 = answer.1 in omega (arith, lt))
once_answer (first ∷ rest) false ordered answer =
    let keys : List HeldKey = first ∷ rest in
    let d = first in
    let k = answer.0 in
    let lt : k + 1 < length keys = answer.1 in
    let a = get_or keys k d in
    let same : a ≡ get_or keys (k + 1) d = falls_same a (get_or keys (k + 1) d) (sym (answer.2 d)) (sorted_far comes_before (ranks_by held_total (λ (x : HeldKey). x)) keys ordered k (k + 1) d (omega arith) lt) in
    let two : 2 ≤ count_by (same_held a) keys = twice a keys k d lt (same_itself a) (subst (λ (b : HeldKey). same_held a b ≡ true) same (same_itself a)) in
    let many : nat_le (count_by (same_held a) keys) 1 ≡ false = not_few (count_by (same_held a) keys) two in
    sym (all_but (λ (b : HeldKey). nat_le (count_by (same_held b) keys) 1) keys k d (omega (arith, lt)) many)
  where
    not_few : (n : ℕ) → 2 ≤ n → nat_le n 1 ≡ false
    not_few n more = grind (arith, nat_tests)

-- ---- the keys in mailboxes

mapped : (p : HeldKey → Bool) (h : Entry → HeldKey) (es : List Entry) → count_by p (map h es) ≡ count_by (λ (e : Entry). p (h e)) es
mapped p h [] = refl
mapped p h (e ∷ es) = counted p (h e) (map h es) ∙ ap (λ (n : ℕ). cond (p (h e)) 1 0 + n) (mapped p h es) ∙ sym (sum_by-cons (λ (x : Entry). cond (p (h x)) 1 0) e es)

none_of : (es : List Entry) → count_by (λ (e : Entry). false) es ≡ 0
none_of [] = refl
none_of (e ∷ es) = sum_by-cons (λ (x : Entry). 0) e es ∙ ap (λ (n : ℕ). 0 + n) (none_of es)

row_count : (a : HeldKey) (r : BoxId × Mailbox) → cond (same_user a.0 r.0.user) (count_by (of_key a.1) r.1.entries) 0 ≡ count_by (same_held a) (keys_of_row r)
row_count a r = by (same_user a.0 r.0.user) ∙ sym (mapped (same_held a) (λ (e : Entry). (r.0.user, e.key)) r.1.entries)
  where
    by : (b : Bool) → cond b (count_by (of_key a.1) r.1.entries) 0 ≡ count_by (λ (e : Entry). b && same_key a.1 e.key) r.1.entries
    by true = refl
    by false = sym (none_of r.1.entries)

pub held_count : (a : HeldKey) (rs : List (BoxId × Mailbox)) → times_held a.0 a.1 rs ≡ count_by (same_held a) (keys_held rs)
held_count a [] = refl
held_count a (r ∷ rs) =
    sum_by-cons (λ (r : BoxId × Mailbox). cond (same_user a.0 r.0.user) (count_by (of_key a.1) r.1.entries) 0) r rs
    ∙ ap₂ (λ (m n : ℕ). m + n) (row_count a r) (held_count a rs)
    ∙ sym (sum_by-append (λ (b : HeldKey). cond (same_held a b) 1 0) (keys_of_row r) (keys_held rs))

rows_once : (all rs : List (BoxId × Mailbox)) → list_all (λ (r : BoxId × Mailbox). list_all (λ (e : Entry). nat_le (times_held r.0.user e.key all) 1) r.1.entries) rs
    ≡ list_all (λ (a : HeldKey). nat_le (count_by (same_held a) (keys_held all)) 1) (keys_held rs)
rows_once all [] = refl
rows_once all (r ∷ rs) =
    ap₂ (λ (a b : Bool). a && b)
    (all_alike (λ (e : Entry). nat_le (times_held r.0.user e.key all) 1) (λ (e : Entry). nat_le (count_by (same_held (r.0.user, e.key)) (keys_held all)) 1) (λ e. ap (λ (n : ℕ). nat_le n 1) (held_count (r.0.user, e.key) all)) r.1.entries
    ∙ sym (list_all-map (λ (a : HeldKey). nat_le (count_by (same_held a) (keys_held all)) 1) (λ (e : Entry). (r.0.user, e.key)) r.1.entries))
    (rows_once all rs)
    ∙ sym (list_all-append (λ (a : HeldKey). nat_le (count_by (same_held a) (keys_held all)) 1) (keys_of_row r) (keys_held rs))

-- no user has a key twice exactly where each is there once
pub once_keys : (rs : List (BoxId × Mailbox)) → once_each rs ≡ each_once (keys_held rs)
once_keys rs = rows_once rs rs

each_permuted : (keys ordered : List HeldKey) → IsPermutation keys ordered → each_once ordered ≡ each_once keys
each_permuted keys ordered same =
    all_alike (λ (a : HeldKey). nat_le (count_by (same_held a) ordered) 1) (λ (a : HeldKey). nat_le (count_by (same_held a) keys) 1)
    (λ a. ap (λ (n : ℕ). nat_le n 1) (sum_by-IsPermutation (λ (b : HeldKey). cond (same_held a b) 1 0) keys ordered same)) ordered
    ∙ sym (all_permuted (λ (a : HeldKey). nat_le (count_by (same_held a) keys) 1) keys ordered same)

-- what is found of the keys of mailboxes, put in order
pub once_found : (rs : List (BoxId × Mailbox)) (keys ordered : List HeldKey) (r : Bool) → keys ≡ keys_held rs → IsPermutation keys ordered → IsSortedBy comes_before ordered
    → IsAllAdjacentAnswer (λ (a b : HeldKey) (t : Bool). t ≡ comes_before a b) ordered r → r ≡ once_each rs
once_found rs keys ordered r is same up answer = once_answer ordered r up answer ∙ each_permuted keys ordered same ∙ ap each_once is ∙ sym (once_keys rs)

-- ---- one after the other

-- with the key of one entry more
pub held_next : (user : User) (entries : List Entry) (k : ℕ) (d : Entry) (first old new : List HeldKey) → k < length entries → old ≡ first ++ map (λ (e : Entry). (user, e.key)) (take k entries)
    → new ≡ old ++ (user, (get_or entries k d).key) ∷ [] → new ≡ first ++ map (λ (e : Entry). (user, e.key)) (take (k + 1) entries)
held_next user entries k d first old new less so_far more =
    let held' : Entry → HeldKey = λ e. (user, e.key) in
    more ∙ ap (λ (l : List HeldKey). l ++ held' (get_or entries k d) ∷ []) so_far
    ∙ append_assoc first (map held' (take k entries)) (held' (get_or entries k d) ∷ [])
    ∙ ap (λ (l : List HeldKey). first ++ l) (sym (map-append held' (take k entries) (get_or entries k d ∷ [])) ∙ ap (map held') (sym (take_more entries k d less)))

keys_append : (rs more : List (BoxId × Mailbox)) → keys_held (rs ++ more) ≡ keys_held rs ++ keys_held more
keys_append [] more = refl
keys_append (r ∷ rs) more = ap (λ (l : List HeldKey). keys_of_row r ++ l) (keys_append rs more) ∙ sym (append_assoc (keys_of_row r) (keys_held rs) (keys_held more))

-- with the keys of one mailbox more
pub keys_next : (rs : List (BoxId × Mailbox)) (k : ℕ) (row : BoxId × Mailbox) (old new : List HeldKey) → k < length rs → row ≡ get_or rs k row → old ≡ keys_held (take k rs) → new ≡ old ++ keys_of_row row → new ≡ keys_held (take (k + 1) rs)
keys_next rs k row old new less is so_far more =
    let next : take (k + 1) rs ≡ take k rs ++ row ∷ [] = take_more rs k row less ∙ ap (λ (r : BoxId × Mailbox). take k rs ++ r ∷ []) (sym is) in
    more ∙ ap (λ (l : List HeldKey). l ++ keys_of_row row) so_far
    ∙ ap (λ (l : List HeldKey). keys_held (take k rs) ++ l) (sym (append-nil (keys_of_row row)))
    ∙ sym (keys_append (take k rs) (row ∷ []))
    ∙ ap keys_held (sym next)

-- ---- entries of all mailboxes

pub all_entries : (p : Entry → Bool) (rs : List (BoxId × Mailbox)) → list_all (λ (r : BoxId × Mailbox). list_all p r.1.entries) rs ≡ list_all p (entries_of rs)
all_entries p [] = refl
all_entries p (r ∷ rs) = ap (λ (b : Bool). list_all p r.1.entries && b) (all_entries p rs) ∙ sym (list_all-append p r.1.entries (entries_of rs))

-- ---- users of reports

-- whether the users whom a report names are known
pub known_both : (house : House) (report : Report) (broken : Bool) → broken ≡ list_all (λ (b : BrokenItem). is_known house b.user) report.broken
    → (broken && list_all (λ (r : BoxId × ℕ). is_known house r.0.user) report.renewed) ≡ list_all (is_known house) (users_told report)
known_both house report broken is =
    ap₂ (λ (a b : Bool). a && b) (is ∙ sym (list_all-map (is_known house) (λ (b : BrokenItem). b.user) report.broken)) (sym (list_all-map (is_known house) (λ (r : BoxId × ℕ). r.0.user) report.renewed))
    ∙ sym (list_all-append (is_known house) (map (λ (b : BrokenItem). b.user) report.broken) (map (λ (r : BoxId × ℕ). r.0.user) report.renewed))
