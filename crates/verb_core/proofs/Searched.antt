-- What a binary search needs: comparisons that rise along rows, or along anything with rising numbers.
use Rattle.std.proofs.Common.{◌≡◌, ◌≢◌, inl, inr, ℕ, zero, suc, ◌<◌, ◌≤◌, true, cond, List, [], ◌∷◌, Some, None, Result, Err, length, get_or, refl, sym, ap, ◌∙◌, subst, arith, rules, true≢false, is_eq, is_lt, Ordering, Less, Equal, Greater}
use Rattle.std.specs.Cmp.{first_so, second_so, nat_cmp_is}
use Rattle.std.specs.FinMap.Entries as rows
use Rattle.std.specs.List.Sorted.{IsBinarySearchResult, IsNonDecreasingBy}
use Rattle.std.specs.Ordering.{nat_cmp, ordering_index, ordering_reverse}
use Rattle.std.proofs.lemmas.Bool.{cases_order}
use Rattle.std.proofs.lemmas.Cmp.{alike_right}
use Rattle.verb_core.specs.declared.mailbox.BoxId.{BoxId}
use Rattle.verb_core.specs.Boxes.{box_cmp, is_rising, row_at}
use Rattle.verb_core.proofs.BoxLaws.{boxes_total, exact_boxes}

pub index_at_most : (o : Ordering) → ordering_index o ≤ 2
index_at_most Less = search rules
index_at_most Equal = search rules
index_at_most Greater = search rules

-- ---- rows, by their mailboxes

pub less_is : (o : Ordering) → is_lt o ≡ true → o ≡ Less
less_is Less h = refl
less_is Equal h = absurd (true≢false (sym h))
less_is Greater h = absurd (true≢false (sym h))

pub turned_over : (a b : BoxId) (o : Ordering) → box_cmp a b ≡ o → box_cmp b a ≡ ordering_reverse o
turned_over a b o e = boxes_total.antisymm b a ∙ ap ordering_reverse e

-- a mailbox before another one compares no higher with a third
rises : (a b id : BoxId) → box_cmp a b ≡ Less → ordering_index (box_cmp a id) ≤ ordering_index (box_cmp b id)
rises a b id less =
    elim (box_cmp b id) as (λ o. box_cmp b id ≡ o → ordering_index (box_cmp a id) ≤ ordering_index o) [
      | Less ↦ λ e. let le : box_cmp a id ≡ Less = boxes_total.trans a b id less e in subst (λ o. ordering_index o ≤ ordering_index Less) (sym le) (search rules)
      | Equal ↦ λ e. let le : box_cmp a id ≡ Less = sym (alike_right boxes_total b id a e) ∙ less in subst (λ o. ordering_index o ≤ ordering_index Equal) (sym le) (search rules)
      | Greater ↦ λ e. index_at_most (box_cmp a id)
    ] refl

module _ {A : Type 0} where
  pub below_at : (id : BoxId) (rs : List (BoxId × A)) → rows.below_all box_cmp id rs ≡ true → (j : ℕ) (d : BoxId × A) → j < length rs → box_cmp id (get_or rs j d).0 ≡ Less
  below_at id [] h j d within = absurd (omega arith)
  below_at id (r ∷ rs) h zero d within = less_is (box_cmp id r.0) (first_so _ _ h)
  below_at id (r ∷ rs) h (suc j) d within = below_at id rs (second_so _ _ h) j d (omega arith)

  pub rising_at : (rs : List (BoxId × A)) → is_rising rs ≡ true → (i j : ℕ) (d : BoxId × A) → i < j → j < length rs → box_cmp (get_or rs i d).0 (get_or rs j d).0 ≡ Less
  rising_at [] h i j d lt within = absurd (omega arith)
  rising_at (r ∷ rs) h i zero d lt within = absurd (omega arith)
  rising_at (r ∷ rs) h zero (suc j) d lt within = below_at r.0 rs (first_so _ _ h) j d (omega arith)
  rising_at (r ∷ rs) h (suc i) (suc j) d lt within = rising_at rs (second_so _ _ h) i j d (omega arith) (omega arith)

  -- along rising rows the comparisons with a mailbox rise
  pub comparisons_rise : (id : BoxId) (rs : List (BoxId × A)) → is_rising rs ≡ true → IsNonDecreasingBy (λ (r : BoxId × A). ordering_index (box_cmp r.0 id)) rs
  comparisons_rise id rs rising i j d le within =
      elim (cases_order i j) [
        | inr (inl lt) ↦ rises (get_or rs i d).0 (get_or rs j d).0 id (rising_at rs rising i j d lt within)
        | inl same ↦ subst (λ (k : ℕ). ordering_index (box_cmp (get_or rs k d).0 id) ≤ ordering_index (box_cmp (get_or rs j d).0 id)) (sym same) (search rules)
        | inr (inr gt) ↦ absurd (omega arith)
      ]

-- ---- what a binary search among rows finds

not_equal : (o p : Ordering) → p ≢ Equal → o ≡ p → o ≢ Equal
not_equal o p differs is equal = differs (sym is ∙ equal)

module _ {A : Type 0} where
  -- the row at its place
  pub row_found : (id : BoxId) (rs : List (BoxId × A)) → is_rising rs ≡ true → (i : ℕ) → i < length rs → ((d : BoxId × A) → box_cmp (get_or rs i d).0 id ≡ Equal) → (d : BoxId × A) → row_at id rs ≡ Some (get_or rs i d).1
  row_found id [] rising i within equal d = absurd (omega arith)
  row_found id (r ∷ rs) rising zero within equal d = ap (λ (o : Ordering). cond (is_eq o) (Some r.1) (row_at id rs)) (turned_over r.0 id Equal (equal r))
  row_found id (r ∷ rs) rising (suc i) within equal d =
      let is : (get_or rs i r).0 ≡ id = exact_boxes (get_or rs i r).0 id (equal r) in
      let less : box_cmp r.0 id ≡ Less = subst (λ (q : BoxId). box_cmp r.0 q ≡ Less) is (below_at r.0 rs (first_so _ _ rising) i r (omega arith)) in
      ap (λ (o : Ordering). cond (is_eq o) (Some r.1) (row_at id rs)) (turned_over r.0 id Less less) ∙ row_found id rs (second_so _ _ rising) i (omega arith) equal d

  none_equal : (id : BoxId) (rs : List (BoxId × A)) → ((j : ℕ) (d : BoxId × A) → j < length rs → box_cmp (get_or rs j d).0 id ≢ Equal) → row_at id rs ≡ None
  none_equal id [] none = refl
  none_equal id (r ∷ rs) none =
      elim (box_cmp id r.0) as (λ o. box_cmp id r.0 ≡ o → cond (is_eq o) (Some r.1) (row_at id rs) ≡ None) [
        | Less ↦ λ e. none_equal id rs (λ j d within. none (suc j) d (omega arith))
        | Equal ↦ λ e. absurd (none 0 r (omega arith) (turned_over id r.0 Equal e))
        | Greater ↦ λ e. none_equal id rs (λ j d within. none (suc j) d (omega arith))
      ] refl

  -- or there is none
  pub row_missing : (id : BoxId) (rs : List (BoxId × A)) → is_rising rs ≡ true → (at : ℕ) → IsBinarySearchResult (λ (row : BoxId × A). box_cmp row.0 id) rs (let r : Result ℕ ℕ = Err at in r) → row_at id rs ≡ None
  row_missing id rs rising at parted =
      none_equal id rs (λ j d inside. elim (cases_order j at) [
        | inr (inl lt) ↦ not_equal _ Less (λ e. cc) ((parted (comparisons_rise id rs rising)).0 j d (omega arith) lt)
        | inl same ↦ not_equal _ Greater (λ e. cc) ((parted (comparisons_rise id rs rising)).1 j d (omega arith) inside)
        | inr (inr gt) ↦ not_equal _ Greater (λ e. cc) ((parted (comparisons_rise id rs rising)).1 j d (omega arith) inside)
      ])

-- ---- numbers

pub lower_is : (a b : ℕ) → a < b → nat_cmp a b ≡ Less
lower_is a b lt = sym (nat_cmp_is a b Less lt)

-- a lower number compares no higher
compared : (a b n : ℕ) → a < b → ordering_index (nat_cmp a n) ≤ ordering_index (nat_cmp b n)
compared a b n lt =
    elim (cases_order a n) [
      | inl same ↦
          let more : n < b = omega arith in
          let first : nat_cmp a n ≡ Equal = sym (nat_cmp_is a n Equal same) in
          let second : nat_cmp b n ≡ Greater = sym (nat_cmp_is b n Greater more) in
          rw (first, second) (search rules)
      | inr (inl less) ↦ rw (lower_is a n less) (search rules)
      | inr (inr more) ↦
          let also : n < b = omega arith in
          let second : nat_cmp b n ≡ Greater = sym (nat_cmp_is b n Greater also) in
          rw second (index_at_most (nat_cmp a n))
    ]

-- along a list whose numbers rise the comparisons with a number rise
pub numbers_compared : {A : Type 0} (number_of : A → ℕ) (n : ℕ) (xs : List A) → ((i j : ℕ) (d : A) → i < j → j < length xs → number_of (get_or xs i d) < number_of (get_or xs j d))
    → IsNonDecreasingBy (λ (x : A). ordering_index (nat_cmp (number_of x) n)) xs
numbers_compared number_of n xs rising i j d le within =
    elim (cases_order i j) [
      | inr (inl lt) ↦ compared (number_of (get_or xs i d)) (number_of (get_or xs j d)) n (rising i j d lt within)
      | inl same ↦ rw same (search rules)
      | inr (inr gt) ↦ absurd (omega arith)
    ]
