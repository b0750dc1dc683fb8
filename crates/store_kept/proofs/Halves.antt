-- Rows by rising keys, searched by halves: what is found, and where a row comes in.
use Rattle.std.proofs.Common.{◌≡◌, ◌≢◌, inl, inr, ℕ, zero, suc, ◌+◌, ◌<◌, ◌≤◌, true, cond, List, [], ◌∷◌, ◌++◌, Some, None, Result, Err, length, take, drop, get_or, set, refl, sym, ap, ◌∙◌, subst, arith, rules, is_eq, is_lt, Ordering, Less, Equal, Greater}
use Rattle.std.specs.Cmp.{IsTotalOrder, first_so, second_so, tied_itself}
use Rattle.std.specs.FinMap.Entries as rows
use Rattle.std.specs.List.{insert}
use Rattle.std.specs.List.Sorted.{IsBinarySearchResult, IsNonDecreasingBy}
use Rattle.std.specs.Ordering.{ordering_index, ordering_reverse}
use Rattle.std.proofs.lemmas.Bool.{cases_order}
use Rattle.std.proofs.lemmas.Cmp.{alike_right}
use Rattle.verb_core.proofs.Searched.{index_at_most, less_is}

not_equal : (o p : Ordering) → p ≢ Equal → o ≡ p → o ≢ Equal
not_equal o p differs is equal = differs (sym is ∙ equal)

module _ {K : Type 0} (R : K → K → Ordering) (total : IsTotalOrder R) where
  pub turned : (a b : K) (o : Ordering) → R a b ≡ o → R b a ≡ ordering_reverse o
  turned a b o e = total.antisymm b a ∙ ap ordering_reverse e

  -- a key before another one compares no higher with a third
  rises : (a b key : K) → R a b ≡ Less → ordering_index (R a key) ≤ ordering_index (R b key)
  rises a b key less =
      elim (R b key) as (λ o. R b key ≡ o → ordering_index (R a key) ≤ ordering_index o) [
        | Less ↦ λ e. let le : R a key ≡ Less = total.trans a b key less e in subst (λ o. ordering_index o ≤ ordering_index Less) (sym le) (search rules)
        | Equal ↦ λ e. let le : R a key ≡ Less = sym (alike_right total b key a e) ∙ less in subst (λ o. ordering_index o ≤ ordering_index Equal) (sym le) (search rules)
        | Greater ↦ λ e. index_at_most (R a key)
      ] refl

  module _ {X : Type 0} where
    below_at : (key : K) (rs : List (K × X)) → rows.below_all R key rs ≡ true → (j : ℕ) (d : K × X) → j < length rs → R key (get_or rs j d).0 ≡ Less
    below_at key [] h j d within = absurd (omega arith)
    below_at key (r ∷ rs) h zero d within = less_is (R key r.0) (first_so _ _ h)
    below_at key (r ∷ rs) h (suc j) d within = below_at key rs (second_so _ _ h) j d (omega arith)

    rising_at : (rs : List (K × X)) → rows.is_sorted R rs ≡ true → (i j : ℕ) (d : K × X) → i < j → j < length rs → R (get_or rs i d).0 (get_or rs j d).0 ≡ Less
    rising_at [] h i j d lt within = absurd (omega arith)
    rising_at (r ∷ rs) h i zero d lt within = absurd (omega arith)
    rising_at (r ∷ rs) h zero (suc j) d lt within = below_at r.0 rs (first_so _ _ h) j d (omega arith)
    rising_at (r ∷ rs) h (suc i) (suc j) d lt within = rising_at rs (second_so _ _ h) i j d (omega arith) (omega arith)

    -- the comparisons with a key rise along the rows
    pub comparisons_rise : (key : K) (rs : List (K × X)) → rows.is_sorted R rs ≡ true → IsNonDecreasingBy (λ (r : K × X). ordering_index (R r.0 key)) rs
    comparisons_rise key rs rising i j d le within =
        elim (cases_order i j) [
          | inr (inl lt) ↦ rises (get_or rs i d).0 (get_or rs j d).0 key (rising_at rs rising i j d lt within)
          | inl same ↦ subst (λ (k : ℕ). ordering_index (R (get_or rs k d).0 key) ≤ ordering_index (R (get_or rs j d).0 key)) (sym same) (search rules)
          | inr (inr gt) ↦ absurd (omega arith)
        ]

    -- ---- no row of a key

    none_equal : (key : K) (rs : List (K × X)) → ((j : ℕ) (d : K × X) → j < length rs → R (get_or rs j d).0 key ≢ Equal) → rows.find R key rs ≡ None
    none_equal key [] none = refl
    none_equal key (r ∷ rs) none =
        elim (R key r.0) as (λ o. R key r.0 ≡ o → cond (is_eq o) (Some r.1) (rows.find R key rs) ≡ None) [
          | Less ↦ λ e. none_equal key rs (λ j d within. none (suc j) d (omega arith))
          | Equal ↦ λ e. absurd (none 0 r (omega arith) (turned key r.0 Equal e))
          | Greater ↦ λ e. none_equal key rs (λ j d within. none (suc j) d (omega arith))
        ] refl

    pub row_missing : (key : K) (rs : List (K × X)) → rows.is_sorted R rs ≡ true → (at : ℕ) → IsBinarySearchResult (λ (r : K × X). R r.0 key) rs (let r : Result ℕ ℕ = Err at in r) → rows.find R key rs ≡ None
    row_missing key rs rising at parted =
        none_equal key rs (λ j d inside. elim (cases_order j at) [
          | inr (inl lt) ↦ not_equal _ Less (λ e. cc) ((parted (comparisons_rise key rs rising)).0 j d (omega arith) lt)
          | inl same ↦ not_equal _ Greater (λ e. cc) ((parted (comparisons_rise key rs rising)).1 j d (omega arith) inside)
          | inr (inr gt) ↦ not_equal _ Greater (λ e. cc) ((parted (comparisons_rise key rs rising)).1 j d (omega arith) inside)
        ])

    -- ---- a row that comes in

    put_by : (key : K) (x : X) (r : K × X) (rs : List (K × X)) (o : Ordering) → R key r.0 ≡ o → rows.put R key x (r ∷ rs) ≡ rows.by_order o ((key, x) ∷ r ∷ rs) ((r.0, x) ∷ rs) (r ∷ rows.put R key x rs)
    put_by key x r rs o is = ap (λ (p : Ordering). rows.by_order p ((key, x) ∷ r ∷ rs) ((r.0, x) ∷ rs) (r ∷ rows.put R key x rs)) is

    inserted : (key : K) (x : X) (rs : List (K × X)) (at : ℕ) → at ≤ length rs → ((j : ℕ) (d : K × X) → j < at → R (get_or rs j d).0 key ≡ Less)
        → ((j : ℕ) (d : K × X) → at ≤ j → j < length rs → R (get_or rs j d).0 key ≡ Greater) → insert rs at (key, x) ≡ rows.put R key x rs
    inserted key x [] zero le low high = refl
    inserted key x [] (suc at) le low high = absurd (omega arith)
    inserted key x (r ∷ rs) zero le low high = sym (put_by key x r rs Less (turned r.0 key Greater (high 0 r (omega arith) (omega arith))))
    inserted key x (r ∷ rs) (suc at) le low high =
        ap (λ (t : List (K × X)). r ∷ t) (inserted key x rs at (omega arith) (λ j d lt. low (suc j) d (omega arith)) (λ j d more within. high (suc j) d (omega arith) (omega arith)))
        ∙ sym (put_by key x r rs Greater (turned r.0 key Less (low 0 r (omega arith))))

    pub row_inserted : (key : K) (x : X) (rs : List (K × X)) → rows.is_sorted R rs ≡ true → (at : ℕ) → at ≤ length rs → IsBinarySearchResult (λ (r : K × X). R r.0 key) rs (let r : Result ℕ ℕ = Err at in r) → insert rs at (key, x) ≡ rows.put R key x rs
    row_inserted key x rs rising at le parted =
        inserted key x rs at le (λ j d lt. (parted (comparisons_rise key rs rising)).0 j d (omega arith) lt) (λ j d more within. (parted (comparisons_rise key rs rising)).1 j d more within)

    -- ---- the row of a key

    module _ (exact : (a b : K) → R a b ≡ Equal → a ≡ b) where
      pub row_found : (key : K) (rs : List (K × X)) → rows.is_sorted R rs ≡ true → (i : ℕ) → i < length rs → ((d : K × X) → R (get_or rs i d).0 key ≡ Equal) → (d : K × X) → rows.find R key rs ≡ Some (get_or rs i d).1
      row_found key [] rising i within equal d = absurd (omega arith)
      row_found key (r ∷ rs) rising zero within equal d = ap (λ (o : Ordering). cond (is_eq o) (Some r.1) (rows.find R key rs)) (turned r.0 key Equal (equal r))
      row_found key (r ∷ rs) rising (suc i) within equal d =
          let is : (get_or rs i r).0 ≡ key = exact (get_or rs i r).0 key (equal r) in
          let less : R r.0 key ≡ Less = subst (λ (q : K). R r.0 q ≡ Less) is (below_at r.0 rs (first_so _ _ rising) i r (omega arith)) in
          ap (λ (o : Ordering). cond (is_eq o) (Some r.1) (rows.find R key rs)) (turned r.0 key Less less) ∙ row_found key rs (second_so _ _ rising) i (omega arith) equal d

      -- with something else in it
      pub row_set : (key : K) (x : X) (rs : List (K × X)) → rows.is_sorted R rs ≡ true → (i : ℕ) → i < length rs → ((d : K × X) → (get_or rs i d).0 ≡ key) → set rs i (key, x) ≡ rows.put R key x rs
      row_set key x [] rising i within equal = absurd (omega arith)
      row_set key x (r ∷ rs) rising zero within equal =
          ap (λ (q : K). (q, x) ∷ rs) (sym (equal r)) ∙ sym (put_by key x r rs Equal (subst (λ (q : K). R q r.0 ≡ Equal) (equal r) (tied_itself total r.0)))
      row_set key x (r ∷ rs) rising (suc i) within equal =
          let less : R r.0 key ≡ Less = subst (λ (q : K). R r.0 q ≡ Less) (equal r) (below_at r.0 rs (first_so _ _ rising) i r (omega arith)) in
          ap (λ (t : List (K × X)). r ∷ t) (row_set key x rs (second_so _ _ rising) i (omega arith) equal) ∙ sym (put_by key x r rs Greater (turned r.0 key Less less))
