-- The places of items, by their numbers.
use Rattle.std.proofs.Common.{◌≡◌, ◌≢◌, inl, inr, ℕ, zero, suc, ◌-◌, ◌<◌, ◌≤◌, Bool, true, false, cond, filter, nat_lt, List, [], ◌∷◌, ◌++◌, length, get_or, take, None, Some, Result, Ok, Err, is_some, Option, option_copied, Bor, refl, ap, sym, subst, ◌∙◌, arith, rules}
use Rattle.std.specs.List.{AllByRecursion, Contains, insert}
use Rattle.std.specs.Prelude.{MatchResult, ◌||◌, ◌==◌}
use Rattle.std.specs.List.Sorted.{IsBinarySearchResult, IsNonDecreasingBy, IsPermutation, IsSearchInRange}
use Rattle.std.specs.Ordering.{nat_cmp, ordering_index}
use Rattle.std.specs.declared.cmp.Ordering.{Ordering}
use Rattle.std.specs.declared.cmp.Ordering.TheVariants.{Less, Equal, Greater}
use Rattle.std.specs.Cmp.{nat_cmp_is}
use Rattle.std.proofs.lemmas.Bool.{cases_order, lt-ltb, ltb-true}
use Rattle.std.proofs.lemmas.Cmp.{ranked}
use Rattle.std.proofs.lemmas.List.{get_or-take, get_or_append_left, get_or_push, length-take-le, length_push}
use Rattle.std.proofs.lemmas.List.Elements.{All-filter, All-from_recursion, All-push, All-weaker, Contains-append_left, Contains-append_right, Contains-get_or, Contains-push, filter_passes}
use Rattle.std.proofs.lemmas.List.Sorted.{All-permutation, Contains-permutation, IsNonDecreasingBy-insert, IsNonDecreasingBy-push, IsPermutation-append_comm, IsPermutation-insert, IsPermutation-trans}
use Rattle.verb_core.specs.declared.item.Item.{Item}
use Rattle.verb_core.specs.Items.{NumbersApart}
use Rattle.verb_core.proofs.Searched.{index_at_most, lower_is}
use Rattle.store_kept.specs.Founding.{has_number}
use Rattle.mail_desk.specs.Places.{HasPlaces, IsIndex, IsPlaceAmong, IsPlaceIn}
use Rattle.mail_desk.specs.Timeline.{item_of}
use Rattle.mail_desk.proofs.Timelines.{front_at, front_none, item_at, none_at}

-- ---- comparing numbers

-- a lower number compares no higher
less_compared : (a b n : ℕ) → a < b → ordering_index (nat_cmp a n) ≤ ordering_index (nat_cmp b n)
less_compared a b n lt =
    elim (cases_order a n) [
      | inl same ↦
          let more : n < b = omega arith in
          let first : nat_cmp a n ≡ Equal = sym (nat_cmp_is a n Equal same) in
          let second : nat_cmp b n ≡ Greater = sym (nat_cmp_is b n Greater more) in
          rw (first, second) (search rules)
      | inr (inl less) ↦ rw (lower_is a n less) (search rules)
      | inr (inr more) ↦
          let also : n < b = omega arith in
          let second : nat_cmp b n ≡ Greater = sym (nat_cmp_is b n Greater also) in
          rw second (index_at_most (nat_cmp a n))
    ]

pub compared : (a b n : ℕ) → a ≤ b → ordering_index (nat_cmp a n) ≤ ordering_index (nat_cmp b n)
compared a b n le =
    elim (cases_order a b) [
      | inl same ↦ rw same (search rules)
      | inr (inl lt) ↦ less_compared a b n lt
      | inr (inr gt) ↦ absurd (omega arith)
    ]

-- ---- the row of a number

module _ (rows : List (ℕ × ℕ)) (t : List Item) (index : IsIndex rows t) (number : ℕ) where
  comparisons_rise : IsNonDecreasingBy (λ (r : ℕ × ℕ). ordering_index (nat_cmp r.0 number)) rows
  comparisons_rise i j d le within = compared (get_or rows i d).0 (get_or rows j d).0 number (index.ordered i j d le within)

  -- a binary search ends at a row of the item of the number
  pub item_found : NumbersApart t → (at : ℕ) (d : ℕ × ℕ) (e : Item) → at < length rows → ((r : ℕ × ℕ) → nat_cmp (get_or rows at r).0 number ≡ Equal) → item_of t number ≡ Some (get_or t (get_or rows at d).1 e)
  item_found apart at d e within equal =
      let placed = index.right at d within in
      item_at t apart (get_or rows at d).1 e number placed.within (placed.number e ∙ ranked _ _ Equal (sym (equal d)))

  -- one of the first so many items, where it stands before them
  pub item_before : NumbersApart t → (at : ℕ) (d : ℕ × ℕ) (e : Item) (count : ℕ) → at < length rows → ((r : ℕ × ℕ) → nat_cmp (get_or rows at r).0 number ≡ Equal) → (get_or rows at d).1 < count
      → item_of (take count t) number ≡ Some (get_or t (get_or rows at d).1 e)
  item_before apart at d e count within equal less =
      let placed = index.right at d within in
      front_at t apart (get_or rows at d).1 e number count placed.within (placed.number e ∙ ranked _ _ Equal (sym (equal d))) less

  -- and none of them, where it stands behind them
  pub item_behind : NumbersApart t → (at : ℕ) (d : ℕ × ℕ) (count : ℕ) → at < length rows → ((r : ℕ × ℕ) → nat_cmp (get_or rows at r).0 number ≡ Equal) → count ≤ (get_or rows at d).1
      → item_of (take count t) number ≡ None
  item_behind apart at d count within equal more =
      let placed = index.right at d within in
      front_none t apart (get_or rows at d).1 number count placed.within (λ e. placed.number e ∙ ranked _ _ Equal (sym (equal d))) more

  -- or there is none
  pub item_missing : (at : ℕ) → IsBinarySearchResult (λ (r : ℕ × ℕ). nat_cmp r.0 number) rows (let r : Result ℕ ℕ = Err at in r) → item_of t number ≡ None
  item_missing at parted =
      let differs : (o : Ordering) (a : ℕ) → nat_cmp a number ≡ o → o ≢ Equal → a ≢ number =
      λ o a e no same. no (sym e ∙ sym (nat_cmp_is a number Equal same)) in
      let other : (k : ℕ) (d : ℕ × ℕ) → k < length rows → (get_or rows k d).0 ≢ number =
      λ k d within. elim (cases_order k at) [
        | inr (inl lt) ↦ differs Less _ ((parted comparisons_rise).0 k d (omega arith) lt) (λ e. cc)
        | inl same ↦ differs Greater _ ((parted comparisons_rise).1 k d (omega arith) within) (λ e. cc)
        | inr (inr gt) ↦ differs Greater _ ((parted comparisons_rise).1 k d (omega arith) within) (λ e. cc)
      ] in
      none_at t number (λ place d within e.
      let row = index.whole place d within in
      other row.0 ((get_or t place d).number, place) row.1 (ap (λ (r : ℕ × ℕ). r.0) row.2 ∙ e))

-- ---- an item more

place_on : (t : List Item) (i : Item) (r : ℕ × ℕ) → IsPlaceIn t r → IsPlaceIn (t ++ i ∷ []) r
place_on t i r is =
    let inside : r.1 < length t = is.within in
    record {
      within = omega (arith, length_push t i);
      number = λ d. ap (λ (j : Item). j.number) (get_or_append_left t (i ∷ []) d r.1 inside) ∙ is.number d;
    }

-- of a number above all before it
pub index_on : (rows : List (ℕ × ℕ)) (t : List Item) (i : Item) → IsIndex rows t → AllByRecursion (λ (j : Item). j.number < i.number) t → IsIndex (rows ++ (i.number, length t) ∷ []) (t ++ i ∷ [])
index_on rows t i index lower = record {
  ordered = IsNonDecreasingBy-push (λ (r : ℕ × ℕ). r.0) rows (i.number, length t) index.ordered (λ d some.
      let last : length rows - 1 < length rows = omega arith in
      let placed = index.right (length rows - 1) d last in
      let less : (get_or t (get_or rows (length rows - 1) d).1 i).number < i.number = All-from_recursion (λ (j : Item). j.number < i.number) t lower (get_or rows (length rows - 1) d).1 i placed.within in
      let is : (get_or t (get_or rows (length rows - 1) d).1 i).number ≡ (get_or rows (length rows - 1) d).0 = placed.number i in
      omega arith);
  right = All-push (IsPlaceIn (t ++ i ∷ [])) rows (i.number, length t) (All-weaker (IsPlaceIn t) (IsPlaceIn (t ++ i ∷ [])) (place_on t i) rows index.right) (record {
    within = omega (arith, length_push t i);
    number = λ d. ap (λ (j : Item). j.number) (get_or_push t i d (length t) refl);
  });
  whole = λ place d within. elim (cases_order place (length t)) [
    | inl same ↦
        subst (λ (n : ℕ). Contains (rows ++ (i.number, length t) ∷ []) ((get_or (t ++ i ∷ []) n d).number, n)) (sym same)
        (subst (λ (j : Item). Contains (rows ++ (i.number, length t) ∷ []) (j.number, length t)) (sym (get_or_push t i d (length t) refl)) (Contains-push rows (i.number, length t)))
    | inr (inl lt) ↦
        subst (λ (j : Item). Contains (rows ++ (i.number, length t) ∷ []) (j.number, place)) (sym (get_or_append_left t (i ∷ []) d place lt))
        (Contains-append_left rows ((i.number, length t) ∷ []) ((get_or t place d).number, place) (index.whole place d lt))
    | inr (inr gt) ↦ absurd (omega (arith, length_push t i))
  ];
}

-- ---- no items

pub index_none : (rows : List (ℕ × ℕ)) (t : List Item) → rows ≡ [] → t ≡ [] → IsIndex rows t
index_none rows t none empty =
    subst (λ (rs : List (ℕ × ℕ)). IsIndex rs t) (sym none) (subst (λ (s : List Item). IsIndex [] s) (sym empty) (record {
      ordered = λ i j d le within. absurd (omega arith);
      right = λ k d within. absurd (omega arith);
      whole = λ place d within. absurd (omega arith);
    }))

-- ---- items in any order

-- an item more
pub place_last : (rows : List (ℕ × ℕ)) (t : List Item) (i : Item) → HasPlaces rows t (length t) → HasPlaces (rows ++ (i.number, length t) ∷ []) (t ++ i ∷ []) (length (t ++ i ∷ []))
place_last rows t i has = record {
  right = All-push (IsPlaceIn (t ++ i ∷ [])) rows (i.number, length t) (All-weaker (IsPlaceIn t) (IsPlaceIn (t ++ i ∷ [])) (place_on t i) rows has.right) (record {
    within = omega (arith, length_push t i);
    number = λ d. ap (λ (j : Item). j.number) (get_or_push t i d (length t) refl);
  });
  whole = λ place d within. elim (cases_order place (length t)) [
    | inl same ↦
        subst (λ (n : ℕ). Contains (rows ++ (i.number, length t) ∷ []) ((get_or (t ++ i ∷ []) n d).number, n)) (sym same)
        (subst (λ (j : Item). Contains (rows ++ (i.number, length t) ∷ []) (j.number, length t)) (sym (get_or_push t i d (length t) refl)) (Contains-push rows (i.number, length t)))
    | inr (inl lt) ↦
        subst (λ (j : Item). Contains (rows ++ (i.number, length t) ∷ []) (j.number, place)) (sym (get_or_append_left t (i ∷ []) d place lt))
        (Contains-append_left rows ((i.number, length t) ∷ []) ((get_or t place d).number, place) (has.whole place d lt))
    | inr (inr gt) ↦ absurd (omega (arith, length_push t i))
  ];
}

-- what passes a test is still there
kept_there : {X : Type 0} (p : X → Bool) (xs : List X) (x : X) → p x ≡ true → Contains xs x → Contains (filter p xs) x
kept_there p [] x passes there = absurd (let low : there.0 < 0 = there.1 in omega arith)
kept_there p (y ∷ xs) x passes (zero, within, same) =
    subst (λ (b : Bool). Contains (cond b (y ∷ filter p xs) (filter p xs)) x) (sym (ap p same ∙ passes))
    (subst (λ z. Contains (y ∷ filter p xs) z) same (Contains-get_or (y ∷ filter p xs) 0 y (omega arith)))
kept_there p (y ∷ xs) x passes (suc k, within, same) =
    let rest : Contains (filter p xs) x = kept_there p xs x passes (k, omega arith, same) in
    elim (p y) as (λ b. Contains (cond b (y ∷ filter p xs) (filter p xs)) x) [
      | true ↦ Contains-append_right (y ∷ []) (filter p xs) x rest
      | false ↦ rest
    ]

-- the rows of the first so many places are those of the first so many items
pub places_kept : (rows : List (ℕ × ℕ)) (t : List Item) (n : ℕ) → IsIndex rows t → n ≤ length t → HasPlaces (filter (λ (r : ℕ × ℕ). nat_lt r.1 n) rows) (take n t) (length (take n t))
places_kept rows t n index le = record {
  right = λ k d within.
      let row = get_or (filter (λ (r : ℕ × ℕ). nat_lt r.1 n) rows) k d in
      let inside = All-filter (λ (r : ℕ × ℕ). nat_lt r.1 n) (IsPlaceIn t) rows index.right k d within in
      let lt : row.1 < n = ltb-true row.1 n (filter_passes (λ (r : ℕ × ℕ). nat_lt r.1 n) rows k d within) in
      record {
        within = omega (arith, lt, length-take-le n t le);
        number = λ e. ap (λ (j : Item). j.number) (get_or-take n t row.1 e lt) ∙ inside.number e;
      };
  whole = λ place d within.
      let lt : place < n = omega (arith, length-take-le n t le) in
      let there : place < length t = omega arith in
      subst (λ (j : Item). Contains (filter (λ (r : ℕ × ℕ). nat_lt r.1 n) rows) (j.number, place)) (sym (get_or-take n t place d lt))
      (kept_there (λ (r : ℕ × ℕ). nat_lt r.1 n) rows ((get_or t place d).number, place) (lt-ltb place n lt) (index.whole place d there));
}

pub still_kept : (rows kept : List (ℕ × ℕ)) (t front : List Item) (n : ℕ) → IsIndex rows t → n ≤ length t → kept ≡ filter (λ (r : ℕ × ℕ). nat_lt r.1 n) rows → front ≡ take n t → HasPlaces kept front (length front)
still_kept rows kept t front n index le are is =
    subst (λ (rs : List (ℕ × ℕ)). HasPlaces rs front (length front)) (sym are)
    (subst (λ (f : List Item). HasPlaces (filter (λ (r : ℕ × ℕ). nat_lt r.1 n) rows) f (length f)) (sym is) (places_kept rows t n index le))

-- the first of the first ones
pub taken_twice : {X : Type 0} (n m : ℕ) (xs : List X) → n ≤ m → take n (take m xs) ≡ take n xs
taken_twice zero m xs le = refl
taken_twice (suc n) zero xs le = absurd (omega (arith, le))
taken_twice (suc n) (suc m) [] le = refl
taken_twice (suc n) (suc m) (x ∷ xs) le = ap (λ (t : List _). x ∷ t) (taken_twice n m xs (omega (arith, le)))

-- sorted they are an index
pub index_sorted : (rows sorted : List (ℕ × ℕ)) (t : List Item) → HasPlaces rows t (length t) → IsNonDecreasingBy (λ (r : ℕ × ℕ). r.0) sorted → IsPermutation rows sorted → IsIndex sorted t
index_sorted rows sorted t places ordered same = record {
  ordered = ordered;
  right = All-permutation (IsPlaceIn t) rows sorted same places.right;
  whole = λ place d within. Contains-permutation rows sorted ((get_or t place d).number, place) same (places.whole place d within);
}

-- an item of a number is found where there is one
pub number_found : (t : List Item) (number : ℕ) → is_some (item_of t number) ≡ has_number t number
number_found [] number = refl
number_found (i ∷ t) number = elim (i.number == number) as (λ b. is_some (cond b (Some i) (item_of t number)) ≡ (b || has_number t number)) [ true ↦ refl | false ↦ number_found t number ]

pub copied_some : {X : Type 0} (o : Option (Bor X)) → is_some (option_copied o) ≡ is_some o
copied_some None = refl
copied_some (Some x) = refl

-- ---- a row that comes in among the others

-- where a search by halves ends, a number comes in
pub place_among : (rows : List (ℕ × ℕ)) (number : ℕ) → IsNonDecreasingBy (λ (r : ℕ × ℕ). r.0) rows → (r : Result ℕ ℕ) → IsSearchInRange r (length rows) → IsBinarySearchResult (λ (row : ℕ × ℕ). nat_cmp row.0 number) rows r
    → (at : ℕ) → MatchResult r (λ place. place ≡ at) (λ place. place ≡ at) → IsPlaceAmong number rows at
place_among rows number rising (Ok place) range equal at is =
    let here = λ (d : ℕ × ℕ). ranked (get_or rows place d).0 number Equal (sym (equal d)) in
    record {
      within = omega (arith, range, is);
      before = λ k d less. let le = rising k place d (omega (arith, is)) range in let same : (get_or rows place d).0 ≡ number = here d in omega (arith, le);
      behind = λ k d more within. let le = rising place k d (omega (arith, is)) within in let same : (get_or rows place d).0 ≡ number = here d in omega (arith, le);
    }
place_among rows number rising (Err place) range parted at is =
    let ends = parted (λ i j d le within. compared (get_or rows i d).0 (get_or rows j d).0 number (rising i j d le within)) in
    record {
      within = omega (arith, range, is);
      before = λ k d less. let lower : (get_or rows k d).0 < number = ranked (get_or rows k d).0 number Less (sym (ends.0 k d (omega (arith, range, is)) (omega (arith, is)))) in omega (arith, lower);
      behind = λ k d more within. let higher : number < (get_or rows k d).0 = ranked (get_or rows k d).0 number Greater (sym (ends.1 k d (omega (arith, is)) within)) in omega (arith, higher);
    }

-- the last item's row
pub index_put : (rows : List (ℕ × ℕ)) (t : List Item) (item : Item) (at : ℕ) → IsIndex rows t → IsPlaceAmong item.number rows at → IsIndex (insert rows at (item.number, length t)) (t ++ item ∷ [])
index_put rows t item at index among =
    let row : ℕ × ℕ = (item.number, length t) in
    index_sorted (rows ++ row ∷ []) (insert rows at row) (t ++ item ∷ []) (place_last rows t item (record { right = index.right; whole = index.whole }))
    (IsNonDecreasingBy-insert (λ (r : ℕ × ℕ). r.0) rows at row index.ordered among.within among.before among.behind)
    (IsPermutation-trans (rows ++ row ∷ []) (row ∷ rows) (insert rows at row) (IsPermutation-append_comm rows (row ∷ [])) (IsPermutation-insert rows at row))
