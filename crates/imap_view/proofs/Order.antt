-- What is found by its number among items whose numbers rise.
use Rattle.std.proofs.Common.{◌≡◌, ℕ, zero, suc, ◌+◌, ◌<◌, ◌≤◌, Bool, true, false, cond, ◌||◌, is_some, List, [], ◌∷◌, Some, None, map, find, drop, length, get_or, add-one, inl, inr, refl, sym, ap, ◌∙◌, subst, arith, Less, Equal, Greater, ltb-true}
use Rattle.std.specs.Cmp.{first_so, second_so}
use Rattle.std.specs.List.{list_any, HoldsAt}
use Rattle.std.specs.List.Sorted.{IsNonDecreasingBy, IsPartitionPoint}
use Rattle.std.specs.Ordering.{nat_cmp, ordering_index}
use Rattle.std.proofs.lemmas.Bool.{cases_order}
use Rattle.std.proofs.lemmas.Bool.Decides.{nat_tests}
use Rattle.std.proofs.lemmas.List.{get_or_default}
use Rattle.imap_view.specs.Views.{AreBelow, rises_above}

-- one passes where one is found
pub any_find : {X : Type 0} (p : X → Bool) (xs : List X) → list_any p xs ≡ is_some (find p xs)
any_find p [] = refl
any_find p (x ∷ xs) = elim (p x) as (λ b. (b || list_any p xs) ≡ is_some (cond b (Some x) (find p xs))) [ true ↦ refl | false ↦ any_find p xs ]

pub some_if : {X : Type 0} (b : Bool) (x : X) → is_some (cond b (Some x) None) ≡ b
some_if true x = refl
some_if false x = refl

rest_any : {X : Type 0} (p : X → Bool) (xs : List X) (i : ℕ) (d : X) → i < length xs → p (get_or xs i d) ≡ false → list_any p (drop (suc i) xs) ≡ list_any p (drop i xs)
rest_any p [] i d lt h = absurd (omega arith)
rest_any p (x ∷ xs) zero d lt h = sym (ap (λ b. b || list_any p xs) h)
rest_any p (x ∷ xs) (suc i) d lt h = rest_any p xs i d (omega arith) h

-- one that does not pass makes no difference
pub any_rest : {X : Type 0} (p : X → Bool) (xs : List X) (i : ℕ) (d : X) → i < length xs → p (get_or xs i d) ≡ false → list_any p (drop (i + 1) xs) ≡ list_any p (drop i xs)
any_rest p xs i d lt h = ap (λ (n : ℕ). list_any p (drop n xs)) (add-one i) ∙ rest_any p xs i d lt h

index_rises : (a b n : ℕ) → a < b → ordering_index (nat_cmp a n) ≤ ordering_index (nat_cmp b n)
index_rises a b n lt = grind (arith, nat_tests)

pub equal_is : (a b : ℕ) → nat_cmp a b ≡ Equal → a ≡ b
equal_is a b e = grind (arith, nat_tests)

less_apart : (a b : ℕ) → nat_cmp a b ≡ Less → a ≡ b → ⊥
less_apart a b e same = grind (arith, nat_tests)

greater_apart : (a b : ℕ) → nat_cmp a b ≡ Greater → a ≡ b → ⊥
greater_apart a b e same = grind (arith, nat_tests)

module _ {X : Type 0} (u : X → ℕ) where
  -- all are above what they rise from
  above : (low : ℕ) (xs : List X) → rises_above low (map u xs) ≡ true → (j : ℕ) (d : X) → j < length xs → low < u (get_or xs j d)
  above low [] h j d within = absurd (omega arith)
  above low (x ∷ xs) h zero d within = ltb-true low (u x) (first_so _ _ h)
  above low (x ∷ xs) h (suc j) d within =
      let first : low < u x = ltb-true low (u x) (first_so _ _ h) in
      let later : u x < u (get_or xs j d) = above (u x) xs (second_so _ _ h) j d (omega arith) in omega arith

  pub apart : (low : ℕ) (xs : List X) → rises_above low (map u xs) ≡ true → (i j : ℕ) (d : X) → i < j → j < length xs → u (get_or xs i d) < u (get_or xs j d)
  apart low [] h i j d lt within = absurd (omega arith)
  apart low (x ∷ xs) h i zero d lt within = absurd (omega arith)
  apart low (x ∷ xs) h zero (suc j) d lt within = above (u x) xs (second_so _ _ h) j d (omega arith)
  apart low (x ∷ xs) h (suc i) (suc j) d lt within = apart (u x) xs (second_so _ _ h) i j d (omega arith) (omega arith)

  -- the comparisons with a number rise along them, as a binary search asks
  searchable : (xs : List X) → rises_above 0 (map u xs) ≡ true → (n : ℕ) → IsNonDecreasingBy (λ x. ordering_index (nat_cmp (u x) n)) xs
  searchable xs h n i j d le within =
      elim (cases_order i j) [
        | inr (inl lt) ↦ index_rises _ _ n (apart 0 xs h i j d lt within)
        | inl same ↦ subst (λ (k : ℕ). ordering_index (nat_cmp (u (get_or xs k d)) n) ≤ ordering_index (nat_cmp (u (get_or xs j d)) n)) (sym same) (omega arith)
        | inr (inr gt) ↦ absurd (omega arith)
      ]

  -- what rises strictly rises
  pub nondecreasing : (xs : List X) → rises_above 0 (map u xs) ≡ true → IsNonDecreasingBy u xs
  nondecreasing xs h i j d le within =
      elim (cases_order i j) [
        | inr (inl lt) ↦ (let less : u (get_or xs i d) < u (get_or xs j d) = apart 0 xs h i j d lt within in omega arith)
        | inl same ↦ subst (λ (k : ℕ). u (get_or xs k d) ≤ u (get_or xs j d)) (sym same) (omega arith)
        | inr (inr gt) ↦ absurd (omega arith)
      ]

  module _ (p : X → Bool) (n : ℕ) (only : (x : X) → p x ≡ true → u x ≡ n) where
    -- none passes where none has the number
    find_none : (xs : List X) → ((k : ℕ) (d : X) → k < length xs → u (get_or xs k d) ≡ n → ⊥) → find p xs ≡ None
    find_none [] h = refl
    find_none (x ∷ xs) h =
        elim (p x) as (λ b. p x ≡ b → cond b (Some x) (find p xs) ≡ None) [
          | true ↦ λ e. absurd (h 0 x (omega arith) (only x e))
          | false ↦ λ e. find_none xs (λ k d lt. h (suc k) d (omega arith))
        ] refl

    -- the one that has the number is found, if it passes
    find_there : (low : ℕ) (xs : List X) → rises_above low (map u xs) ≡ true → (i : ℕ) (d : X) → i < length xs → u (get_or xs i d) ≡ n
        → find p xs ≡ cond (p (get_or xs i d)) (Some (get_or xs i d)) None
    find_there low [] h i d within is = absurd (omega arith)
    find_there low (x ∷ xs) h zero d within is =
        ap (λ rest. cond (p x) (Some x) rest) (find_none xs (λ k d lt same. let a : u x < u (get_or xs k d) = above (u x) xs (second_so _ _ h) k d lt in omega arith))
    find_there low (x ∷ xs) h (suc i) d within is =
        elim (p x) as (λ b. p x ≡ b → cond b (Some x) (find p xs) ≡ cond (p (get_or xs i d)) (Some (get_or xs i d)) None) [
          | true ↦ λ e. let a : u x < u (get_or xs i d) = above (u x) xs (second_so _ _ h) i d (omega arith) in let b : u x ≡ n = only x e in absurd (omega arith)
          | false ↦ λ e. find_there (u x) xs (second_so _ _ h) i d (omega arith) is
        ] refl

    -- the one that passes is found
    pub found_there : (xs : List X) → rises_above 0 (map u xs) ≡ true → (i : ℕ) (d : X) → i < length xs → p (get_or xs i d) ≡ true → Some (get_or xs i d) ≡ find p xs
    found_there xs h i d within passes =
        sym (find_there 0 xs h i d within (only (get_or xs i d) passes) ∙ ap (λ b. cond b (Some (get_or xs i d)) None) passes)

    -- what a binary search found
    pub find_placed : (xs : List X) → rises_above 0 (map u xs) ≡ true → (i : ℕ) (d : X) → i < length xs → HoldsAt (λ x. nat_cmp (u x) n ≡ Equal) xs i
        → find p xs ≡ cond (p (get_or xs i d)) (Some (get_or xs i d)) None
    find_placed xs h i d within at = find_there 0 xs h i d within (equal_is _ _ (at d))

    pub found_yes : (xs : List X) → rises_above 0 (map u xs) ≡ true → (i : ℕ) (d : X) → i < length xs → HoldsAt (λ x. nat_cmp (u x) n ≡ Equal) xs i
        → p (get_or xs i d) ≡ true → Some (get_or xs i d) ≡ find p xs
    found_yes xs h i d within at passes = sym (find_placed xs h i d within at ∙ ap (λ b. cond b (Some (get_or xs i d)) None) passes)

    pub found_no : (xs : List X) → rises_above 0 (map u xs) ≡ true → (i : ℕ) (d : X) → i < length xs → HoldsAt (λ x. nat_cmp (u x) n ≡ Equal) xs i
        → p (get_or xs i d) ≡ false → None ≡ find p xs
    found_no xs h i d within at fails = sym (find_placed xs h i d within at ∙ ap (λ b. cond b (Some (get_or xs i d)) None) fails)

    pub find_gap : (xs : List X) → rises_above 0 (map u xs) ≡ true → (i : ℕ)
        → (IsNonDecreasingBy (λ x. ordering_index (nat_cmp (u x) n)) xs → IsPartitionPoint (λ x. nat_cmp (u x) n ≡ Less) (λ x. nat_cmp (u x) n ≡ Greater) xs i)
        → find p xs ≡ None
    find_gap xs h i parted =
        find_none xs (λ k d lt same. elim (cases_order k i) [
          | inr (inl less) ↦ less_apart _ _ ((parted (searchable xs h n)).0 k d (omega arith) less) same
          | inl at ↦ greater_apart _ _ ((parted (searchable xs h n)).1 k d (omega arith) lt) same
          | inr (inr more) ↦ greater_apart _ _ ((parted (searchable xs h n)).1 k d (omega arith) lt) same
        ])

-- ---- a walk along things whose numbers rise

module _ {X : Type 0} (u : X → ℕ) where
  -- what is below one is below those behind it, too
  pub below_later : (xs : List X) (n m at : ℕ) → n ≤ m → AreBelow u xs n at → AreBelow u xs m at
  below_later xs n m at le below j d lt = let b : u (get_or xs j d) < n = below j d lt in omega arith

  pub below_more : (xs : List X) (n at : ℕ) → AreBelow u xs n at → ((d : X) → u (get_or xs at d) < n) → AreBelow u xs n (at + 1)
  below_more xs n at below now j d lt =
      elim (cases_order j at) [
        | inr (inl less) ↦ below j d less
        | inl same ↦ subst (λ (k : ℕ). u (get_or xs k d) < n) (sym same) (now d)
        | inr (inr more) ↦ absurd (omega arith)
      ]

  module _ (p : X → Bool) (n : ℕ) (only : (x : X) → p x ≡ true → u x ≡ n) (xs : List X) (h : rises_above 0 (map u xs) ≡ true) (at : ℕ) (below : AreBelow u xs n at) where
    -- none passes, where the walk is past all
    pub any_past : length xs ≤ at → list_any p xs ≡ false
    any_past past = any_find p xs ∙ ap is_some (find_none u p n only xs (λ k d lt same. let b : u (get_or xs k d) < n = below k d (omega arith) in omega arith))

    any_there : (d : X) → at < length xs → u (get_or xs at d) ≡ n → list_any p xs ≡ p (get_or xs at d)
    any_there d lt is = any_find p xs ∙ ap is_some (find_there u p n only 0 xs h at d lt is) ∙ some_if (p (get_or xs at d)) (get_or xs at d)

    any_none : (d : X) → at < length xs → n < u (get_or xs at d) → list_any p xs ≡ false
    any_none d lt more =
        any_find p xs ∙ ap is_some (find_none u p n only xs (λ k e within same.
        let same_d : u (get_or xs k d) ≡ n = ap u (get_or_default xs k d e within) ∙ same in
        elim (cases_order k at) [
          | inr (inl less) ↦ (let b : u (get_or xs k d) < n = below k d less in absurd (omega arith))
          | inl here ↦ (let b : u (get_or xs at d) ≡ n = subst (λ (i : ℕ). u (get_or xs i d) ≡ n) here same_d in absurd (omega arith))
          | inr (inr later) ↦ (let b : u (get_or xs at d) < u (get_or xs k d) = apart u 0 xs h at k d later within in absurd (omega arith))
        ]))

    -- the one where the walk stands decides
    pub any_at : (d : X) → at < length xs → n ≤ u (get_or xs at d) → list_any p xs ≡ p (get_or xs at d)
    any_at d lt reached =
        elim (p (get_or xs at d)) as (λ b. p (get_or xs at d) ≡ b → list_any p xs ≡ b) [
          | true ↦ λ e. any_there d lt (only (get_or xs at d) e) ∙ e
          | false ↦ λ e. elim (cases_order n (u (get_or xs at d))) [
            | inl is ↦ any_there d lt (sym is) ∙ e
            | inr (inl more) ↦ any_none d lt more
            | inr (inr less) ↦ absurd (omega arith)
          ]
        ] refl
