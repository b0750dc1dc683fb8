-- Aliases and filters set in their places.
use Rattle.std.proofs.Common.{◌≡◌, ℕ, zero, suc, ◌<◌, ◌≤◌, Bool, true, false, not, ◌||◌, cond, List, [], ◌∷◌, refl, sym, ap, ◌∙◌, arith, true≢false, insert, set, length, take_while, filter, bytes_eq, Less, Equal, Greater, is_eq, is_gt, nat_cmp}
use Rattle.std.proofs.lemmas.List.Sums.{take_while-cons}
use Rattle.std.specs.Cmp.Lexicographic.{slice_cmp}
use Rattle.std.specs.List.{list_any}
use Rattle.std.specs.FinMap.Entries.{by_order}
use Rattle.undo_base.specs.declared.keys.User.{User}
use Rattle.verb_core.specs.declared.conf.Alias.{Alias}
use Rattle.verb_core.specs.declared.conf.Filter.{Filter}
use Rattle.verb_core.specs.declared.conf.House.{House}
use Rattle.verb_core.specs.Boxes.{same_user}
use Rattle.verb_core.specs.Store.{users_of}
use Rattle.verb_core.specs.Step.{in_order, with_alias, with_filter}
use Rattle.mail_rows.specs.Confs.{stands_before, stands_here, has_other_id}
use Rattle.mail_rows.specs.Reaching.{is_among_meanings}

-- how many of the first items pass a test
abbrev pub front : {X : Type 0} → (X → Bool) → List X → ℕ
front p [] = 0
front p (x ∷ xs) = cond (p x) (suc (front p xs)) 0

pub length-front : {X : Type 0} (p : X → Bool) (xs : List X) → length (take_while p xs) ≡ front p xs
length-front p [] = refl
length-front p (x ∷ xs) =
    ap length (take_while-cons p x xs)
    ∙ elim (p x) as (λ b. length (cond b (x ∷ take_while p xs) []) ≡ cond b (suc (front p xs)) 0) [ true ↦ ap suc (length-front p xs) | false ↦ refl ]

pub front_within : {X : Type 0} (p : X → Bool) (xs : List X) → front p xs ≤ length xs
front_within p [] = omega arith
front_within p (x ∷ xs) =
    let rest : front p xs ≤ length xs = front_within p xs in
    elim (p x) as (λ b. cond b (suc (front p xs)) 0 ≤ suc (length xs)) [ true ↦ omega arith | false ↦ omega arith ]

-- a place within the list, or at its end
pub place_within : {X : Type 0} (p : X → Bool) (xs : List X) (n : ℕ) → n ≡ length (take_while p xs) → n ≤ length xs
place_within p xs n is =
    let front_is : length (take_while p xs) ≡ front p xs = length-front p xs in
    let within : front p xs ≤ length xs = front_within p xs in
    omega arith

-- ---- aliases

here_within : (local : List ℕ) (n : ℕ) (all : List Alias) → stands_here local n all ≡ true → n < length all
here_within local n [] h = cc
here_within local zero (a ∷ rest) h = omega arith
here_within local (suc n) (a ∷ rest) h =
    let more : n < length rest = here_within local n rest h in
    omega arith

alias_here : (new : Alias) (all : List Alias) → stands_here new.local (front (stands_before new.local) all) all ≡ true → set all (front (stands_before new.local) all) new ≡ with_alias new all
alias_here new [] h = cc
alias_here new (a ∷ rest) h =
    elim (slice_cmp nat_cmp new.local a.local) as (λ o. slice_cmp nat_cmp new.local a.local ≡ o →
    stands_here new.local (cond (is_gt o) (suc (front (stands_before new.local) rest)) 0) (a ∷ rest) ≡ true →
    set (a ∷ rest) (cond (is_gt o) (suc (front (stands_before new.local) rest)) 0) new ≡ by_order o (new ∷ a ∷ rest) (new ∷ rest) (a ∷ with_alias new rest)) [
      | Less ↦ λ e here. absurd (true≢false (sym here ∙ ap is_eq e))
      | Equal ↦ λ e here. refl
      | Greater ↦ λ e here. ap (λ (t : List Alias). a ∷ t) (alias_here new rest here)
    ] refl h

alias_gap : (new : Alias) (all : List Alias) → stands_here new.local (front (stands_before new.local) all) all ≡ false → insert all (front (stands_before new.local) all) new ≡ with_alias new all
alias_gap new [] h = refl
alias_gap new (a ∷ rest) h =
    elim (slice_cmp nat_cmp new.local a.local) as (λ o. slice_cmp nat_cmp new.local a.local ≡ o →
    stands_here new.local (cond (is_gt o) (suc (front (stands_before new.local) rest)) 0) (a ∷ rest) ≡ false →
    insert (a ∷ rest) (cond (is_gt o) (suc (front (stands_before new.local) rest)) 0) new ≡ by_order o (new ∷ a ∷ rest) (new ∷ rest) (a ∷ with_alias new rest)) [
      | Less ↦ λ e here. refl
      | Equal ↦ λ e here. absurd (true≢false (sym (ap is_eq e) ∙ here))
      | Greater ↦ λ e here. ap (λ (t : List Alias). a ∷ t) (alias_gap new rest here)
    ] refl h

module _ (new : Alias) (all : List Alias) (n : ℕ) (is : n ≡ length (take_while (stands_before new.local) all)) where
  at_front : n ≡ front (stands_before new.local) all
  at_front = is ∙ length-front (stands_before new.local) all

  -- an alias in the place of another
  pub alias_replaced : stands_here new.local n all ≡ true → set all n new ≡ with_alias new all
  alias_replaced here =
      ap (λ (k : ℕ). set all k new) at_front ∙ alias_here new all (ap (λ (k : ℕ). stands_here new.local k all) (sym at_front) ∙ here)

  pub alias_within : stands_here new.local n all ≡ true → n < length all
  alias_within here = here_within new.local n all here

  -- an alias of a new local part
  pub alias_added : stands_here new.local n all ≡ false → insert all n new ≡ with_alias new all
  alias_added gap =
      ap (λ (k : ℕ). insert all k new) at_front ∙ alias_gap new all (ap (λ (k : ℕ). stands_here new.local k all) (sym at_front) ∙ gap)

-- ---- filters

filter_here : (new : Filter) (all : List Filter) → front (has_other_id new.id) all < length all → set all (front (has_other_id new.id) all) new ≡ with_filter new all
filter_here new [] h = absurd (omega arith)
filter_here new (f ∷ rest) h =
    elim (bytes_eq new.id f.id) as (λ b. cond (not b) (suc (front (has_other_id new.id) rest)) 0 < suc (length rest) →
    set (f ∷ rest) (cond (not b) (suc (front (has_other_id new.id) rest)) 0) new ≡ cond b (new ∷ rest) (f ∷ with_filter new rest)) [
      | true ↦ λ lt. refl
      | false ↦ λ lt. ap (λ (t : List Filter). f ∷ t) (filter_here new rest (omega arith))
    ] h

filter_last : (new : Filter) (all : List Filter) → length all ≤ front (has_other_id new.id) all → insert all (front (has_other_id new.id) all) new ≡ with_filter new all
filter_last new [] h = refl
filter_last new (f ∷ rest) h =
    elim (bytes_eq new.id f.id) as (λ b. suc (length rest) ≤ cond (not b) (suc (front (has_other_id new.id) rest)) 0 →
    insert (f ∷ rest) (cond (not b) (suc (front (has_other_id new.id) rest)) 0) new ≡ cond b (new ∷ rest) (f ∷ with_filter new rest)) [
      | true ↦ λ le. absurd (omega arith)
      | false ↦ λ le. ap (λ (t : List Filter). f ∷ t) (filter_last new rest (omega arith))
    ] h

module _ (new : Filter) (all : List Filter) (n : ℕ) (is : n ≡ length (take_while (has_other_id new.id) all)) where
  at_other : n ≡ front (has_other_id new.id) all
  at_other = is ∙ length-front (has_other_id new.id) all

  -- a filter in the place of another
  pub filter_replaced : n < length all → set all n new ≡ with_filter new all
  filter_replaced within =
      ap (λ (k : ℕ). set all k new) at_other ∙ filter_here new all (omega (arith, at_other))

  -- a filter of a new name
  pub filter_added : length all ≤ n → insert all n new ≡ with_filter new all
  filter_added past =
      ap (λ (k : ℕ). insert all k new) at_other ∙ filter_last new all (omega (arith, at_other))

or_false : (b : Bool) → (b || false) ≡ b
or_false true = refl
or_false false = refl

-- the users of one list, in order
pub ordered : (house : House) (listed : List User) → filter (is_among_meanings (listed ∷ [])) (users_of house) ≡ in_order house listed
ordered house listed = ap (λ (test : User → Bool). filter test (users_of house)) (λ j u. or_false (list_any (same_user u) listed) j)
