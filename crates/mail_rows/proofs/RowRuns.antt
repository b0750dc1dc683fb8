-- Rows in order that pass a test stand side by side, behind those that stand first; a user's do.
use Rattle.std.proofs.Common.{◌≡◌, ℕ, suc, ◌<◌, ◌≤◌, Bool, true, false, cond, List, [], ◌∷◌, get_or, take, drop, filter, length, refl, sym, ap, subst, ◌∙◌, arith, rules, is_lt, inl, inr, true≢false, nat_lt, eqb-true, Ordering, Less, Equal, Greater, nat_cmp}
use Rattle.std.specs.Ordering.{ordering_then}
use Rattle.std.specs.Cmp.{second_so}
use Rattle.std.specs.List.Sorted.{IsPartitionedBy}
use Rattle.std.proofs.lemmas.Bool.{cases_order, lt-ltb, ltb-true}
use Rattle.std.proofs.lemmas.Bool.Decides.{nat_tests}
use Rattle.std.proofs.lemmas.Map.Lookups.{exact_unsigned}
use Rattle.undo_base.specs.declared.keys.User.{User}
use Rattle.verb_core.specs.declared.mailbox.BoxId.{BoxId}
use Rattle.verb_core.specs.declared.mailbox.Mailbox.{Mailbox}
use Rattle.verb_core.specs.Boxes.{box_cmp, is_rising, same_user}
use Rattle.verb_core.specs.Step.{Boxes}
use Rattle.verb_core.proofs.Searched.{rising_at}
use Rattle.mail_rows.proofs.ConfLaws.{front}
use Rattle.mail_rows.specs.Inferiors.{is_earlier, rows_from}

-- ---- tests whose passes stand in front

all_none : {X : Type 0} (p : X → Bool) (xs : List X) → ((j : ℕ) (d : X) → j < length xs → p (get_or xs j d) ≡ true → ⊥) → filter p xs ≡ []
all_none p [] none = refl
all_none p (x ∷ xs) none = elim (p x) as (λ b. p x ≡ b → cond b (x ∷ filter p xs) (filter p xs) ≡ []) [
  | true ↦ λ e. absurd (none 0 x (omega arith) e)
  | false ↦ λ e. all_none p xs (λ j d lt h. none (suc j) d (omega (arith, lt)) h)
] refl

in_front : {X : Type 0} (p : X → Bool) (xs : List X) → IsPartitionedBy p xs → filter p xs ≡ take (front p xs) xs
in_front p [] parted = refl
in_front p (x ∷ xs) parted = elim (p x) as (λ b. p x ≡ b → cond b (x ∷ filter p xs) (filter p xs) ≡ take (cond b (suc (front p xs)) 0) (x ∷ xs)) [
  | true ↦ λ e. ap (λ t. x ∷ t) (in_front p xs (λ i j d le lt h. parted (suc i) (suc j) d (omega (arith, le)) (omega (arith, lt)) h))
  | false ↦ λ e. all_none p xs (λ j d lt h. true≢false (sym (parted 0 (suc j) d (omega arith) (omega (arith, lt)) h) ∙ e))
] refl

-- ---- rows

-- those that pass lie behind all that stand first, with nothing between them
pub record AreTogether (first passes : BoxId → Bool) : Type 0 where
  pub down : (a b : BoxId) → box_cmp a b ≡ Less → first b ≡ true → first a ≡ true
  pub apart : (q : BoxId) → first q ≡ true → passes q ≡ false
  pub between : (a b : BoxId) → box_cmp a b ≡ Less → first a ≡ false → passes b ≡ true → passes a ≡ true

abbrev pub of_row : (BoxId → Bool) → BoxId × Mailbox → Bool
of_row test r = test r.0

pub drop_first : (first : BoxId → Bool) (rs : Boxes) → drop (front (of_row first) rs) rs ≡ rows_from first rs
drop_first first [] = refl
drop_first first (r ∷ rs) = elim (first r.0) as (λ b. drop (cond b (suc (front (of_row first) rs)) 0) (r ∷ rs) ≡ cond b (rows_from first rs) (r ∷ rs)) [ true ↦ drop_first first rs | false ↦ refl ]

rising_from : (first : BoxId → Bool) (rs : Boxes) → is_rising rs ≡ true → is_rising (rows_from first rs) ≡ true
rising_from first [] h = refl
rising_from first (r ∷ rs) h = elim (first r.0) as (λ b. is_rising (cond b (rows_from first rs) (r ∷ rs)) ≡ true) [ true ↦ rising_from first rs (second_so _ _ h) | false ↦ h ]

module _ (first passes : BoxId → Bool) (are : AreTogether first passes) where
  -- those that stand first are at the front
  pub first_parted : (rs : Boxes) → is_rising rs ≡ true → IsPartitionedBy (of_row first) rs
  first_parted rs rising i j d le lt h = elim (cases_order i j) [
    | inr (inl less) ↦ are.down (get_or rs i d).0 (get_or rs j d).0 (rising_at rs rising i j d less lt) h
    | inl same ↦ subst (λ (k : ℕ). first (get_or rs k d).0 ≡ true) (sym same) h
    | inr (inr more) ↦ absurd (omega (arith, le, more))
  ]

  -- of those behind them none is
  none_first : (rs : Boxes) → is_rising rs ≡ true → (i : ℕ) (d : BoxId × Mailbox) → i < length (rows_from first rs) → first (get_or (rows_from first rs) i d).0 ≡ false
  none_first [] rising = λ i d lt. absurd (omega (arith, lt))
  none_first (r ∷ rs) rising = elim (first r.0) as (λ b. first r.0 ≡ b → (i : ℕ) (d : BoxId × Mailbox) → i < length (cond b (rows_from first rs) (r ∷ rs)) → first (get_or (cond b (rows_from first rs) (r ∷ rs)) i d).0 ≡ false) [
    | true ↦ λ e. none_first rs (second_so _ _ rising)
    | false ↦ λ e i d lt. elim (first (get_or (r ∷ rs) i d).0) as (λ b. first (get_or (r ∷ rs) i d).0 ≡ b → b ≡ false) [
      | true ↦ λ h. absurd (true≢false (sym (first_parted (r ∷ rs) rising 0 i d (omega arith) lt h) ∙ e))
      | false ↦ λ h. refl
    ] refl
  ] refl

  pub passes_parted : (rs : Boxes) → is_rising rs ≡ true → IsPartitionedBy (of_row passes) (rows_from first rs)
  passes_parted rs rising i j d le lt h = elim (cases_order i j) [
    | inr (inl less) ↦ are.between (get_or (rows_from first rs) i d).0 (get_or (rows_from first rs) j d).0 (rising_at (rows_from first rs) (rising_from first rs rising) i j d less lt) (none_first rs rising i d (omega (arith, less, lt))) h
    | inl same ↦ subst (λ (k : ℕ). passes (get_or (rows_from first rs) k d).0 ≡ true) (sym same) h
    | inr (inr more) ↦ absurd (omega (arith, le, more))
  ]

  first_left : (rs : Boxes) → filter (of_row passes) (rows_from first rs) ≡ filter (of_row passes) rs
  first_left [] = refl
  first_left (r ∷ rs) = elim (first r.0) as (λ b. first r.0 ≡ b → filter (of_row passes) (cond b (rows_from first rs) (r ∷ rs)) ≡ filter (of_row passes) (r ∷ rs)) [
    | true ↦ λ e. first_left rs ∙ sym (ap (λ b. cond b (r ∷ filter (of_row passes) rs) (filter (of_row passes) rs)) (are.apart r.0 e))
    | false ↦ λ e. refl
  ] refl

  pub run_is : (rs : Boxes) (n : ℕ) → is_rising rs ≡ true → n ≡ front (of_row passes) (rows_from first rs) → take n (rows_from first rs) ≡ filter (of_row passes) rs
  run_is rs n rising is =
      ap (λ (k : ℕ). take k (rows_from first rs)) is
      ∙ sym (in_front (of_row passes) (rows_from first rs) (passes_parted rs rising))
      ∙ first_left rs

-- ---- a user's rows

pub lt_is : (x y : ℕ) → nat_lt x y ≡ is_lt (nat_cmp x y)
lt_is x y = search rules

-- of two rows in order the user of the first is no later one
no_later : (m n : ℕ) (o : Ordering) → ordering_then (nat_cmp m n) o ≡ Less → m ≤ n
no_later m n o less = elim (nat_cmp m n) as (λ x. nat_cmp m n ≡ x → ordering_then x o ≡ Less → m ≤ n) [
  | Less ↦ λ e h. (let lt : nat_lt m n ≡ true = lt_is m n ∙ ap is_lt e in let less : m < n = ltb-true m n lt in omega (arith, less))
  | Equal ↦ λ e h. (let same : m ≡ n = exact_unsigned m n e in omega (arith, same))
  | Greater ↦ λ e h. absurd (no_less h)
] refl less
  where
    no_less : ◌≡◌ {A = Ordering} Greater Less → ⊥
    no_less h = cc

pub users_together : (u : User) → AreTogether (is_earlier u) (λ q. same_user u q.user)
users_together u = record {
  down = λ a b less h. (let le : a.user.0 ≤ b.user.0 = no_later a.user.0 b.user.0 _ less in let lt : b.user.0 < u.0 = ltb-true b.user.0 u.0 h in lt-ltb a.user.0 u.0 (omega (arith, le, lt)));
  apart = λ q h. (let lt : q.user.0 < u.0 = ltb-true q.user.0 u.0 h in grind (arith, nat_tests));
  between = λ a b less h same. (let le : a.user.0 ≤ b.user.0 = no_later a.user.0 b.user.0 _ less in let is : u.0 ≡ b.user.0 = eqb-true u.0 b.user.0 same in grind (arith, nat_tests));
}
