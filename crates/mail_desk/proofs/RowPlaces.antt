-- Where the row of a mailbox stands among the stamps, and what is done there.
use Rattle.std.proofs.Common.{◌≡◌, ℕ, zero, suc, ◌≤◌, ◌<◌, Bool, true, false, not, cond, List, [], ◌∷◌, Some, is_some, refl, ap, sym, subst, ◌∙◌, is_lt, is_eq, is_gt, Less, Equal, Greater, Ordering, true≢false, drop, take_while, length, insert, remove, set, get_or, arith}
use Rattle.std.specs.List.{prefix_len}
use Rattle.std.specs.List.Sorted.{IsPartitionedBy, IsPartitionPoint}
use Rattle.std.proofs.Math.Numerals.{one-add}
use Rattle.std.proofs.lemmas.List.{length-take}
use Rattle.std.proofs.lemmas.List.Sums.{take_while-cons}
use Rattle.std.specs.Ordering.{eq_by_cmp}
use Rattle.std.specs.Cmp.{first_so, second_so}
use Rattle.std.specs.FinMap.Entries as rows
use Rattle.undo_base.specs.declared.keys.User.{User}
use Rattle.verb_core.specs.declared.mailbox.BoxId.{BoxId}
use Rattle.verb_core.specs.Boxes.{box_cmp, box_of, is_rising, row_at, has_row, add_row, drop_row}
use Rattle.verb_core.proofs.BoxLaws.{boxes_total, exact_boxes, rising-add_row, rising-drop_row, tied}
use Rattle.verb_core.proofs.RowLists.{none_below}
use Rattle.verb_core.proofs.Searched.{below_at, less_is, turned_over}
use Rattle.mail_desk.specs.declared.restamp.StampChange.{StampChange}
use Rattle.mail_desk.specs.declared.restamp.StampChange.TheVariants.{Made, Put, Gone, Moved}
use Rattle.mail_desk.specs.Stamping.{StampRows, begins_with, changed, stands_before}

-- ---- a row put where it stands in order

-- so many rows stand before it
pub place_within : (id : BoxId) (rs : StampRows) → length (take_while (stands_before id) rs) ≤ length rs
place_within id rs = omega (arith, length-take (prefix_len (stands_before id) rs) rs)

pub place_taken : (id : BoxId) (rs : StampRows) (place : ℕ) → begins_with id (drop place rs) ≡ true → place < length rs
place_taken id [] zero h = absurd (true≢false (sym h))
place_taken id [] (suc place) h = absurd (true≢false (sym h))
place_taken id (r ∷ rs) zero h = omega arith
place_taken id (r ∷ rs) (suc place) h = let rest = place_taken id rs place h in omega arith

one_more : (b : Bool) (r : BoxId × ℕ) (ss ts : StampRows) → cond b (r ∷ ss) (r ∷ ts) ≡ r ∷ cond b ss ts
one_more true r ss ts = refl
one_more false r ss ts = refl

-- it stands in the place of the row of its mailbox, or comes between
row_put : (id : BoxId) (number : ℕ) (rs : StampRows) →
    cond (begins_with id (drop (length (take_while (stands_before id) rs)) rs)) (set rs (length (take_while (stands_before id) rs)) (id, number)) (insert rs (length (take_while (stands_before id) rs)) (id, number)) ≡ add_row id number rs
row_put id number [] = refl
row_put id number (r ∷ rs) =
    elim (box_cmp id r.0) as (λ o. box_cmp id r.0 ≡ o → cond (begins_with id (drop (length (take_while (stands_before id) (r ∷ rs))) (r ∷ rs))) (set (r ∷ rs) (length (take_while (stands_before id) (r ∷ rs))) (id, number)) (insert (r ∷ rs) (length (take_while (stands_before id) (r ∷ rs))) (id, number)) ≡ add_row id number (r ∷ rs)) [
      | Less ↦ λ e. let no : eq_by_cmp box_cmp id r.0 ≡ false = ap is_eq e in rw (e, no) refl
      | Equal ↦ λ e. let yes : eq_by_cmp box_cmp id r.0 ≡ true = ap is_eq e in rw (e, yes) (ap (λ (q : BoxId). (q, number) ∷ rs) (tied id r.0 (ap is_eq e)))
      | Greater ↦ λ e. rw (e, one-add (prefix_len (stands_before id) rs))
          (one_more (begins_with id (drop (length (take_while (stands_before id) rs)) rs)) r (set rs (length (take_while (stands_before id) rs)) (id, number)) (insert rs (length (take_while (stands_before id) rs)) (id, number)) ∙ ap (λ (t : StampRows). r ∷ t) (row_put id number rs))
    ] refl

pub row_set : (id : BoxId) (number : ℕ) (rs : StampRows) (place : ℕ) → place ≡ length (take_while (stands_before id) rs) → begins_with id (drop place rs) ≡ true → set rs place (id, number) ≡ add_row id number rs
row_set id number rs place is there =
    let f = λ (n : ℕ). cond (begins_with id (drop n rs)) (set rs n (id, number)) (insert rs n (id, number)) in
    ap (λ b. cond b (set rs place (id, number)) (insert rs place (id, number))) (sym there) ∙ ap f is ∙ row_put id number rs

pub row_inserted : (id : BoxId) (number : ℕ) (rs : StampRows) (place : ℕ) → place ≡ length (take_while (stands_before id) rs) → begins_with id (drop place rs) ≡ false → insert rs place (id, number) ≡ add_row id number rs
row_inserted id number rs place is none =
    let f = λ (n : ℕ). cond (begins_with id (drop n rs)) (set rs n (id, number)) (insert rs n (id, number)) in
    ap (λ b. cond b (set rs place (id, number)) (insert rs place (id, number))) (sym none) ∙ ap f is ∙ row_put id number rs

-- ---- found by halves

-- how many stand at the front
abbrev front : {X : Type 0} → (X → Bool) → List X → ℕ
front p [] = 0
front p (x ∷ xs) = cond (p x) (suc (front p xs)) 0

length-front : {X : Type 0} (p : X → Bool) (xs : List X) → length (take_while p xs) ≡ front p xs
length-front p [] = refl
length-front p (x ∷ xs) =
    ap length (take_while-cons p x xs)
    ∙ elim (p x) as (λ b. length (cond b (x ∷ take_while p xs) []) ≡ cond b (suc (front p xs)) 0) [ true ↦ ap suc (length-front p xs) | false ↦ refl ]

counted : {X : Type 0} (p : X → Bool) (xs : List X) (n : ℕ) → n ≤ length xs → IsPartitionPoint (λ x. p x ≡ true) (λ x. p x ≡ false) xs n → n ≡ front p xs
counted p [] zero le at = refl
counted p [] (suc n) le at = absurd (omega (arith, le))
counted p (x ∷ more) zero le at = sym (ap {B = ℕ} (λ b. cond b (suc (front p more)) 0) (at.1 0 x (omega arith) (omega arith)))
counted p (x ∷ more) (suc n) le at =
    ap suc (counted p more n (omega (arith, le)) ((λ k d low high. at.0 (suc k) d (omega arith) (omega (arith, high))), (λ k d low high. at.1 (suc k) d (omega (arith, low)) (omega (arith, high)))))
    ∙ sym (ap {B = ℕ} (λ b. cond b (suc (front p more)) 0) (at.0 0 x (omega arith) (omega arith)))

pub place_counted : {X : Type 0} (p : X → Bool) (xs : List X) (n : ℕ) → n ≤ length xs → IsPartitionPoint (λ x. p x ≡ true) (λ x. p x ≡ false) xs n → n ≡ length (take_while p xs)
place_counted p xs n le at = counted p xs n le at ∙ sym (length-front p xs)

greater_is : (o : Ordering) → is_gt o ≡ true → o ≡ Greater
greater_is Less h = absurd (true≢false (sym h))
greater_is Equal h = absurd (true≢false (sym h))
greater_is Greater h = refl

-- those before it stand at the front
pub parted : (id : BoxId) (rs : StampRows) → is_rising rs ≡ true → IsPartitionedBy (stands_before id) rs
parted id [] rising i j d le lt before = absurd (omega (arith, lt))
parted id (r ∷ rs) rising zero zero d le lt before = before
parted id (r ∷ rs) rising zero (suc j) d le lt before =
    let less : box_cmp (get_or rs j d).0 id ≡ Less = turned_over id (get_or rs j d).0 Greater (greater_is (box_cmp id (get_or rs j d).0) before) in
    let first : box_cmp r.0 (get_or rs j d).0 ≡ Less = below_at r.0 rs (first_so _ _ rising) j d (omega (arith, lt)) in
    ap is_gt (turned_over r.0 id Less (boxes_total.trans r.0 (get_or rs j d).0 id first less))
parted id (r ∷ rs) rising (suc i) zero d le lt before = absurd (omega (arith, le))
parted id (r ∷ rs) rising (suc i) (suc j) d le lt before = parted id rs (second_so _ _ rising) i j d (omega (arith, le)) (omega (arith, lt)) before

-- ---- a row taken out

module _ (id : BoxId) where
  abbrev first : StampRows → ℕ
  first rs = front (stands_before id) rs

  below_from : (r : BoxId × ℕ) (rs : StampRows) → box_cmp id r.0 ≡ Less → rows.below_all box_cmp r.0 rs ≡ true → rows.below_all box_cmp id rs ≡ true
  below_from r [] e h = refl
  below_from r (q ∷ rs) e h =
      rw (boxes_total.trans id r.0 q.0 e (less_is (box_cmp r.0 q.0) (first_so _ _ h))) (below_from r rs e (second_so _ _ h))

  pub dropped_none : (rs : StampRows) → rows.below_all box_cmp id rs ≡ true → drop_row id rs ≡ rs
  dropped_none [] h = refl
  dropped_none (r ∷ rs) h =
      elim (box_cmp id r.0) as (λ o. is_lt o ≡ true → cond (not (is_eq o)) (r ∷ drop_row id rs) (drop_row id rs) ≡ r ∷ rs) [
        | Less ↦ λ _. ap (λ (t : StampRows). r ∷ t) (dropped_none rs (second_so _ _ h))
        | Equal ↦ λ p. absurd (true≢false (sym p))
        | Greater ↦ λ p. absurd (true≢false (sym p))
      ] (first_so _ _ h)

  row_removed : (rs : StampRows) → is_rising rs ≡ true → begins_with id (drop (first rs) rs) ≡ true → remove rs (first rs) ≡ drop_row id rs
  row_removed [] rising h = absurd (true≢false (sym h))
  row_removed (r ∷ rs) rising h =
      elim (box_cmp id r.0) as (λ o. box_cmp id r.0 ≡ o → begins_with id (drop (cond (is_gt o) (suc (first rs)) 0) (r ∷ rs)) ≡ true → remove (r ∷ rs) (cond (is_gt o) (suc (first rs)) 0) ≡ cond (not (is_eq o)) (r ∷ drop_row id rs) (drop_row id rs)) [
        | Less ↦ λ e h. absurd (true≢false (sym h ∙ ap is_eq e))
        | Equal ↦ λ e h. sym (dropped_none rs (subst (λ (q : BoxId). rows.below_all box_cmp q rs ≡ true) (sym (exact_boxes id r.0 e)) (first_so _ _ rising)))
        | Greater ↦ λ e h. ap (λ (t : StampRows). r ∷ t) (row_removed rs (second_so _ _ rising) h)
      ] refl h

  none_removed : (rs : StampRows) → is_rising rs ≡ true → begins_with id (drop (first rs) rs) ≡ false → drop_row id rs ≡ rs
  none_removed [] rising h = refl
  none_removed (r ∷ rs) rising h =
      elim (box_cmp id r.0) as (λ o. box_cmp id r.0 ≡ o → begins_with id (drop (cond (is_gt o) (suc (first rs)) 0) (r ∷ rs)) ≡ false → cond (not (is_eq o)) (r ∷ drop_row id rs) (drop_row id rs) ≡ r ∷ rs) [
        | Less ↦ λ e h. ap (λ (t : StampRows). r ∷ t) (dropped_none rs (below_from r rs e (first_so _ _ rising)))
        | Equal ↦ λ e h. absurd (true≢false (sym (ap is_eq e) ∙ h))
        | Greater ↦ λ e h. ap (λ (t : StampRows). r ∷ t) (none_removed rs (second_so _ _ rising) h)
      ] refl h

  row_there : (rs : StampRows) → is_rising rs ≡ true → begins_with id (drop (first rs) rs) ≡ has_row id rs
  row_there [] rising = refl
  row_there (r ∷ rs) rising =
      elim (box_cmp id r.0) as (λ o. box_cmp id r.0 ≡ o → begins_with id (drop (cond (is_gt o) (suc (first rs)) 0) (r ∷ rs)) ≡ is_some (cond (is_eq o) (Some r.1) (row_at id rs))) [
        | Less ↦ λ e. ap is_eq e ∙ sym (ap is_some (none_below id rs (below_from r rs e (first_so _ _ rising))))
        | Equal ↦ λ e. ap is_eq e
        | Greater ↦ λ e. row_there rs (second_so _ _ rising)
      ] refl

module _ (id : BoxId) (rs : StampRows) (place : ℕ) (rising : is_rising rs ≡ true) (is : place ≡ length (take_while (stands_before id) rs)) where
  at_front : place ≡ front (stands_before id) rs
  at_front = is ∙ length-front (stands_before id) rs

  pub taken_there : begins_with id (drop place rs) ≡ true → remove rs place ≡ drop_row id rs
  taken_there there =
      ap (remove rs) at_front ∙ row_removed id rs rising (subst (λ (n : ℕ). begins_with id (drop n rs) ≡ true) at_front there)

  pub none_taken : begins_with id (drop place rs) ≡ false → rs ≡ drop_row id rs
  none_taken none = sym (none_removed id rs rising (subst (λ (n : ℕ). begins_with id (drop n rs) ≡ false) at_front none))

  pub found_there : begins_with id (drop place rs) ≡ has_row id rs
  found_there = ap (λ (n : ℕ). begins_with id (drop n rs)) at_front ∙ row_there id rs rising

-- where it has no row nothing goes
pub none_dropped : (id : BoxId) (rs : StampRows) → has_row id rs ≡ false → drop_row id rs ≡ rs
none_dropped id [] none = refl
none_dropped id (r ∷ rs) none =
    elim (eq_by_cmp box_cmp id r.0) as (λ b. is_some (cond b (Some r.1) (row_at id rs)) ≡ false → cond (not b) (r ∷ drop_row id rs) (drop_row id rs) ≡ r ∷ rs) [
      | true ↦ λ h. absurd (true≢false h)
      | false ↦ λ h. ap (λ (t : StampRows). r ∷ t) (none_dropped id rs h)
    ] none

-- ---- rows go on rising

pub rising_changed : (number : ℕ) (u : User) (c : StampChange) (rs : StampRows) → is_rising rs ≡ true → is_rising (changed number u c rs) ≡ true
rising_changed number u (Made name) rs h = elim (has_row (box_of u name) rs) as (λ b. is_rising (cond b rs (add_row (box_of u name) number rs)) ≡ true) [ true ↦ h | false ↦ rising-add_row (box_of u name) number rs h ]
rising_changed number u (Put name) rs h = rising-add_row (box_of u name) number rs h
rising_changed number u (Gone name) rs h = rising-drop_row (box_of u name) rs h
rising_changed number u (Moved m) rs h = elim (has_row (box_of u m.from) rs) as (λ b. is_rising (cond b (add_row (box_of u m.to) number (drop_row (box_of u m.from) rs)) rs) ≡ true) [
  | true ↦ rising-add_row (box_of u m.to) number (drop_row (box_of u m.from) rs) (rising-drop_row (box_of u m.from) rs h)
  | false ↦ h
]
