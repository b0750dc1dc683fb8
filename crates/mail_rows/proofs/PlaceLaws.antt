-- Rows by place.
use Rattle.std.proofs.Common.{◌≡◌, ℕ, zero, suc, ◌<◌, ◌≤◌, true, false, not, cond, List, [], ◌∷◌, Some, None, Result, Ok, Err, IfOk, IfErr, refl, sym, ap, ◌∙◌, subst, arith, true≢false, length, insert, remove, set, Ordering, Less, Equal, Greater, is_eq, is_gt, is_lt, get_or}
use Rattle.std.specs.Cmp.{first_so, second_so}
use Rattle.std.specs.FinMap.Entries as rows
use Rattle.std.specs.List.Sorted.{IsSearchInRange, IsBinarySearchResult}
use Rattle.std.proofs.lemmas.List.{set-get_or}
use Rattle.undo_base.specs.declared.keys.User.{User}
use Rattle.verb_core.specs.declared.mailbox.BoxId.{BoxId}
use Rattle.verb_core.specs.declared.mailbox.Mailbox.{Mailbox}
use Rattle.verb_core.specs.Boxes.{box_cmp, box_of, is_rising, row_at, add_row, drop_row, change_row}
use Rattle.verb_core.proofs.BoxLaws.{exact_boxes, boxes_total}
use Rattle.verb_core.proofs.Searched.{less_is, turned_over, below_at, comparisons_rise}
use Rattle.mail_rows.specs.Places.{place_in, stands_at, IsPlace, IsGap}

place_found : (id : BoxId) (rs : List (BoxId × Mailbox)) → is_rising rs ≡ true → (i : ℕ) → i < length rs → ((d : BoxId × Mailbox) → box_cmp (get_or rs i d).0 id ≡ Equal) → IsPlace id rs i
place_found id [] rising i within equal = absurd (omega arith)
place_found id (r ∷ rs) rising zero within equal =
    let same : box_cmp id r.0 ≡ Equal = turned_over r.0 id Equal (equal r) in
    record { at = sym (ap (λ (o : Ordering). cond (is_gt o) (suc (place_in id rs)) 0) same); there = ap is_eq same }
place_found id (r ∷ rs) rising (suc i) within equal =
    let is : (get_or rs i r).0 ≡ id = exact_boxes (get_or rs i r).0 id (equal r) in
    let less : box_cmp r.0 id ≡ Less = subst (λ (q : BoxId). box_cmp r.0 q ≡ Less) is (below_at r.0 rs (first_so _ _ rising) i r (omega arith)) in
    let rest : IsPlace id rs i = place_found id rs (second_so _ _ rising) i (omega arith) equal in
    record { at = ap suc rest.at ∙ sym (ap (λ (o : Ordering). cond (is_gt o) (suc (place_in id rs)) 0) (turned_over r.0 id Less less)); there = rest.there }

gap_found : (id : BoxId) (rs : List (BoxId × Mailbox)) (i : ℕ) → i ≤ length rs → ((j : ℕ) (d : BoxId × Mailbox) → j < i → box_cmp (get_or rs j d).0 id ≡ Less) → ((j : ℕ) (d : BoxId × Mailbox) → i ≤ j → j < length rs → box_cmp (get_or rs j d).0 id ≡ Greater) → IsGap id rs i
gap_found id [] zero within before after = record { at = refl; missing = refl }
gap_found id [] (suc i) within before after = absurd (omega arith)
gap_found id (r ∷ rs) zero within before after =
    let less : box_cmp id r.0 ≡ Less = turned_over r.0 id Greater (after 0 r (omega arith) (omega arith)) in
    record { at = sym (ap (λ (o : Ordering). cond (is_gt o) (suc (place_in id rs)) 0) less); missing = ap is_eq less }
gap_found id (r ∷ rs) (suc i) within before after =
    let rest : IsGap id rs i = gap_found id rs i (omega arith) (λ j d lt. before (suc j) d (omega arith)) (λ j d le lt. after (suc j) d (omega arith) (omega arith)) in
    record { at = ap suc rest.at ∙ sym (ap (λ (o : Ordering). cond (is_gt o) (suc (place_in id rs)) 0) (turned_over r.0 id Less (before 0 r (omega arith)))); missing = rest.missing }

-- a binary search ends at the mailbox's row, or where it would stand
pub searched : (id : BoxId) (rs : List (BoxId × Mailbox)) → is_rising rs ≡ true → (r : Result ℕ ℕ) → IsSearchInRange r (length rs) → IsBinarySearchResult (λ (row : BoxId × Mailbox). box_cmp row.0 id) rs r → record { found : IfOk r (IsPlace id rs); missing : IfErr r (IsGap id rs) }
searched id rs rising (Ok at) within equal = record { found = place_found id rs rising at within equal; missing = tt }
searched id rs rising (Err at) within parted = record {
  found = tt;
  missing = gap_found id rs at within (λ j d lt. (parted (comparisons_rise id rs rising)).0 j d (omega arith) lt) (λ j d le lt. (parted (comparisons_rise id rs rising)).1 j d le lt);
}

-- ---- no row of the mailbox

module _ (id : BoxId) where
  below_from : (r : BoxId × Mailbox) (rs : List (BoxId × Mailbox)) → box_cmp id r.0 ≡ Less → rows.below_all box_cmp r.0 rs ≡ true → rows.below_all box_cmp id rs ≡ true
  below_from r [] e h = refl
  below_from r (q ∷ rs) e h =
      rw (boxes_total.trans id r.0 q.0 e (less_is (box_cmp r.0 q.0) (first_so _ _ h))) (below_from r rs e (second_so _ _ h))

  dropped_none : (rs : List (BoxId × Mailbox)) → rows.below_all box_cmp id rs ≡ true → drop_row id rs ≡ rs
  dropped_none [] h = refl
  dropped_none (r ∷ rs) h =
      elim (box_cmp id r.0) as (λ o. is_lt o ≡ true → cond (not (is_eq o)) (r ∷ drop_row id rs) (drop_row id rs) ≡ r ∷ rs) [
        | Less ↦ λ _. ap (λ (t : List (BoxId × Mailbox)). r ∷ t) (dropped_none rs (second_so _ _ h))
        | Equal ↦ λ p. absurd (true≢false (sym p))
        | Greater ↦ λ p. absurd (true≢false (sym p))
      ] (first_so _ _ h)

  changed_none : (f : Mailbox → Mailbox) (rs : List (BoxId × Mailbox)) → rows.below_all box_cmp id rs ≡ true → change_row id f rs ≡ rs
  changed_none f [] h = refl
  changed_none f (r ∷ rs) h =
      elim (box_cmp id r.0) as (λ o. is_lt o ≡ true → ◌≡◌ {A = List (BoxId × Mailbox)} ((r.0, cond (is_eq o) (f r.1) r.1) ∷ change_row id f rs) (r ∷ rs)) [
        | Less ↦ λ _. ap (λ (t : List (BoxId × Mailbox)). r ∷ t) (changed_none f rs (second_so _ _ h))
        | Equal ↦ λ p. absurd (true≢false (sym p))
        | Greater ↦ λ p. absurd (true≢false (sym p))
      ] (first_so _ _ h)

  found_none : (rs : List (BoxId × Mailbox)) → rows.below_all box_cmp id rs ≡ true → row_at id rs ≡ None
  found_none [] h = refl
  found_none (r ∷ rs) h =
      elim (box_cmp id r.0) as (λ o. is_lt o ≡ true → cond (is_eq o) (Some r.1) (row_at id rs) ≡ None) [
        | Less ↦ λ _. found_none rs (second_so _ _ h)
        | Equal ↦ λ p. absurd (true≢false (sym p))
        | Greater ↦ λ p. absurd (true≢false (sym p))
      ] (first_so _ _ h)

  below_equal : (r : BoxId × Mailbox) (rs : List (BoxId × Mailbox)) → box_cmp id r.0 ≡ Equal → rows.below_all box_cmp r.0 rs ≡ true → rows.below_all box_cmp id rs ≡ true
  below_equal r rs e h = subst (λ (q : BoxId). rows.below_all box_cmp q rs ≡ true) (sym (exact_boxes id r.0 e)) h

  -- ---- what an edit at the place does

  -- a mailbox that does not stand there is put in between
  add_row-insert : (m : Mailbox) (rs : List (BoxId × Mailbox)) → stands_at id (place_in id rs) rs ≡ false → add_row id m rs ≡ insert rs (place_in id rs) (id, m)
  add_row-insert m [] h = refl
  add_row-insert m (r ∷ rs) h =
      elim (box_cmp id r.0) as (λ o. box_cmp id r.0 ≡ o → stands_at id (cond (is_gt o) (suc (place_in id rs)) 0) (r ∷ rs) ≡ false → rows.by_order o ((id, m) ∷ r ∷ rs) ((r.0, m) ∷ rs) (r ∷ add_row id m rs) ≡ insert (r ∷ rs) (cond (is_gt o) (suc (place_in id rs)) 0) (id, m)) [
        | Less ↦ λ e h. refl
        | Equal ↦ λ e h. absurd (true≢false (sym (ap is_eq e) ∙ h))
        | Greater ↦ λ e h. ap (λ (t : List (BoxId × Mailbox)). r ∷ t) (add_row-insert m rs h)
      ] refl h

  -- one that stands there gets what is new
  add_row-set : (m : Mailbox) (rs : List (BoxId × Mailbox)) → stands_at id (place_in id rs) rs ≡ true → add_row id m rs ≡ set rs (place_in id rs) (id, m)
  add_row-set m [] h = absurd (true≢false (sym h))
  add_row-set m (r ∷ rs) h =
      elim (box_cmp id r.0) as (λ o. box_cmp id r.0 ≡ o → stands_at id (cond (is_gt o) (suc (place_in id rs)) 0) (r ∷ rs) ≡ true → rows.by_order o ((id, m) ∷ r ∷ rs) ((r.0, m) ∷ rs) (r ∷ add_row id m rs) ≡ set (r ∷ rs) (cond (is_gt o) (suc (place_in id rs)) 0) (id, m)) [
        | Less ↦ λ e h. absurd (true≢false (sym h ∙ ap is_eq e))
        | Equal ↦ λ e h. ap (λ (q : BoxId). (q, m) ∷ rs) (sym (exact_boxes id r.0 e))
        | Greater ↦ λ e h. ap (λ (t : List (BoxId × Mailbox)). r ∷ t) (add_row-set m rs h)
      ] refl h

  -- one that stands there is taken out
  drop_row-remove : (rs : List (BoxId × Mailbox)) → is_rising rs ≡ true → stands_at id (place_in id rs) rs ≡ true → drop_row id rs ≡ remove rs (place_in id rs)
  drop_row-remove [] rising h = absurd (true≢false (sym h))
  drop_row-remove (r ∷ rs) rising h =
      elim (box_cmp id r.0) as (λ o. box_cmp id r.0 ≡ o → stands_at id (cond (is_gt o) (suc (place_in id rs)) 0) (r ∷ rs) ≡ true → cond (not (is_eq o)) (r ∷ drop_row id rs) (drop_row id rs) ≡ remove (r ∷ rs) (cond (is_gt o) (suc (place_in id rs)) 0)) [
        | Less ↦ λ e h. absurd (true≢false (sym h ∙ ap is_eq e))
        | Equal ↦ λ e h. dropped_none rs (below_equal r rs e (first_so _ _ rising))
        | Greater ↦ λ e h. ap (λ (t : List (BoxId × Mailbox)). r ∷ t) (drop_row-remove rs (second_so _ _ rising) h)
      ] refl h

  -- and else all stay
  drop_row-none : (rs : List (BoxId × Mailbox)) → is_rising rs ≡ true → stands_at id (place_in id rs) rs ≡ false → drop_row id rs ≡ rs
  drop_row-none [] rising h = refl
  drop_row-none (r ∷ rs) rising h =
      elim (box_cmp id r.0) as (λ o. box_cmp id r.0 ≡ o → stands_at id (cond (is_gt o) (suc (place_in id rs)) 0) (r ∷ rs) ≡ false → cond (not (is_eq o)) (r ∷ drop_row id rs) (drop_row id rs) ≡ r ∷ rs) [
        | Less ↦ λ e h. ap (λ (t : List (BoxId × Mailbox)). r ∷ t) (dropped_none rs (below_from r rs e (first_so _ _ rising)))
        | Equal ↦ λ e h. absurd (true≢false (sym (ap is_eq e) ∙ h))
        | Greater ↦ λ e h. ap (λ (t : List (BoxId × Mailbox)). r ∷ t) (drop_row-none rs (second_so _ _ rising) h)
      ] refl h

  -- what stands there is changed
  change_row-set : (f : Mailbox → Mailbox) (rs : List (BoxId × Mailbox)) (d : BoxId × Mailbox) → is_rising rs ≡ true → stands_at id (place_in id rs) rs ≡ true
      → change_row id f rs ≡ set rs (place_in id rs) ((get_or rs (place_in id rs) d).0, f (get_or rs (place_in id rs) d).1)
  change_row-set f [] d rising h = absurd (true≢false (sym h))
  change_row-set f (r ∷ rs) d rising h =
      elim (box_cmp id r.0) as (λ o. box_cmp id r.0 ≡ o → stands_at id (cond (is_gt o) (suc (place_in id rs)) 0) (r ∷ rs) ≡ true
      → ◌≡◌ {A = List (BoxId × Mailbox)} ((r.0, cond (is_eq o) (f r.1) r.1) ∷ change_row id f rs) (set (r ∷ rs) (cond (is_gt o) (suc (place_in id rs)) 0) ((get_or (r ∷ rs) (cond (is_gt o) (suc (place_in id rs)) 0) d).0, f (get_or (r ∷ rs) (cond (is_gt o) (suc (place_in id rs)) 0) d).1))) [
        | Less ↦ λ e h. absurd (true≢false (sym h ∙ ap is_eq e))
        | Equal ↦ λ e h. ap (λ (t : List (BoxId × Mailbox)). (r.0, f r.1) ∷ t) (changed_none f rs (below_equal r rs e (first_so _ _ rising)))
        | Greater ↦ λ e h. ap (λ (t : List (BoxId × Mailbox)). r ∷ t) (change_row-set f rs d (second_so _ _ rising) h)
      ] refl h

  change_row-none : (f : Mailbox → Mailbox) (rs : List (BoxId × Mailbox)) → is_rising rs ≡ true → stands_at id (place_in id rs) rs ≡ false → change_row id f rs ≡ rs
  change_row-none f [] rising h = refl
  change_row-none f (r ∷ rs) rising h =
      elim (box_cmp id r.0) as (λ o. box_cmp id r.0 ≡ o → stands_at id (cond (is_gt o) (suc (place_in id rs)) 0) (r ∷ rs) ≡ false → ◌≡◌ {A = List (BoxId × Mailbox)} ((r.0, cond (is_eq o) (f r.1) r.1) ∷ change_row id f rs) (r ∷ rs)) [
        | Less ↦ λ e h. ap (λ (t : List (BoxId × Mailbox)). r ∷ t) (changed_none f rs (below_from r rs e (first_so _ _ rising)))
        | Equal ↦ λ e h. absurd (true≢false (sym (ap is_eq e) ∙ h))
        | Greater ↦ λ e h. ap (λ (t : List (BoxId × Mailbox)). r ∷ t) (change_row-none f rs (second_so _ _ rising) h)
      ] refl h

  row_at-there : (rs : List (BoxId × Mailbox)) (d : BoxId × Mailbox) → stands_at id (place_in id rs) rs ≡ true → row_at id rs ≡ Some (get_or rs (place_in id rs) d).1
  row_at-there [] d h = absurd (true≢false (sym h))
  row_at-there (r ∷ rs) d h =
      elim (box_cmp id r.0) as (λ o. box_cmp id r.0 ≡ o → stands_at id (cond (is_gt o) (suc (place_in id rs)) 0) (r ∷ rs) ≡ true → cond (is_eq o) (Some r.1) (row_at id rs) ≡ Some (get_or (r ∷ rs) (cond (is_gt o) (suc (place_in id rs)) 0) d).1) [
        | Less ↦ λ e h. absurd (true≢false (sym h ∙ ap is_eq e))
        | Equal ↦ λ e h. refl
        | Greater ↦ λ e h. row_at-there rs d h
      ] refl h

  row_at-none : (rs : List (BoxId × Mailbox)) → is_rising rs ≡ true → stands_at id (place_in id rs) rs ≡ false → row_at id rs ≡ None
  row_at-none [] rising h = refl
  row_at-none (r ∷ rs) rising h =
      elim (box_cmp id r.0) as (λ o. box_cmp id r.0 ≡ o → stands_at id (cond (is_gt o) (suc (place_in id rs)) 0) (r ∷ rs) ≡ false → cond (is_eq o) (Some r.1) (row_at id rs) ≡ None) [
        | Less ↦ λ e h. found_none rs (below_from r rs e (first_so _ _ rising))
        | Equal ↦ λ e h. absurd (true≢false (sym (ap is_eq e) ∙ h))
        | Greater ↦ λ e h. row_at-none rs (second_so _ _ rising) h
      ] refl h

within : (id : BoxId) (rs : List (BoxId × Mailbox)) (i : ℕ) → stands_at id i rs ≡ true → i < length rs
within id [] i h = absurd (true≢false (sym h))
within id (r ∷ rs) zero h = omega arith
within id (r ∷ rs) (suc i) h = let rest = within id rs i h in omega arith

-- ---- the same, at a place that a search found

module _ (id : BoxId) (rs : List (BoxId × Mailbox)) (place : ℕ) where
  module _ (is : IsPlace id rs place) where
    at_place : stands_at id (place_in id rs) rs ≡ true
    at_place = subst (λ (n : ℕ). stands_at id n rs ≡ true) is.at is.there

    pub place_within : place < length rs
    place_within = within id rs place is.there

    pub row_placed : (d : BoxId × Mailbox) → row_at id rs ≡ Some (get_or rs place d).1
    row_placed d = row_at-there id rs d at_place ∙ ap (λ (n : ℕ). Some (get_or rs n d).1) (sym is.at)

    pub put_placed : (m : Mailbox) → set rs place (id, m) ≡ add_row id m rs
    put_placed m = ap (λ (n : ℕ). set rs n (id, m)) is.at ∙ sym (add_row-set id m rs at_place)

    pub drop_placed : is_rising rs ≡ true → remove rs place ≡ drop_row id rs
    drop_placed rising = ap (remove rs) is.at ∙ sym (drop_row-remove id rs rising at_place)

    pub change_placed : (f : Mailbox → Mailbox) (d : BoxId × Mailbox) → is_rising rs ≡ true → set rs place ((get_or rs place d).0, f (get_or rs place d).1) ≡ change_row id f rs
    change_placed f d rising = ap (λ (n : ℕ). set rs n ((get_or rs n d).0, f (get_or rs n d).1)) is.at ∙ sym (change_row-set id f rs d rising at_place)

  module _ (is : IsGap id rs place) where
    at_gap : stands_at id (place_in id rs) rs ≡ false
    at_gap = subst (λ (n : ℕ). stands_at id n rs ≡ false) is.at is.missing

    pub row_missing : is_rising rs ≡ true → row_at id rs ≡ None
    row_missing rising = row_at-none id rs rising at_gap

    pub put_between : (m : Mailbox) → insert rs place (id, m) ≡ add_row id m rs
    put_between m = ap (λ (n : ℕ). insert rs n (id, m)) is.at ∙ sym (add_row-insert id m rs at_gap)

    pub drop_missing : is_rising rs ≡ true → rs ≡ drop_row id rs
    drop_missing rising = sym (drop_row-none id rs rising at_gap)

    pub change_missing : (f : Mailbox → Mailbox) → is_rising rs ≡ true → rs ≡ change_row id f rs
    change_missing f rising = sym (change_row-none id f rs rising at_gap)

place_in_within : (id : BoxId) (rs : List (BoxId × Mailbox)) → place_in id rs ≤ length rs
place_in_within id [] = omega arith
place_in_within id (r ∷ rs) =
    elim (is_gt (box_cmp id r.0)) as (λ b. cond b (suc (place_in id rs)) 0 ≤ suc (length rs)) [ true ↦ (let rest = place_in_within id rs in omega arith) | false ↦ omega arith ]

pub gap_within : (id : BoxId) (rs : List (BoxId × Mailbox)) (place : ℕ) → IsGap id rs place → place ≤ length rs
gap_within id rs place is = subst (λ (n : ℕ). n ≤ length rs) (sym is.at) (place_in_within id rs)

-- ---- the same, where a search was given the parts of a mailbox's name

module _ (u : User) (n name : List ℕ) (rs items : List (BoxId × Mailbox)) (place : ℕ) (e : n ≡ name) (f : rs ≡ items) where
  pub placed : IsPlace (box_of u n) rs place → IsPlace (box_of u name) items place
  placed is = subst (λ (xs : List (BoxId × Mailbox)). IsPlace (box_of u name) xs place) f (subst (λ (m : List ℕ). IsPlace (box_of u m) rs place) e is)

  pub gapped : IsGap (box_of u n) rs place → IsGap (box_of u name) items place
  gapped is = subst (λ (xs : List (BoxId × Mailbox)). IsGap (box_of u name) xs place) f (subst (λ (m : List ℕ). IsGap (box_of u m) rs place) e is)

-- what stands in the row that was read
pub row_read : (id : BoxId) (rs : List (BoxId × Mailbox)) (place : ℕ) (r : BoxId × Mailbox) → IsPlace id rs place → r ≡ get_or rs place r → row_at id rs ≡ Some r.1
row_read id rs place r is read = row_placed id rs place is r ∙ ap (λ (q : BoxId × Mailbox). Some q.1) (sym read)

-- another mailbox in the row that was read
pub row_changed : (id : BoxId) (rs : List (BoxId × Mailbox)) (place : ℕ) (f : Mailbox → Mailbox) (r : BoxId × Mailbox) (m : Mailbox) → IsPlace id rs place → is_rising rs ≡ true → r ≡ get_or rs place r → m ≡ f r.1
    → set rs place (r.0, m) ≡ change_row id f rs
row_changed id rs place f r m is rising read new =
    ap (λ (n : Mailbox). set rs place (r.0, n)) new
    ∙ ap (λ (q : BoxId × Mailbox). set rs place (q.0, f q.1)) read
    ∙ change_placed id rs place is f r rising

-- the same mailbox in the row that was read
pub row_kept : (rs : List (BoxId × Mailbox)) (place : ℕ) (r : BoxId × Mailbox) (m : Mailbox) → r ≡ get_or rs place r → m ≡ r.1 → set rs place (r.0, m) ≡ rs
row_kept rs place r m read same =
    ap (λ (n : Mailbox). set rs place (r.0, n)) same
    ∙ ap (λ (q : BoxId × Mailbox). set rs place q) read
    ∙ set-get_or rs place r
