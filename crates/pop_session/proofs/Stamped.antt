-- Stamps in order, found by a binary search.
use Rattle.std.proofs.Common.{◌≡◌, ℕ, zero, suc, ◌<◌, true, false, cond, List, [], ◌∷◌, Some, None, Result, Err, refl, ap, ◌∙◌, subst, arith, length, Ordering, Less, Equal, Greater, is_eq, get_or, inl, inr}
use Rattle.std.specs.Cmp.{first_so, second_so}
use Rattle.std.specs.List.Sorted.{IsBinarySearchResult}
use Rattle.std.proofs.lemmas.Bool.{cases_order}
use Rattle.verb_core.specs.declared.mailbox.BoxId.{BoxId}
use Rattle.verb_core.specs.Boxes.{box_cmp, is_rising, row_at}
use Rattle.verb_core.proofs.BoxLaws.{exact_boxes}
use Rattle.verb_core.proofs.Searched.{below_at, comparisons_rise, turned_over}

-- the stamp of a mailbox, where a search found its row
pub stamp_found : (id : BoxId) (rs : List (BoxId × ℕ)) → is_rising rs ≡ true → (i : ℕ) (d : BoxId × ℕ) → i < length rs → ((d : BoxId × ℕ) → box_cmp (get_or rs i d).0 id ≡ Equal) → row_at id rs ≡ Some (get_or rs i d).1
stamp_found id [] rising i d within equal = absurd (omega arith)
stamp_found id (r ∷ rs) rising zero d within equal = ap (λ (o : Ordering). cond (is_eq o) (Some r.1) (row_at id rs)) (turned_over r.0 id Equal (equal r))
stamp_found id (r ∷ rs) rising (suc i) d within equal =
    let is : (get_or rs i r).0 ≡ id = exact_boxes (get_or rs i r).0 id (equal r) in
    let less : box_cmp r.0 id ≡ Less = subst (λ (q : BoxId). box_cmp r.0 q ≡ Less) is (below_at r.0 rs (first_so _ _ rising) i r (omega arith)) in
    ap (λ (o : Ordering). cond (is_eq o) (Some r.1) (row_at id rs)) (turned_over r.0 id Less less) ∙ stamp_found id rs (second_so _ _ rising) i d (omega arith) equal

none_equal : (id : BoxId) (rs : List (BoxId × ℕ)) → ((j : ℕ) (d : BoxId × ℕ) → j < length rs → is_eq (box_cmp id (get_or rs j d).0) ≡ false) → row_at id rs ≡ None
none_equal id [] none = refl
none_equal id (r ∷ rs) none = ap (λ b. cond b (Some r.1) (row_at id rs)) (none 0 r (omega arith)) ∙ none_equal id rs (λ j d lt. none (suc j) d (omega arith))

-- or there is none
pub stamp_missing : (id : BoxId) (rs : List (BoxId × ℕ)) → is_rising rs ≡ true → (at : ℕ) → IsBinarySearchResult (λ (row : BoxId × ℕ). box_cmp row.0 id) rs (let r : Result ℕ ℕ = Err at in r) → row_at id rs ≡ None
stamp_missing id rs rising at parted =
    none_equal id rs (λ j d within. elim (cases_order j at) [
      | inr (inl lt) ↦ ap is_eq (turned_over (get_or rs j d).0 id Less ((parted (comparisons_rise id rs rising)).0 j d (omega arith) lt))
      | inl same ↦ ap is_eq (turned_over (get_or rs j d).0 id Greater ((parted (comparisons_rise id rs rising)).1 j d (omega arith) within))
      | inr (inr gt) ↦ ap is_eq (turned_over (get_or rs j d).0 id Greater ((parted (comparisons_rise id rs rising)).1 j d (omega arith) within))
    ])
