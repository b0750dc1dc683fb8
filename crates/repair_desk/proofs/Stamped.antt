-- Stamps by the names of their mailboxes.
use Rattle.std.proofs.Common.{◌≡◌, ℕ, zero, suc, ◌<◌, Bool, true, false, cond, ◌&&◌, List, [], ◌∷◌, map, Some, None, Result, Err, refl, ap, ap₂, ◌∙◌, subst, arith, length, Ordering, Less, Equal, Greater, is_eq, is_lt, get_or, inl, inr}
use Rattle.std.specs.Cmp.{first_so, second_so}
use Rattle.std.specs.FinMap.Entries as rows
use Rattle.std.specs.List.Sorted.{IsBinarySearchResult}
use Rattle.std.proofs.lemmas.Bool.{cases_order}
use Rattle.verb_core.specs.declared.mailbox.BoxId.{BoxId}
use Rattle.verb_core.specs.declared.mailbox.Mailbox.{Mailbox}
use Rattle.verb_core.specs.Boxes.{box_cmp, is_rising, row_at}
use Rattle.verb_core.proofs.BoxLaws.{exact_boxes}
use Rattle.verb_core.proofs.Searched.{below_at, comparisons_rise, turned_over}

-- the row of a mailbox, where a search found it
pub row_found : (id : BoxId) (rs : List (BoxId × ℕ)) → is_rising rs ≡ true → (i : ℕ) (d : BoxId × ℕ) → i < length rs → ((d : BoxId × ℕ) → box_cmp (get_or rs i d).0 id ≡ Equal) → row_at id rs ≡ Some (get_or rs i d).1
row_found id [] rising i d within equal = absurd (omega arith)
row_found id (r ∷ rs) rising zero d within equal =
    let same : box_cmp id r.0 ≡ Equal = turned_over r.0 id Equal (equal r) in
    ap (λ (o : Ordering). cond (is_eq o) (Some r.1) (row_at id rs)) same
row_found id (r ∷ rs) rising (suc i) d within equal =
    let is : (get_or rs i r).0 ≡ id = exact_boxes (get_or rs i r).0 id (equal r) in
    let less : box_cmp r.0 id ≡ Less = subst (λ (q : BoxId). box_cmp r.0 q ≡ Less) is (below_at r.0 rs (first_so _ _ rising) i r (omega arith)) in
    ap (λ (o : Ordering). cond (is_eq o) (Some r.1) (row_at id rs)) (turned_over r.0 id Less less) ∙ row_found id rs (second_so _ _ rising) i d (omega arith) equal

none_equal : (id : BoxId) (rs : List (BoxId × ℕ)) → ((j : ℕ) (d : BoxId × ℕ) → j < length rs → is_eq (box_cmp id (get_or rs j d).0) ≡ false) → row_at id rs ≡ None
none_equal id [] none = refl
none_equal id (r ∷ rs) none = ap (λ b. cond b (Some r.1) (row_at id rs)) (none 0 r (omega arith)) ∙ none_equal id rs (λ j d lt. none (suc j) d (omega arith))

-- or there is none
pub row_missing : (id : BoxId) (rs : List (BoxId × ℕ)) → is_rising rs ≡ true → (at : ℕ) → IsBinarySearchResult (λ (row : BoxId × ℕ). box_cmp row.0 id) rs (let r : Result ℕ ℕ = Err at in r) → row_at id rs ≡ None
row_missing id rs rising at parted =
    none_equal id rs (λ j d within. elim (cases_order j at) [
      | inr (inl lt) ↦ ap is_eq (turned_over (get_or rs j d).0 id Less ((parted (comparisons_rise id rs rising)).0 j d (omega arith) lt))
      | inl same ↦ ap is_eq (turned_over (get_or rs j d).0 id Greater ((parted (comparisons_rise id rs rising)).1 j d (omega arith) within))
      | inr (inr gt) ↦ ap is_eq (turned_over (get_or rs j d).0 id Greater ((parted (comparisons_rise id rs rising)).1 j d (omega arith) within))
    ])

-- rows with the names of rising ones rise
below_named : (id : BoxId) (rs : List (BoxId × ℕ)) (boxes : List (BoxId × Mailbox)) → map (λ (r : BoxId × ℕ). r.0) rs ≡ map (λ (r : BoxId × Mailbox). r.0) boxes → rows.below_all box_cmp id rs ≡ rows.below_all box_cmp id boxes
below_named id [] [] e = refl
below_named id [] (b ∷ boxes) e = cc
below_named id (r ∷ rs) [] e = cc
below_named id (r ∷ rs) (b ∷ boxes) e =
    let head : r.0 ≡ b.0 = cc in
    let tail : map (λ (r : BoxId × ℕ). r.0) rs ≡ map (λ (r : BoxId × Mailbox). r.0) boxes = cc in
    ap₂ (λ (q : BoxId) (y : Bool). is_lt (box_cmp id q) && y) head (below_named id rs boxes tail)

pub rising_named : (rs : List (BoxId × ℕ)) (boxes : List (BoxId × Mailbox)) → map (λ (r : BoxId × ℕ). r.0) rs ≡ map (λ (r : BoxId × Mailbox). r.0) boxes → is_rising boxes ≡ true → is_rising rs ≡ true
rising_named [] [] e rise = refl
rising_named [] (b ∷ boxes) e rise = refl
rising_named (r ∷ rs) [] e rise = cc
rising_named (r ∷ rs) (b ∷ boxes) e rise =
    let head : r.0 ≡ b.0 = cc in
    let tail : map (λ (r : BoxId × ℕ). r.0) rs ≡ map (λ (r : BoxId × Mailbox). r.0) boxes = cc in
    rw (ap (λ (q : BoxId). rows.below_all box_cmp q rs) head ∙ below_named b.0 rs boxes tail ∙ first_so (rows.below_all box_cmp b.0 boxes) _ rise)
    (rising_named rs boxes tail (second_so (rows.below_all box_cmp b.0 boxes) _ rise))
