-- What a search finds among rising rows, and what an edit at that place does.
use Rattle.std.proofs.Common.{◌≡◌, ℕ, true, ◌+◌, ◌-◌, ◌<◌, ◌≤◌, inl, inr, List, length, get_or, set, Some, None, Result, Ok, Err, IfOk, IfErr, refl, sym, ap, subst, ◌∙◌, arith, rules}
use Rattle.std.specs.List.{insert}
use Rattle.std.specs.List.Sorted.{IsSearchInRange, IsBinarySearchResult, IsNonDecreasingBy}
use Rattle.std.specs.Ordering.{ordering_index}
use Rattle.std.specs.declared.cmp.Ordering.{Ordering}
use Rattle.std.specs.declared.cmp.Ordering.TheVariants.{Less, Equal, Greater}
use Rattle.std.proofs.lemmas.Cmp.{alike_right, tied_itself}
use Rattle.std.proofs.lemmas.Bool.{cases_order}
use Rattle.std.proofs.lemmas.List.{get_or_default, get_or-set_same, get_or-set_other}
use Rattle.std.proofs.lemmas.List.Edits.{length-insert, get_or-insert_below, get_or-insert_at, get_or-insert_above}
use Rattle.std.proofs.lemmas.Grind.{common_steps}
use Rattle.verb_core.specs.declared.mailbox.Body.{Body}
use Rattle.shelf.specs.declared.note.Note.{Note}
use Rattle.shelf.specs.Notes.{note_of, same_body, NotesOnly}
use Rattle.shelf.specs.Rows.{body_order, IsRising, IsAt, IsGapFor}
use Rattle.shelf.proofs.OrderLemmas.{body_total, same_if_equal, same_if_tested, tested_if_equal, apart, turned_less}
use Rattle.shelf.proofs.NoteLemmas.{NoneBefore, note_none, note_there, notes_set, notes_insert}

index_at_most : (o : Ordering) → ordering_index o ≤ 2
index_at_most Less = search rules
index_at_most Equal = search rules
index_at_most Greater = search rules

-- a body before another one compares no higher with a third
rises : (a b body : Body) → body_order a b ≡ Less → ordering_index (body_order a body) ≤ ordering_index (body_order b body)
rises a b body less =
    elim (body_order b body) as (λ o. body_order b body ≡ o → ordering_index (body_order a body) ≤ ordering_index o) [
      | Less ↦ λ e. let le : body_order a body ≡ Less = body_total.trans a b body less e in rw le (search rules)
      | Equal ↦ λ e. let le : body_order a body ≡ Less = sym (alike_right body_total b body a e) ∙ less in rw le (search rules)
      | Greater ↦ λ e. index_at_most (body_order a body)
    ] refl

module _ (rows : List (Body × Note)) (rising : IsRising rows) (body : Body) where
  -- the comparisons with the body rise along the rows, as a binary search asks
  comparisons_rise : IsNonDecreasingBy (λ (row : Body × Note). ordering_index (body_order row.0 body)) rows
  comparisons_rise i j d le within =
      elim (cases_order i j) [
        | inr (inl lt) ↦ rises (get_or rows i d).0 (get_or rows j d).0 body (rising i j d lt within)
        | inl same ↦ rw same (search rules)
        | inr (inr gt) ↦ absurd (omega arith)
      ]

  -- a binary search ends at the body, or at the gap for it
  pub searched : (r : Result ℕ ℕ) → IsSearchInRange r (length rows) → IsBinarySearchResult (λ (row : Body × Note). body_order row.0 body) rows r → record { found : IfOk r (IsAt rows body); absent : IfErr r (IsGapFor rows body) }
  searched (Ok at) within equal = record { found = record { within = within; equal = equal }; absent = tt }
  searched (Err at) within parted = record {
    found = tt;
    absent = record {
      within = within;
      before = λ j d lt. (parted comparisons_rise).0 j d (omega arith) lt;
      after = λ j d le lt. (parted comparisons_rise).1 j d le lt;
    };
  }

-- a row whose body is tested to be the same has it
pub at_place : (rows : List (Body × Note)) (body : Body) (at : ℕ) (row : Body × Note) → at < length rows → row ≡ get_or rows at row → same_body row.0 body ≡ true → IsAt rows body at
at_place rows body at row within is same = record {
  within = within;
  equal = λ d.
      let here : (get_or rows at d).0 ≡ body = ap (λ (r : Body × Note). r.0) (get_or_default rows at d row within ∙ sym is) ∙ same_if_tested row.0 body same in
      subst (λ (b : Body). body_order b body ≡ Equal) (sym here) (tied_itself body_total body);
}

module _ (rows : List (Body × Note)) (rising : IsRising rows) (body : Body) (at : ℕ) (is_at : IsAt rows body at) where
  -- the bodies before the place come earlier
  none_before_at : NoneBefore rows body at
  none_before_at j d lt =
      let less : body_order (get_or rows j d).0 body ≡ Less =
      sym (alike_right body_total (get_or rows at d).0 body (get_or rows j d).0 (is_at.equal d)) ∙ rising j at d lt is_at.within in
      apart _ _ (λ e. let no : Less ≡ Equal = sym less ∙ e in cc)

  -- the body is found at its place
  pub note_at : (d : Body × Note) → note_of rows body ≡ Some (get_or rows at d).1
  note_at d = note_there rows body at d is_at.within (tested_if_equal _ _ (is_at.equal d)) none_before_at

  -- writing over its row changes that body alone
  pub notes_only_set : (note : Note) → NotesOnly rows (set rows at (body, note)) body note
  notes_only_set note = notes_set rows body note at (body, note) is_at.within (tested_if_equal _ _ (is_at.equal (body, note))) none_before_at

  -- and keeps the order, since every body stays
  pub rising_set : (note : Note) → IsRising (set rows at (body, note))
  rising_set note i j d lt within =
      let here : (get_or rows at d).0 ≡ body = same_if_equal _ _ (is_at.equal d) in
      let same : (k : ℕ) → (get_or (set rows at (body, note)) k d).0 ≡ (get_or rows k d).0 = λ k. elim (cases_order k at) [
        | inl e ↦ rw (e, get_or-set_same rows at (body, note) d is_at.within) (sym here)
        | inr (inl less) ↦ ap (λ (row : Body × Note). row.0) (get_or-set_other rows at k (body, note) d (λ e. omega arith))
        | inr (inr more) ↦ ap (λ (row : Body × Note). row.0) (get_or-set_other rows at k (body, note) d (λ e. omega arith))
      ] in
      rw (same i, same j) (rising i j d lt (grind (arith, common_steps)))

module _ (rows : List (Body × Note)) (body : Body) (at : ℕ) (gap : IsGapFor rows body at) where
  none_before_gap : NoneBefore rows body at
  none_before_gap j d lt = apart _ _ (λ e. let no : Less ≡ Equal = sym (gap.before j d lt) ∙ e in cc)

  none_in_gap : NoneBefore rows body (length rows)
  none_in_gap j d lt =
      elim (cases_order j at) [
        | inr (inl less) ↦ none_before_gap j d less
        | inl same ↦ apart _ _ (λ e. let no : Greater ≡ Equal = sym (gap.after j d (omega arith) lt) ∙ e in cc)
        | inr (inr more) ↦ apart _ _ (λ e. let no : Greater ≡ Equal = sym (gap.after j d (omega arith) lt) ∙ e in cc)
      ]

  -- a body that has a gap is not noted
  pub note_in_gap : note_of rows body ≡ None
  note_in_gap = note_none rows body none_in_gap

  -- a new row in the gap changes that body alone
  pub notes_only_insert : (note : Note) → NotesOnly rows (insert rows at (body, note)) body note
  notes_only_insert note = notes_insert rows body note at none_before_gap

  -- and keeps the order: each new row is an old one below the gap, the new one at it, or an old one moved up by one
  pub rising_insert : (note : Note) → IsRising rows → IsRising (insert rows at (body, note))
  rising_insert note rising i j d lt within =
      let new = insert rows at (body, note) in
      let long = length-insert rows at (body, note) gap.within in
      let key = λ (row : Body × Note). row.0 in
      let below : (k : ℕ) → k < at → (get_or (insert rows at (body, note)) k d).0 ≡ (get_or rows k d).0 = λ k lt. ap key (get_or-insert_below rows at (body, note) d k lt gap.within) in
      let here : (get_or (insert rows at (body, note)) at d).0 ≡ body = ap key (get_or-insert_at rows at (body, note) d gap.within) in
      let above : (k : ℕ) → at < k → (get_or (insert rows at (body, note)) k d).0 ≡ (get_or rows (k - 1) d).0 = λ k up. subst (λ q. (get_or (insert rows at (body, note)) q d).0 ≡ (get_or rows (k - 1) d).0) {x = k - 1 + 1} (omega arith) (ap key (get_or-insert_above rows at (body, note) d (k - 1) (omega arith) gap.within)) in
      elim (cases_order j at) [
        | inr (inl low) ↦ rw (below i (omega arith), below j low) (rising i j d lt (omega arith))
        | inl same ↦ rw (same, below i (omega arith), here) (gap.before i d (omega arith))
        | inr (inr high) ↦ elim (cases_order i at) [
          | inr (inl low) ↦ rw (below i low, above j high) (rising i (j - 1) d (omega arith) (omega arith))
          | inl same ↦ rw (same, here, above j high) (turned_less _ _ (gap.after (j - 1) d (omega arith) (omega arith)))
          | inr (inr more) ↦ rw (above i more, above j high) (rising (i - 1) (j - 1) d (omega arith) (omega arith))
        ]
      ]
