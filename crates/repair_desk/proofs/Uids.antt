-- Entries by their UIDs.
use Rattle.std.proofs.Common.{◌≡◌, ◌≢◌, inl, inr, ℕ, zero, suc, ◌<◌, ◌==◌, Bool, true, false, ◌||◌, List, [], ◌∷◌, length, get_or, Result, Err, refl, sym, ap, ◌∙◌, arith, nat_lt}
use Rattle.std.specs.List.{list_any}
use Rattle.std.specs.List.Sorted.{IsBinarySearchResult, IsNonDecreasingBy}
use Rattle.std.specs.Ordering.{nat_cmp, ordering_index}
use Rattle.std.specs.declared.cmp.Ordering.{Ordering}
use Rattle.std.specs.declared.cmp.Ordering.TheVariants.{Less, Equal, Greater}
use Rattle.std.specs.Cmp.{first_so, second_so, nat_cmp_is}
use Rattle.std.proofs.lemmas.Bool.{ltb-true, cases_order}
use Rattle.std.proofs.lemmas.Bool.Decides.{nat_tests}
use Rattle.std.proofs.lemmas.Cmp.{ranked}
use Rattle.verb_core.specs.declared.mailbox.Entry.{Entry}
use Rattle.verb_core.specs.Mailboxes.{uids_rise}
use Rattle.verb_core.proofs.Searched.{numbers_compared}
use Rattle.repair_desk.specs.Renewals.{same_mail}

above_low : (low : ℕ) (es : List Entry) (next : ℕ) → uids_rise low es next ≡ true → (j : ℕ) (d : Entry) → j < length es → low < (get_or es j d).uid
above_low low [] next rise j d within = absurd (omega arith)
above_low low (e ∷ es) next rise zero d within = ltb-true low e.uid (first_so _ _ rise)
above_low low (e ∷ es) next rise (suc j) d within =
    let above : low < e.uid = ltb-true low e.uid (first_so _ _ rise) in
    let rest : e.uid < (get_or es j d).uid = above_low e.uid es next (second_so (nat_lt low e.uid) _ rise) j d (omega arith) in
    omega arith

by_places : (low : ℕ) (es : List Entry) (next : ℕ) → uids_rise low es next ≡ true → (i j : ℕ) (d : Entry) → i < j → j < length es → (get_or es i d).uid < (get_or es j d).uid
by_places low [] next rise i j d lt within = absurd (omega arith)
by_places low (x ∷ es) next rise i zero d lt within = absurd (omega arith)
by_places low (x ∷ es) next rise zero (suc j) d lt within = above_low x.uid es next (second_so (nat_lt low x.uid) _ rise) j d (omega arith)
by_places low (x ∷ es) next rise (suc i) (suc j) d lt within = by_places x.uid es next (second_so (nat_lt low x.uid) _ rise) i j d (omega arith) (omega arith)

any_none : (p : Entry → Bool) (es : List Entry) → ((j : ℕ) (d : Entry) → j < length es → p (get_or es j d) ≡ false) → list_any p es ≡ false
any_none p [] none = refl
any_none p (e ∷ es) none = rw (none 0 e (omega arith)) (any_none p es (λ j d lt. none (suc j) d (omega arith)))

alone : (b : Bool) → (b || false) ≡ b
alone true = refl
alone false = refl

-- no other passes
any_there : (p : Entry → Bool) (es : List Entry) (at : ℕ) (d : Entry) → at < length es → ((j : ℕ) (d : Entry) → j < length es → j ≢ at → p (get_or es j d) ≡ false) → list_any p es ≡ p (get_or es at d)
any_there p [] at d within others = absurd (omega arith)
any_there p (e ∷ es) zero d within others =
    ap (λ b. p e || b) (any_none p es (λ j d lt. others (suc j) d (omega arith) (λ same. absurd (omega arith)))) ∙ alone (p e)
any_there p (e ∷ es) (suc at) d within others =
    rw (others 0 d (omega arith) (λ same. absurd (omega arith))) (any_there p es at d (omega arith) (λ j d lt apart. others (suc j) d (omega arith) (λ same. apart (omega arith))))

-- entries with other UIDs are other mail
other_mail : (e x : Entry) → x.uid ≢ e.uid → same_mail e x ≡ false
other_mail e x apart = let differs : (e.uid == x.uid) ≡ false = grind (arith, nat_tests) in rw differs refl

module _ (es : List Entry) (low next : ℕ) (rise : uids_rise low es next ≡ true) (e : Entry) where
  uids_compared : IsNonDecreasingBy (λ (x : Entry). ordering_index (nat_cmp x.uid e.uid)) es
  uids_compared = numbers_compared (λ (x : Entry). x.uid) e.uid es (by_places low es next rise)

  -- a binary search ends at the entry of the UID
  pub uid_found : (at : ℕ) (d : Entry) → at < length es → ((x : Entry) → nat_cmp (get_or es at x).uid e.uid ≡ Equal) → list_any (same_mail e) es ≡ same_mail e (get_or es at d)
  uid_found at d within equal =
      let here : (x : Entry) → (get_or es at x).uid ≡ e.uid = λ x. ranked _ _ Equal (sym (equal x)) in
      any_there (same_mail e) es at d within (λ j x lt apart. other_mail e (get_or es j x) (λ same. elim (cases_order j at) [
        | inl is ↦ apart is
        | inr (inl less) ↦ (let below : (get_or es j x).uid < (get_or es at x).uid = by_places low es next rise j at x less within in let is = here x in absurd (omega arith))
        | inr (inr more) ↦ (let above : (get_or es at x).uid < (get_or es j x).uid = by_places low es next rise at j x more lt in let is = here x in absurd (omega arith))
      ]))

  -- or there is none
  pub uid_missing : (at : ℕ) → IsBinarySearchResult (λ (x : Entry). nat_cmp x.uid e.uid) es (let r : Result ℕ ℕ = Err at in r) → list_any (same_mail e) es ≡ false
  uid_missing at parted =
      let differs : (o : Ordering) (a : ℕ) → nat_cmp a e.uid ≡ o → o ≢ Equal → a ≢ e.uid =
      λ o a q apart same. apart (sym q ∙ sym (nat_cmp_is a e.uid Equal same)) in
      any_none (same_mail e) es (λ j d within. other_mail e (get_or es j d) (elim (cases_order j at) [
        | inr (inl lt) ↦ differs Less _ ((parted uids_compared).0 j d (omega arith) lt) (λ q. cc)
        | inl same ↦ differs Greater _ ((parted uids_compared).1 j d (omega arith) within) (λ q. cc)
        | inr (inr gt) ↦ differs Greater _ ((parted uids_compared).1 j d (omega arith) within) (λ q. cc)
      ]))
