-- Spans of places, and the numbers that stand there.
use Rattle.std.proofs.Common.{◌≡◌, ℕ, ◌+◌, ◌-◌, ◌<◌, ◌≤◌, Bool, true, false, ◌&&◌, ◌||◌, List, [], ◌∷◌, ◌++◌, length, take, nat_le, nat_lt, min, get_or, refl, ap, sym, ◌∙◌, arith, zero, suc, subst, inl, inr, ◌⊎◌}
use Rattle.std.proofs.lemmas.Bool.Decides.{leb_tells, Decides-ltb}
use Rattle.std.proofs.lemmas.Bool.{leb-true, le-leb}
use Rattle.std.proofs.lemmas.List.{take_more}
use Rattle.std.proofs.lemmas.List.Folds.{list_any-append}
use Rattle.std.specs.List.{list_any}
use Rattle.std.specs.List.Sorted.{IsStrictlyIncreasing}
use Rattle.imap_stream.specs.declared.picks.SetRange.{SetRange}
use Rattle.imap_stream.specs.declared.picks.Span.{Span}
use Rattle.imap_stream.specs.Sets.{covers}
use Rattle.imap_stream.specs.Spans.{in_span, IsBelow, IsSpanOf, IsRangeSpan, SpansSet}

-- tests of facts that follow from each other
pub same_test : (s t : Bool) → (s ≡ true → t ≡ true) → (t ≡ true → s ≡ true) → s ≡ t
same_test true t there back = sym (there refl)
same_test false true there back = back refl
same_test false false there back = refl

pub le_true : (a b : ℕ) → a ≤ b → nat_le a b ≡ true
le_true a b le = le-leb a b le

pub lt_true : (a b : ℕ) → a < b → nat_lt a b ≡ true
lt_true a b lt = (Decides-ltb a b).1 lt

pub true_lt : (a b : ℕ) → nat_lt a b ≡ true → a < b
true_lt a b e = (Decides-ltb a b).0 e

and_same : (a b c d : Bool) → a ≡ c → b ≡ d → (a && b) ≡ (c && d)
and_same a b c d e f = ap (λ x. x && b) e ∙ ap (λ x. c && x) f

-- each UID is at least the earlier ones
pub rises : (xs : List ℕ) → IsStrictlyIncreasing xs → (i gap : ℕ) → i + gap < length xs → get_or xs i 0 ≤ get_or xs (i + gap) 0
rises xs inc i zero within = let e : i + 0 ≡ i = omega arith in subst (λ k. get_or xs i 0 ≤ get_or xs k 0) (sym e) (omega arith)
rises xs inc i (suc gap) within =
    let e : i + gap + 1 ≡ i + suc gap = omega arith in
    let before = rises xs inc i gap (omega arith) in
    let next : get_or xs (i + gap) 0 < get_or xs (i + gap + 1) 0 = inc (i + gap) (omega arith) in
    subst (λ k. get_or xs i 0 ≤ get_or xs k 0) e (omega arith)

pub rises_to : (xs : List ℕ) → IsStrictlyIncreasing xs → (i j : ℕ) → i ≤ j → j < length xs → get_or xs i 0 ≤ get_or xs j 0
rises_to xs inc i j le within =
    let e : i + (j - i) ≡ j = omega arith in
    subst (λ k. get_or xs i 0 ≤ get_or xs k 0) e (rises xs inc i (j - i) (omega arith))

-- the places of the UIDs between two numbers
pub uid_span_is : (uids : List ℕ) (low high from to : ℕ) → IsBelow low uids from → IsBelow (high + 1) uids to
    → IsSpanOf (λ p. get_or uids p 0) (length uids) low high (record { from = from; to = to })
uid_span_is uids low high from to first last p within = and_same (nat_le from p) (nat_lt p to) (nat_le low uid) (nat_le uid high) (same_test (nat_le from p) (nat_le low uid) there back) (same_test (nat_lt p to) (nat_le uid high) there2 back2)
  where
    uid : ℕ
    uid = get_or uids p 0

    there : nat_le from p ≡ true → nat_le low uid ≡ true
    there e = le_true low uid (first.1 p (leb-true from p e) within)

    back : nat_le low uid ≡ true → nat_le from p ≡ true
    back e = by_tells (leb_tells from p)
      where
        by_tells : ((nat_le from p ≡ true) × (from ≤ p)) ⊎ ((nat_le from p ≡ false) × (p < from)) → nat_le from p ≡ true
        by_tells (inl a) = a.0
        by_tells (inr b) = absurd (let under : uid < low = first.0 p b.1 in let over : low ≤ uid = leb-true low uid e in omega arith)

    there2 : nat_lt p to ≡ true → nat_le uid high ≡ true
    there2 e = le_true uid high (let under : uid < high + 1 = last.0 p (true_lt p to e) in omega arith)

    back2 : nat_le uid high ≡ true → nat_lt p to ≡ true
    back2 e = by_tells (leb_tells (suc p) to)
      where
        by_tells : ((nat_le (suc p) to ≡ true) × (suc p ≤ to)) ⊎ ((nat_le (suc p) to ≡ false) × (to < suc p)) → nat_lt p to ≡ true
        by_tells (inl a) = lt_true p to (let le = a.1 in omega arith)
        by_tells (inr b) = absurd (let over : high + 1 ≤ uid = last.1 p (let le = b.1 in omega arith) within in let under : uid ≤ high = leb-true uid high e in omega arith)

-- the places of the sequence numbers between two
pub number_span_is : (count low high from to : ℕ) → from ≡ low - 1 → to ≡ min high count → IsSpanOf (λ p. p + 1) count low high (record { from = from; to = to })
number_span_is count low high from to ef et p within = and_same (nat_le from p) (nat_lt p to) (nat_le low (p + 1)) (nat_le (p + 1) high)
    (same_test (nat_le from p) (nat_le low (p + 1)) (λ e. le_true low (p + 1) (let le = leb-true from p e in omega arith)) (λ e. le_true from p (let le = leb-true low (p + 1) e in omega arith)))
    (same_test (nat_lt p to) (nat_le (p + 1) high) (λ e. le_true (p + 1) high (let lt = true_lt p to e in omega arith)) (λ e. lt_true p to (let le = leb-true (p + 1) high e in omega arith)))

-- one span more
pub spans_more : (number : ℕ → ℕ) (greatest count : ℕ) (set : List SetRange) (i : ℕ) (range : SetRange) (spans : List Span) (s : Span) → i < length set → range ≡ get_or set i range
    → SpansSet number greatest count (take i set) spans → IsRangeSpan number greatest count range s → SpansSet number greatest count (take (i + 1) set) (spans ++ s ∷ [])
spans_more number greatest count set i range spans s within is so_far one p inside =
    let test : SetRange → Bool = λ r. covers greatest r (number p) in
    list_any-append (in_span p) spans (s ∷ []) ∙ ap (λ b. b || (in_span p s || false)) (so_far p inside) ∙ ap (λ b. list_any test (take i set) || (b || false)) (one p inside)
    ∙ sym (ap (list_any test) (take_more set i range within ∙ ap (λ r. take i set ++ r ∷ []) (sym is)) ∙ list_any-append test (take i set) (range ∷ []))
