-- Places of spans that are sorted by where they begin, each place once.
use Rattle.std.proofs.Common.{◌≡◌, ℕ, ◌+◌, ◌-◌, ◌<◌, ◌≤◌, Bool, true, false, cond, ◌&&◌, ◌||◌, List, [], ◌∷◌, ◌++◌, length, take, nat_le, nat_lt, max, get_or, refl, ap, sym, ◌∙◌, arith, zero, suc, subst, inl, inr, ◌⊎◌}
use Rattle.std.proofs.lemmas.Bool.Decides.{leb_tells}
use Rattle.std.proofs.lemmas.Bool.{leb-true}
use Rattle.std.proofs.lemmas.List.{append-nil, take_more, take_all, get_or_default}
use Rattle.std.proofs.lemmas.List.Folds.{list_any-append}
use Rattle.std.specs.List.{list_any}
use Rattle.std.specs.List.Sorted.{IsNonDecreasingBy}
use Rattle.imap_stream.specs.declared.picks.Span.{Span}
use Rattle.imap_stream.specs.Sets.{run_from, places_in}
use Rattle.imap_stream.specs.Spans.{in_span, in_any}
use Rattle.imap_stream.proofs.Covering.{le_true, lt_true, true_lt}

-- tests that agree on the places
pub places_same : (s t : ℕ → Bool) (from n : ℕ) → ((p : ℕ) → from ≤ p → p < from + n → s p ≡ t p) → places_in s from n ≡ places_in t from n
places_same s t from zero same = refl
places_same s t from (suc n) same =
    ap (λ b. cond b (from ∷ places_in s (from + 1) n) (places_in s (from + 1) n)) (same from (omega arith) (omega arith))
    ∙ ap (λ l. cond (t from) (from ∷ l) l) (places_same s t (from + 1) n (λ p low high. same p (omega arith) (omega arith)))

pub places_split : (t : ℕ → Bool) (from m n : ℕ) → places_in t from (m + n) ≡ places_in t from m ++ places_in t (from + m) n
places_split t from zero n = (let e : 0 + n ≡ n = omega arith in let f : from ≡ from + 0 = omega arith in ap (places_in t from) e ∙ ap (λ k. places_in t k n) f)
places_split t from (suc m) n =
    let e : suc m + n ≡ suc (m + n) = omega arith in
    let f : from + 1 + m ≡ from + suc m = omega arith in
    ap (places_in t from) e ∙ ap (λ l. cond (t from) (from ∷ l) l) (places_split t (from + 1) m n ∙ ap (λ k. places_in t (from + 1) m ++ places_in t k n) f) ∙ by_test (t from)
  where
    by_test : (b : Bool) → cond b (from ∷ places_in t (from + 1) m ++ places_in t (from + suc m) n) (places_in t (from + 1) m ++ places_in t (from + suc m) n)
        ≡ cond b (from ∷ places_in t (from + 1) m) (places_in t (from + 1) m) ++ places_in t (from + suc m) n
    by_test true = refl
    by_test false = refl

pub places_none : (t : ℕ → Bool) (from n : ℕ) → ((p : ℕ) → from ≤ p → p < from + n → t p ≡ false) → places_in t from n ≡ []
places_none t from zero none = refl
places_none t from (suc n) none =
    ap (λ b. cond b (from ∷ places_in t (from + 1) n) (places_in t (from + 1) n)) (none from (omega arith) (omega arith)) ∙ places_none t (from + 1) n (λ p low high. none p (omega arith) (omega arith))

pub places_all : (t : ℕ → Bool) (from n : ℕ) → ((p : ℕ) → from ≤ p → p < from + n → t p ≡ true) → places_in t from n ≡ run_from from n
places_all t from zero all = refl
places_all t from (suc n) all =
    ap (λ b. cond b (from ∷ places_in t (from + 1) n) (places_in t (from + 1) n)) (all from (omega arith) (omega arith)) ∙ ap (λ l. from ∷ l) (places_all t (from + 1) n (λ p low high. all p (omega arith) (omega arith)))

-- one number more
pub run_more : (from n : ℕ) → run_from from (n + 1) ≡ run_from from n ++ (from + n) ∷ []
run_more from zero = (let e : from ≡ from + 0 = omega arith in ap (λ k. k ∷ []) e)
run_more from (suc n) =
    let e : suc n + 1 ≡ suc (n + 1) = omega arith in
    let f : from + 1 + n ≡ from + suc n = omega arith in
    ap (run_from from) e ∙ ap (λ l. from ∷ l) (run_more (from + 1) n ∙ ap (λ k. run_from (from + 1) n ++ k ∷ []) f)

pub span_true : (p : ℕ) (s : Span) → s.from ≤ p → p < s.to → in_span p s ≡ true
span_true p s low high = ap (λ b. b && nat_lt p s.to) (le_true s.from p low) ∙ lt_true p s.to high

pub true_span : (p : ℕ) (s : Span) → in_span p s ≡ true → (s.from ≤ p) × (p < s.to)
true_span p s e = by_first (nat_le s.from p) refl e
  where
    by_first : (b : Bool) → nat_le s.from p ≡ b → (b && nat_lt p s.to) ≡ true → (s.from ≤ p) × (p < s.to)
    by_first true is e = (leb-true s.from p is, true_lt p s.to e)
    by_first false is e = absurd (let wrong : false ≡ true = e in cc)

not_true : (b : Bool) → (b ≡ true → ⊥) → b ≡ false
not_true true never = absurd (never refl)
not_true false never = refl

-- The places of the first spans, and where the next place may stand.
pub record Joined (spans : List Span) (i : ℕ) (places : List ℕ) (next count : ℕ) : Type 0 where
  pub so_far : places ≡ places_in (in_any (take i spans)) 0 next
  pub within : next ≤ count
  pub beyond : (p : ℕ) → next ≤ p → in_any (take i spans) p ≡ false
  pub met : (p k : ℕ) (d : Span) → i ≤ k → k < length spans → (get_or spans k d).from ≤ p → p < next → in_any (take i spans) p ≡ true

any_more : (spans : List Span) (i : ℕ) (s : Span) (p : ℕ) → i < length spans → s ≡ get_or spans i s → in_any (take (i + 1) spans) p ≡ (in_any (take i spans) p || (in_span p s || false))
any_more spans i s p within is = ap (list_any (in_span p)) (take_more spans i s within ∙ ap (λ x. take i spans ++ x ∷ []) (sym is)) ∙ list_any-append (in_span p) (take i spans) (s ∷ [])

or_true : (a b : Bool) → a ≡ true → (a || b) ≡ true
or_true a b e = ap (λ x. x || b) e

or_last : (a b : Bool) → b ≡ true → (a || (b || false)) ≡ true
or_last true b e = refl
or_last false b e = ap (λ x. x || false) e

or_none : (a b : Bool) → a ≡ false → b ≡ false → (a || (b || false)) ≡ false
or_none a b e f = ap (λ x. x || (b || false)) e ∙ ap (λ x. x || false) f

or_same : (a b : Bool) → (b ≡ true → a ≡ true) → a ≡ (a || (b || false))
or_same true b e = refl
or_same false true e = e refl
or_same false false e = refl

pub joined_none : (spans : List Span) (count : ℕ) → Joined spans 0 [] 0 count
joined_none spans count = record { so_far = refl; within = omega arith; beyond = λ p le. refl; met = λ p k d le in_list low high. absurd (omega arith) }

-- a span that has no place that is new
pub joined_old : (spans : List Span) (i : ℕ) (s : Span) (places : List ℕ) (next count : ℕ) → IsNonDecreasingBy (λ (x : Span). x.from) spans → i < length spans → s ≡ get_or spans i s
    → s.to ≤ max s.from next → Joined spans i places next count → Joined spans (i + 1) places next count
joined_old spans i s places next count sorted inside is old j = record {
  so_far = j.so_far ∙ places_same (in_any (take i spans)) (in_any (take (i + 1) spans)) 0 next (λ p low high. or_same (in_any (take i spans) p) (in_span p s) (seen p) ∙ sym (any_more spans i s p inside is));
  within = j.within;
  beyond = λ p le. any_more spans i s p inside is ∙ or_none (in_any (take i spans) p) (in_span p s) (j.beyond p le) (not_true (in_span p s) (λ e. let b = true_span p s e in omega arith));
  met = λ p k d le in_list low high. any_more spans i s p inside is ∙ or_true (in_any (take i spans) p) (in_span p s || false) (j.met p k d (omega arith) in_list low high);
}
  where
    seen : (p : ℕ) → in_span p s ≡ true → in_any (take i spans) p ≡ true
    seen p e =
        let b = true_span p s e in
        let start : (get_or spans i s).from ≤ p = subst (λ x. x.from ≤ p) is b.0 in
        j.met p i s (omega arith) inside start (omega arith)

-- a span that has new places
pub joined_new : (spans : List Span) (i : ℕ) (s : Span) (places : List ℕ) (next count from : ℕ) → IsNonDecreasingBy (λ (x : Span). x.from) spans → i < length spans → s ≡ get_or spans i s
    → from ≡ max s.from next → from < s.to → s.to ≤ count → Joined spans i places next count → Joined spans (i + 1) (places ++ run_from from (s.to - from)) s.to count
joined_new spans i s places next count from sorted inside is start some most j = record {
  so_far =
      ap (λ l. l ++ run_from from (s.to - from)) (j.so_far ∙ first) ∙ ap (λ l. places_in now 0 next ++ l) (sym rest) ∙ sym (places_split now 0 next (s.to - next)) ∙ ap (places_in now 0) whole;
  within = most;
  beyond = λ p le. any_more spans i s p inside is ∙ or_none (in_any (take i spans) p) (in_span p s) (j.beyond p (omega arith)) (not_true (in_span p s) (λ e. let b = true_span p s e in omega arith));
  met = λ p k d le in_list low high. any_more spans i s p inside is ∙ by_next p k d (omega arith) in_list low high (leb_tells (suc p) next);
}
  where
    now : ℕ → Bool
    now = in_any (take (i + 1) spans)

    whole : next + (s.to - next) ≡ s.to
    whole = omega arith

    seen : (p : ℕ) → p < next → in_span p s ≡ true → in_any (take i spans) p ≡ true
    seen p under e =
        let b = true_span p s e in
        let begins : (get_or spans i s).from ≤ p = subst (λ x. x.from ≤ p) is b.0 in
        j.met p i s (omega arith) inside begins under

    first : places_in (in_any (take i spans)) 0 next ≡ places_in now 0 next
    first = places_same (in_any (take i spans)) now 0 next (λ p low high. or_same (in_any (take i spans) p) (in_span p s) (seen p (omega arith)) ∙ sym (any_more spans i s p inside is))

    gap : places_in now (0 + next) (from - next) ≡ []
    gap = places_none now (0 + next) (from - next) (λ p low high. any_more spans i s p inside is
        ∙ or_none (in_any (take i spans) p) (in_span p s) (j.beyond p (omega arith)) (not_true (in_span p s) (λ e. let b = true_span p s e in omega arith)))

    new : places_in now (0 + next + (from - next)) (s.to - from) ≡ run_from (0 + next + (from - next)) (s.to - from)
    new = places_all now (0 + next + (from - next)) (s.to - from) (λ p low high. any_more spans i s p inside is
        ∙ or_last (in_any (take i spans) p) (in_span p s) (span_true p s (omega arith) (omega arith)))

    rest : places_in now (0 + next) (s.to - next) ≡ run_from from (s.to - from)
    rest =
        let parts : s.to - next ≡ (from - next) + (s.to - from) = omega arith in
        let place : 0 + next + (from - next) ≡ from = omega arith in
        ap (places_in now (0 + next)) parts ∙ places_split now (0 + next) (from - next) (s.to - from) ∙ ap (λ l. l ++ places_in now (0 + next + (from - next)) (s.to - from)) gap
        ∙ new ∙ ap (λ k. run_from k (s.to - from)) place

    by_next : (p k : ℕ) (d : Span) → i ≤ k → k < length spans → (get_or spans k d).from ≤ p → p < s.to
        → ((nat_le (suc p) next ≡ true) × (suc p ≤ next)) ⊎ ((nat_le (suc p) next ≡ false) × (next < suc p)) → (in_any (take i spans) p || (in_span p s || false)) ≡ true
    by_next p k d le in_list low high (inl a) = or_true (in_any (take i spans) p) (in_span p s || false) (j.met p k d le in_list low (let u = a.1 in omega arith))
    by_next p k d le in_list low high (inr b) =
        let order : (get_or spans i d).from ≤ (get_or spans k d).from = sorted i k d le in_list in
        let same : (get_or spans i d).from ≡ (get_or spans i s).from = ap (λ (x : Span). x.from) (get_or_default spans i d s inside) in
        let this : s.from ≡ (get_or spans i s).from = ap (λ (x : Span). x.from) is in
        or_last (in_any (take i spans) p) (in_span p s) (span_true p s (omega arith) high)

-- all spans
pub joined_all : (spans : List Span) (places : List ℕ) (next count : ℕ) → Joined spans (length spans) places next count → places ≡ places_in (in_any spans) 0 count
joined_all spans places next count j =
    let all : take (length spans) spans ≡ spans = take_all (length spans) spans (omega arith) in
    let whole : next + (count - next) ≡ count = (let w = j.within in omega arith) in
    let test : ℕ → Bool = in_any (take (length spans) spans) in
    let none : places_in test (0 + next) (count - next) ≡ [] = places_none test (0 + next) (count - next) (λ p low high. j.beyond p (omega arith)) in
    j.so_far ∙ sym (append-nil (places_in test 0 next)) ∙ ap (λ l. places_in test 0 next ++ l) (sym none) ∙ sym (places_split test 0 next (count - next))
    ∙ ap (places_in test 0) whole ∙ ap (λ l. places_in (in_any l) 0 count) all

pub joined_more : (spans : List Span) (i : ℕ) (s : Span) (old new : List ℕ) (next now count : ℕ) → IsNonDecreasingBy (λ (x : Span). x.from) spans → i < length spans → s ≡ get_or spans i s → s.to ≤ count
    → (s.to ≤ max s.from next → (new ≡ old) × (now ≡ next))
    → (max s.from next < s.to → (new ≡ old ++ run_from (max s.from next) (s.to - max s.from next)) × (now ≡ s.to))
    → Joined spans i old next count → Joined spans (i + 1) new now count
joined_more spans i s old new next now count sorted inside is most none some j = by_order (leb_tells s.to (max s.from next))
  where
    by_order : ((nat_le s.to (max s.from next) ≡ true) × (s.to ≤ max s.from next)) ⊎ ((nat_le s.to (max s.from next) ≡ false) × (max s.from next < s.to)) → Joined spans (i + 1) new now count
    by_order (inl a) =
        let e = none a.1 in
        subst (λ l. Joined spans (i + 1) l now count) (sym e.0) (subst (λ n. Joined spans (i + 1) old n count) (sym e.1) (joined_old spans i s old next count sorted inside is a.1 j))
    by_order (inr b) =
        let e = some b.1 in
        subst (λ l. Joined spans (i + 1) l now count) (sym e.0) (subst (λ n. Joined spans (i + 1) (old ++ run_from (max s.from next) (s.to - max s.from next)) n count) (sym e.1)
        (joined_new spans i s old next count (max s.from next) sorted inside is refl b.1 most j))
