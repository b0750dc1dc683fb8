-- Bytes at whose first places it was seen that no CRLF begins.
use Rattle.std.proofs.Common.{◌≡◌, ◌==◌, ◌⊎◌, ℕ, zero, suc, ◌+◌, ◌-◌, ◌<◌, ◌≤◌, get_or, Bool, true, false, cond, not, ◌&&◌, List, [], ◌∷◌, ◌++◌, length, take, drop, refl, ap, subst, sym, ◌∙◌, inl, inr, arith, add-one}
use Rattle.std.proofs.lemmas.List.{drop-append-le, length-append, length-drop}
use Rattle.std.specs.Prelude.{Option, None, Some}
use Rattle.memchr.specs.Find.{Nowhere, Passes, IsFirstByte, is_byte}
use Rattle.smtp_lines.specs.Lines.{is_end, onto_first, onto_rest, lines_of, tail_of}
use Rattle.smtp_lines.specs.Passed.{passes}
use Rattle.smtp_lines.proofs.Cut.{Passed, onto_line, onto_last, passed_none}

-- a step of `passes`
record Step (b c n : ℕ) (s : List ℕ) : Type 0 where
  apart : is_end b c ≡ false
  more : passes n (c ∷ s) ≡ true

step_by : (e p : Bool) → (not e && p) ≡ true → (e ≡ false) × (p ≡ true)
step_by true p wrong = absurd (let w : false ≡ true = wrong in cc)
step_by false p is = (refl, is)

step : (b c n : ℕ) (s : List ℕ) → passes (suc n) (b ∷ c ∷ s) ≡ true → Step b c n s
step b c n s seen = let both = step_by (is_end b c) (passes n (c ∷ s)) seen in record { apart = both.0; more = both.1 }

step_back : (b c n : ℕ) (s : List ℕ) → is_end b c ≡ false → passes n (c ∷ s) ≡ true → passes (suc n) (b ∷ c ∷ s) ≡ true
step_back b c n s apart more = rw apart more

-- more bytes change nothing
pub seen_append : (n : ℕ) (s t : List ℕ) → passes n s ≡ true → passes n (s ++ t) ≡ true
seen_append zero s t seen = refl
seen_append (suc n) [] t seen = absurd (let w : false ≡ true = seen in cc)
seen_append (suc n) (b ∷ []) t seen = absurd (let w : false ≡ true = seen in cc)
seen_append (suc n) (b ∷ c ∷ s) t seen =
    let is = step b c n s seen in
    step_back b c n (s ++ t) is.apart (seen_append n (c ∷ s) t is.more)

-- the last byte is not among them
pub seen_within : (n : ℕ) (s : List ℕ) → passes n s ≡ true → (n ≡ 0) ⊎ (n < length s)
seen_within zero s seen = inl refl
seen_within (suc n) [] seen = absurd (let w : false ≡ true = seen in cc)
seen_within (suc n) (b ∷ []) seen = absurd (let w : false ≡ true = seen in cc)
seen_within (suc n) (b ∷ c ∷ s) seen = by_both (seen_within n (c ∷ s) (step b c n s seen).more)
  where
    by_both : (n ≡ 0) ⊎ (n < length (c ∷ s)) → (suc n ≡ 0) ⊎ (suc n < length (b ∷ c ∷ s))
    by_both (inl none) = inr (omega arith)
    by_both (inr some) = inr (omega arith)

onto_line_first : (b : ℕ) (front : List ℕ) (lines : List (List ℕ)) → onto_first b (onto_line front lines) ≡ onto_line (b ∷ front) lines
onto_line_first b front [] = refl
onto_line_first b front (line ∷ lines) = refl

onto_last_first : (b : ℕ) (front : List ℕ) (lines : List (List ℕ)) (rest : List ℕ) → onto_rest b (onto_line front lines) (onto_last front lines rest) ≡ onto_last (b ∷ front) lines rest
onto_last_first b front [] rest = refl
onto_last_first b front (line ∷ lines) rest = refl

passed_first : (b c : ℕ) (s front rest : List ℕ) → is_end b c ≡ false → Passed (c ∷ s) front rest → Passed (b ∷ c ∷ s) (b ∷ front) rest
passed_first b c s front rest apart p = record {
  whole = ap (λ l. b ∷ l) p.whole;
  lines = rw apart (ap (onto_first b) p.lines ∙ onto_line_first b front (lines_of rest));
  last = rw apart (rw (p.lines, p.last) (onto_last_first b front (lines_of rest) (tail_of rest)));
}

-- they are passed
pub seen_passed : (n : ℕ) (s : List ℕ) → passes n s ≡ true → Passed s (take n s) (drop n s)
seen_passed zero s seen = passed_none s
seen_passed (suc n) [] seen = absurd (let w : false ≡ true = seen in cc)
seen_passed (suc n) (b ∷ []) seen = absurd (let w : false ≡ true = seen in cc)
seen_passed (suc n) (b ∷ c ∷ s) seen =
    let is = step b c n s seen in
    passed_first b c s (take n (c ∷ s)) (drop n (c ∷ s)) is.apart (seen_passed n (c ∷ s) is.more)

-- more places behind those
jump : (n k : ℕ) (s : List ℕ) → passes n s ≡ true → passes k (drop n s) ≡ true → passes (n + k) s ≡ true
jump zero k s seen more = let e : k ≡ zero + k = omega arith in subst (λ m. passes m s ≡ true) e more
jump (suc n) k [] seen more = absurd (let w : false ≡ true = seen in cc)
jump (suc n) k (b ∷ []) seen more = absurd (let w : false ≡ true = seen in cc)
jump (suc n) k (b ∷ c ∷ s) seen more =
    let is = step b c n s seen in
    let e : suc (n + k) ≡ suc n + k = omega arith in
    subst (λ m. passes m (b ∷ c ∷ s) ≡ true) e (step_back b c (n + k) s is.apart (jump n k (c ∷ s) is.more more))

pub seen_more : (n k : ℕ) (s rest : List ℕ) → passes n s ≡ true → rest ≡ drop n s → passes k rest ≡ true → passes (n + k) s ≡ true
seen_more n k s rest seen e more = jump n k s seen (subst (λ r. passes k r ≡ true) e more)

no_cr : (b c : ℕ) (t : Bool) → (b == 13) ≡ t → ((b == 13) ≡ true → ⊥) → is_end b c ≡ false
no_cr b c true e not = absurd (not e)
no_cr b c false e not = ap (λ (t : Bool). t && (c == 10)) e

-- where no CR stands no CRLF begins
free_of_cr : (n : ℕ) (s : List ℕ) → n < length s → ((k : ℕ) → k < n → (get_or s k 0 == 13) ≡ true → ⊥) → passes n s ≡ true
free_of_cr zero s within free = refl
free_of_cr (suc n) [] within free = absurd (omega arith)
free_of_cr (suc n) (b ∷ []) within free = absurd (omega arith)
free_of_cr (suc n) (b ∷ c ∷ s) within free =
    step_back b c n s (no_cr b c (b == 13) refl (free 0 (omega arith))) (free_of_cr n (c ∷ s) (omega arith) (λ k lt. free (suc k) (omega arith)))

-- none begins at the first place, and no CR stands at so many behind it
to_cr : (k : ℕ) (s : List ℕ) → k + 1 < length s → is_end (get_or s 0 0) (get_or s 1 0) ≡ false → Nowhere (Passes (is_byte 13) (drop 1 s)) 0 k → passes (k + 1) s ≡ true
to_cr k [] within apart none = absurd (omega arith)
to_cr k (b ∷ []) within apart none = absurd (omega arith)
to_cr k (b ∷ c ∷ s) within apart none =
    rw add-one (step_back b c k s apart (free_of_cr k (c ∷ s) (omega arith) (λ j lt is. none j (omega arith) lt is)))

-- the next CR stands there
pub cr_next : (k : ℕ) (s t : List ℕ) (r : Option ℕ) → 2 ≤ length s → is_end (get_or s 0 0) (get_or s 1 0) ≡ false → t ≡ drop 1 s → IsFirstByte (is_byte 13) t r → r ≡ Some k
    → (k + 1 < length s) × (passes (k + 1) s ≡ true)
cr_next k s t r two apart is found e =
    let at = subst (λ x. IsFirstByte (is_byte 13) (drop 1 s) x) e (subst (λ x. IsFirstByte (is_byte 13) x r) is found) in
    let within : k + 1 < length s = omega (arith, at.0.high, length-drop 1 s) in
    (within, to_cr k s within apart at.0.before)

-- there is none
pub cr_gone : (s t : List ℕ) (r : Option ℕ) → 2 ≤ length s → is_end (get_or s 0 0) (get_or s 1 0) ≡ false → t ≡ drop 1 s → IsFirstByte (is_byte 13) t r → r ≡ None
    → passes (length s - 1) s ≡ true
cr_gone s t r two apart is found e =
    let none = subst (λ x. IsFirstByte (is_byte 13) (drop 1 s) x) e (subst (λ x. IsFirstByte (is_byte 13) x r) is found) in
    let size : length s - 2 + 1 ≡ length s - 1 = omega arith in
    let within : length s - 2 + 1 < length s = omega arith in
    subst (λ n. passes n s ≡ true) size (to_cr (length s - 2) s within apart (λ j low lt. none j low (omega (arith, length-drop 1 s))))

-- where less than two bytes are left, all places but the last are seen
pub seen_all : (n : ℕ) (s rest : List ℕ) → passes n s ≡ true → n + length rest ≡ length s → length rest < 2 → passes (length s - 1) s ≡ true
seen_all n s rest seen size short = by_both (seen_within n s seen)
  where
    by_both : (n ≡ 0) ⊎ (n < length s) → passes (length s - 1) s ≡ true
    by_both (inl none) = let e : n ≡ length s - 1 = omega arith in subst (λ k. passes k s ≡ true) e seen
    by_both (inr some) = let e : n ≡ length s - 1 = omega arith in subst (λ k. passes k s ≡ true) e seen

-- so many places are there
pub seen_short : (n : ℕ) (s : List ℕ) → passes n s ≡ true → n ≤ length s
seen_short n s seen = by_both (seen_within n s seen)
  where
    by_both : (n ≡ 0) ⊎ (n < length s) → n ≤ length s
    by_both (inl none) = omega arith
    by_both (inr some) = omega arith

-- bytes are added, or none, behind a front that was given
pub seen_fed : (ok : Bool) (n given : ℕ) (bytes more new : List ℕ) → given + given ≤ length bytes → passes n (drop given bytes) ≡ true → new ≡ cond ok (bytes ++ more) bytes
    → (given + given ≤ length new) × (passes n (drop given new) ≡ true)
seen_fed true n given bytes more new half seen is =
    let all : passes n (drop given (bytes ++ more)) ≡ true =
    subst (λ s. passes n s ≡ true) (sym (drop-append-le given bytes more (omega arith))) (seen_append n (drop given bytes) more seen) in
    let size : given + given ≤ length (bytes ++ more) = simp length-append (omega arith) in
    (subst (λ s. given + given ≤ length s) (sym is) size, subst (λ s. passes n (drop given s) ≡ true) (sym is) all)
seen_fed false n given bytes more new half seen is =
    (subst (λ s. given + given ≤ length s) (sym is) half, subst (λ s. passes n (drop given s) ≡ true) (sym is) seen)
