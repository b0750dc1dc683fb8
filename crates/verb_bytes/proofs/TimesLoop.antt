-- Reading one element after another, as a loop does.
use Rattle.std.proofs.Common.{◌≡◌, ℕ, zero, suc, add-one, subst, ◌-◌, ◌+◌, ◌≤◌, ◌<◌, List, [], ◌∷◌, ◌++◌, Result, Ok, Err, refl, sym, ap, ◌∙◌, append_assoc, arith}
use Rattle.std.proofs.lemmas.List.{append-nil}
use Rattle.verb_bytes.specs.declared.cursor.Stop.{Stop}
use Rattle.verb_bytes.specs.declared.cursor.Stop.TheVariants.{At, NoMemory}
use Rattle.verb_bytes.specs.Readers.{Reader, and_then, ◌>>=◌, done, times, Gives}

-- what was read before, and what is still read
abbrev pub with_front : {A : Type 0} → List A → Result (List A × List ℕ) ℕ → Result (List A × List ℕ) ℕ
with_front front (Ok x) = Ok (front ++ x.0, x.1)
with_front front (Err left) = Err left

-- so many were read of so many, and the rest is still to be read
pub record Goes {A : Type 0} (reader : Reader A) (count i : ℕ) (start : List ℕ) (front : List A) (bytes : List ℕ) : Type 0 where
  pub so_far : with_front front (times (count - i) reader bytes) ≡ times count reader start

pub begins : {A : Type 0} (reader : Reader A) (count : ℕ) (start : List ℕ) → Goes reader count 0 start [] start
begins reader count start = record { so_far = same (times (count - 0) reader start) ∙ ap (λ (n : ℕ). times n reader start) (omega arith) }
  where
    same : {A : Type 0} (r : Result (List A × List ℕ) ℕ) → with_front [] r ≡ r
    same (Ok x) = refl
    same (Err left) = refl

regroup : {A : Type 0} (front : List A) (x : A) (r : Result (List A × List ℕ) ℕ) → with_front front (and_then r (λ xs. done (x ∷ xs))) ≡ with_front (front ++ x ∷ []) r
regroup {A} front x (Ok y) = ap (λ (xs : List A). Ok (xs, y.1)) (simp append_assoc)
regroup front x (Err left) = refl

pub goes_on : {A : Type 0} (reader : Reader A) (count i : ℕ) (start : List ℕ) (front : List A) (bytes : List ℕ) (x : A) (after : List ℕ) → i < count → reader bytes ≡ Ok (x, after) → Goes reader count i start front bytes → Goes reader count (i + 1) start (front ++ x ∷ []) after
unfolding times
goes_on reader count i start front bytes x after lt h g =
    let k : count - i ≡ suc (count - (i + 1)) = omega arith in
    let one : with_front front (times (count - i) reader bytes) ≡ with_front (front ++ x ∷ []) (times (count - (i + 1)) reader after) = rw (k, h) (regroup front x (times (count - (i + 1)) reader after)) in
    record { so_far = sym one ∙ g.so_far }

pub ends : {A : Type 0} (reader : Reader A) (count i : ℕ) (start : List ℕ) (front : List A) (bytes after : List ℕ) (e : Stop) → i < count → Gives {A = A} reader bytes after (Err e) → Goes reader count i start front bytes → Gives (times count reader) start after (Err e)
unfolding times
ends reader count i start front bytes after NoMemory lt h g = tt
ends reader count i start front bytes after (At left) lt h g =
    let k : count - i ≡ suc (count - (i + 1)) = omega arith in
    let one : with_front front (times (count - i) reader bytes) ≡ Err left = rw (k, h) refl in
    sym g.so_far ∙ one

pub is_done : {A : Type 0} (reader : Reader A) (count i : ℕ) (start : List ℕ) (front : List A) (bytes : List ℕ) → count ≤ i → Goes reader count i start front bytes → times count reader start ≡ Ok (front, bytes)
unfolding times
is_done {A} reader count i start front bytes le g =
    let k : count - i ≡ 0 = omega arith in
    let one : with_front front (times (count - i) reader bytes) ≡ Ok (front, bytes) = rw k (ap (λ (xs : List A). Ok (xs, bytes)) (append-nil front)) in
    sym g.so_far ∙ one

read_first : {A C : Type 0} (r : Result (A × List ℕ) ℕ) (rest : A → Reader C) (y : C × List ℕ) → and_then r rest ≡ Ok y → (p : A × List ℕ) × (r ≡ Ok p) × (rest p.0 p.1 ≡ Ok y)
read_first (Ok p) rest y h = (p, refl, h)
read_first (Err left) rest y h = absurd (let wrong : Err left ≡ Ok y = h in cc)

times_step : {A : Type 0} (reader : Reader A) (n : ℕ) (start mid : List ℕ) (x : A) (xs : List A) (after : List ℕ) → reader start ≡ Ok (x, mid) → times n reader mid ≡ Ok (xs, after) → times (suc n) reader start ≡ Ok (x ∷ xs, after)
unfolding times
times_step reader n start mid x xs after one more = rw (one, more) refl

times_pushed : {A : Type 0} (reader : Reader A) (n : ℕ) (start : List ℕ) (xs : List A) (bytes : List ℕ) (x : A) (after : List ℕ) → times n reader start ≡ Ok (xs, bytes) → reader bytes ≡ Ok (x, after)
    → times (suc n) reader start ≡ Ok (xs ++ x ∷ [], after)
unfolding times
times_pushed {A} reader zero start xs bytes x after h one =
    let none : [] ≡ xs = ap (λ (r : Result (List A × List ℕ) ℕ). ok_or_none [] r) h in
    let same : start ≡ bytes = ap (λ (r : Result (List A × List ℕ) ℕ). left_or start r) h in
    let here : reader start ≡ Ok (x, after) = subst (λ b. reader b ≡ Ok (x, after)) (sym same) one in
    rw (sym none, here) refl
  where
    ok_or_none : List A → Result (List A × List ℕ) ℕ → List A
    ok_or_none other (Ok p) = p.0
    ok_or_none other (Err left) = other

    left_or : List ℕ → Result (List A × List ℕ) ℕ → List ℕ
    left_or other (Ok p) = p.1
    left_or other (Err left) = other
times_pushed {A} reader (suc n) start xs bytes x after h one =
    let f = read_first (reader start) (λ y. times n reader >>= λ ys. done (y ∷ ys)) (xs, bytes) h in
    let g = read_first (times n reader f.0.1) (λ ys. done (f.0.0 ∷ ys)) (xs, bytes) f.2 in
    let more : f.0.0 ∷ g.0.0 ≡ xs = ap (λ (r : Result (List A × List ℕ) ℕ). ok_or_none [] r) g.2 in
    let same : g.0.1 ≡ bytes = ap (λ (r : Result (List A × List ℕ) ℕ). left_or [] r) g.2 in
    let far = times_pushed reader n f.0.1 g.0.0 g.0.1 x after g.1 (subst (λ b. reader b ≡ Ok (x, after)) (sym same) one) in
    subst (λ (ys : List A). times (suc (suc n)) reader start ≡ Ok (ys ++ x ∷ [], after)) more (times_step reader (suc n) start f.0.1 f.0.0 (g.0.0 ++ x ∷ []) after f.1 far)
  where
    ok_or_none : List A → Result (List A × List ℕ) ℕ → List A
    ok_or_none other (Ok p) = p.0
    ok_or_none other (Err left) = other

    left_or : List ℕ → Result (List A × List ℕ) ℕ → List ℕ
    left_or other (Ok p) = p.1
    left_or other (Err left) = other

-- one more is read behind those that were
pub times_push : {A : Type 0} (reader : Reader A) (n : ℕ) (start : List ℕ) (xs : List A) (bytes : List ℕ) (x : A) (after : List ℕ) → times n reader start ≡ Ok (xs, bytes) → reader bytes ≡ Ok (x, after)
    → times (n + 1) reader start ≡ Ok (xs ++ x ∷ [], after)
times_push reader n start xs bytes x after h one = rw add-one (times_pushed reader n start xs bytes x after h one)

-- none was read
pub times_none : {A : Type 0} (reader : Reader A) (start : List ℕ) → times 0 reader start ≡ Ok ([], start)
unfolding times
times_none reader start = refl
