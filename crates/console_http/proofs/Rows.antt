-- What a row of the router matches: its own bytes, and behind them a part of the path, or all that follows.
use Rattle.std.proofs.Common.{◌≡◌, ℕ, ◌+◌, ◌-◌, ◌<◌, List, [], ◌∷◌, ◌++◌, Bool, true, false, ◌&&◌, ◌==◌, Option, Some, None, length, cond, suc, zero, refl, ◌∙◌, arith}
use Rattle.std.proofs.lemmas.Bool.Decides.{nat_tests}
use Rattle.matchit.specs.Rows.{RowsOf}
use Rattle.matchit.specs.Seek.{seek, step, own, or_else, param_step, has_slash}

-- a part of a path: bytes, and no slash among them
abbrev pub Plain : List ℕ → Type 0
Plain [] = Unit {0}
Plain (b ∷ rest) = (b < 256) × ((b == 47) ≡ false) × Plain rest

has_slash-plain : (p : List ℕ) → Plain p → has_slash p ≡ false
has_slash-plain [] h = refl
has_slash-plain (b ∷ p) h = rw h.1 (has_slash-plain p h.2)

one_less : (n : ℕ) → suc n - 1 ≡ n
one_less n = omega arith

first_holds : (a b : Bool) → (a && b) ≡ true → a ≡ true
first_holds true b e = refl
first_holds false b e = e

second_holds : (a b : Bool) → (a && b) ≡ true → b ≡ true
second_holds true b e = e
second_holds false b e = absurd (cc)

no_token : (t b : ℕ) → b < 256 → 256 < t + 1 → (t == b) ≡ false
no_token t b h more = grind (arith, nat_tests)

module _ {K : Type 0} where
  param_step-none : (p : List ℕ) → (param_step {K = K} [] p).1 ≡ []
  unfolding param_step
  param_step-none p =
      elim (has_slash p) as (λ v. (cond {A = ℕ × RowsOf K} v (0, []) (length p, [])).1 ≡ []) [ true ↦ refl | false ↦ refl ]

  seek-none : (k : ℕ) (p : List ℕ) → seek {K = K} k [] p ≡ None
  unfolding seek
  seek-none k [] = refl
  seek-none (suc k) (b ∷ p) = seek-none k p
  seek-none zero (b ∷ p) = simp (seek-none 0 p, param_step-none (b ∷ p), seek-none ((param_step {K = K} [] (b ∷ p)).0 - 1) p)

  skipped : (p : List ℕ) (rs : RowsOf K) → seek (length p) rs p ≡ own rs
  unfolding seek
  skipped [] rs = refl
  skipped (b ∷ p) rs = skipped p rs

  -- a part that ends the path
  pub seek-part : (b : ℕ) (p : List ℕ) (key : K) → Plain (b ∷ p) → seek 0 ((256 ∷ [], key) ∷ []) (b ∷ p) ≡ Some key
  unfolding seek param_step
  seek-part b p key h =
      rw (no_token 256 b h.0 (omega arith), h.1, has_slash-plain p h.2, one_less (length p), skipped p (([], key) ∷ []), seek-none 0 p) refl

  -- all that follows
  pub seek-all : (b : ℕ) (p : List ℕ) (key : K) → b < 256 → seek 0 ((257 ∷ [], key) ∷ []) (b ∷ p) ≡ Some key
  unfolding seek
  seek-all b p key h =
      rw (no_token 257 b h (omega arith), seek-none 0 p, param_step-none (b ∷ p), seek-none ((param_step {K = K} [] (b ∷ p)).0 - 1) p) refl

  or_else-none : (o : Option K) → or_else o None ≡ o
  or_else-none None = refl
  or_else-none (Some key) = refl

  abbrev pub along : List ℕ → RowsOf K → RowsOf K
  along [] rs = rs
  along (b ∷ w) rs = along w (step b rs)

  abbrev pub is_none_left : RowsOf K → Bool
  is_none_left [] = true
  is_none_left (r ∷ rs) = false

  abbrev pub is_literal_along : List ℕ → RowsOf K → Bool
  is_literal_along [] rs = true
  is_literal_along (b ∷ w) rs = is_none_left (step 256 rs) && (is_none_left (step 257 rs) && is_literal_along w (step b rs))

  none_left : (rs : RowsOf K) → is_none_left rs ≡ true → rs ≡ []
  none_left [] e = refl
  none_left (r ∷ rs) e = absurd (cc)

  seek-byte : (b : ℕ) (p : List ℕ) (rs : RowsOf K) → step 256 rs ≡ [] → step 257 rs ≡ [] → seek 0 rs (b ∷ p) ≡ seek 0 (step b rs) p
  unfolding seek
  seek-byte b p rs e f =
      rw (e, f, param_step-none (b ∷ p), seek-none ((param_step {K = K} [] (b ∷ p)).0 - 1) p) (or_else-none (seek 0 (step b rs) p))

  -- bytes that are those of a pattern
  pub seek-along : (w q : List ℕ) (rs : RowsOf K) → is_literal_along w rs ≡ true → seek 0 rs (w ++ q) ≡ seek 0 (along w rs) q
  seek-along [] q rs e = refl
  seek-along (b ∷ w) q rs e =
      let rest = second_holds (is_none_left (step 256 rs)) _ e in
      seek-byte b (w ++ q) rs (none_left (step 256 rs) (first_holds _ _ e)) (none_left (step 257 rs) (first_holds _ _ rest))
      ∙ seek-along w q (step b rs) (second_holds (is_none_left (step 257 rs)) _ rest)
