-- The first piece of a string.
use Rattle.std.proofs.Common.{◌≡◌, ℕ, zero, suc, ◌<◌, false, ◌==◌, List, [], ◌∷◌, length, take, drop, get_or, refl, ap, arith, eq-eqb}
use Rattle.std.proofs.lemmas.Bool.Decides.{nat_tests}
use Rattle.script_link.specs.Pieces.{pieces_of, onto_piece}

other : (b : ℕ) → (b ≡ 10 → ⊥) → (b == 10) ≡ false
other b no_lf = grind (arith, nat_tests)

-- a string in which LF stands
pub pieces_at : (bytes : List ℕ) (place : ℕ) → place < length bytes → ((k : ℕ) → k < place → get_or bytes k 0 ≡ 10 → ⊥) → get_or bytes place 0 ≡ 10
    → pieces_of bytes ≡ take (suc place) bytes ∷ pieces_of (drop (suc place) bytes)
pieces_at [] place within before here = absurd (omega arith)
pieces_at (b ∷ bytes) zero within before here = rw (eq-eqb b 10 here) refl
pieces_at (b ∷ bytes) (suc place) within before here =
    rw (other b (before 0 (omega arith)))
    (ap (onto_piece b) (pieces_at bytes place (omega arith) (λ k lt. before (suc k) (omega arith)) here))

-- a string without LF is one piece
pub pieces_none : (bytes : List ℕ) → 0 < length bytes → ((k : ℕ) → k < length bytes → get_or bytes k 0 ≡ 10 → ⊥) → pieces_of bytes ≡ bytes ∷ []
pieces_none [] some none = absurd (omega arith)
pieces_none (b ∷ []) some none = rw (other b (none 0 (omega arith))) refl
pieces_none (b ∷ c ∷ bytes) some none =
    rw (other b (none 0 (omega arith))) (ap (onto_piece b) (pieces_none (c ∷ bytes) (omega arith) (λ k lt. none (suc k) (omega arith))))
