-- What bytes are names.
use Rattle.std.proofs.Common.{◌≡◌, ℕ, ◌+◌, ◌≤◌, ◌<◌, Bool, true, not, ◌&&◌, inl, inr, List, [], ◌∷◌, length, map, Some, None, refl, arith, nat_lt}
use Rattle.std.specs.Prelude.{nat_le}
use Rattle.std.specs.Char.{to_ascii_lowercase}
use Rattle.std.specs.List.{list_all, position_or_len}
use Rattle.std.specs.Str.{str_to_ascii_lowercase}
use Rattle.std.proofs.lemmas.Bool.{and_parts, cases_Bool, cond-false, le-leb, le-ltb, leb-true, ltb-false, ltb-true}
use Rattle.std.specs.Int.{IsInRange}
use Rattle.std.proofs.lemmas.Str.Ascii.{lowercase_is}
use Rattle.std.proofs.lemmas.List.{length-map}
use Rattle.undo_base.specs.Name.{IsName, is_name, is_printable, first_unprintable}

-- each byte passes, so none is the first that does not
all_through : (test : ℕ → Bool) (xs : List ℕ) → list_all test xs ≡ true → position_or_len (λ b. not (test b)) xs ≡ length xs
all_through test [] e = refl
all_through test (x ∷ xs) e =
    let p : (test x ≡ true) × (list_all test xs ≡ true) = and_parts (test x) (list_all test xs) e in
    let rest = all_through test xs p.1 in
    rw p.0 (omega (arith, rest))

-- bytes of which each is printable
pub no_bad_byte : (text : List ℕ) → list_all is_printable text ≡ true → first_unprintable text ≡ None
no_bad_byte text e =
    let n = position_or_len (λ b. not (is_printable b)) text in
    cond-false (nat_lt n (length text)) (Some n) None (le-ltb n (length text) (omega (arith, all_through is_printable text e)))

-- bytes that pass the test are a name
pub name_is : (text : List ℕ) → is_name text ≡ true → IsName text
name_is text e =
    let p = and_parts (nat_le 1 (length text) && nat_le (length text) 200) (list_all is_printable text) e in
    let q = and_parts (nat_le 1 (length text)) (nat_le (length text) 200) p.0 in
    record { some = leb-true 1 (length text) q.0; most = leb-true (length text) 200 q.1; printable = no_bad_byte text p.1 }

-- ---- lower case

-- a capital and its letter
letter : (c b : ℕ) → 65 ≤ b → b ≤ 90 → c ≡ b + 32 → is_printable c ≡ is_printable b
letter c b low high is =
    rw (is, le-leb 32 (b + 32) (omega (arith, low)), le-leb (b + 32) 126 (omega (arith, high)), le-leb 32 b (omega (arith, low)), le-leb b 126 (omega (arith, high))) refl

-- a byte is printable where its lower case is
same_byte : (b : ℕ) → is_printable (to_ascii_lowercase b) ≡ is_printable b
same_byte b = by_case (to_ascii_lowercase b) (lowercase_is b)
  where
    by_case : (c : ℕ) → (IsInRange 65 90 b → c ≡ b + 32) × (b < 65 → c ≡ b) × (90 < b → c ≡ b) → is_printable c ≡ is_printable b
    by_case c (upper, below, above) =
        elim (cases_Bool (nat_lt b 65)) [
          | inl low ↦ rw (below (ltb-true b 65 low)) refl
          | inr high ↦ elim (cases_Bool (nat_lt 90 b)) [
            | inl over ↦ rw (above (ltb-true 90 b over)) refl
            | inr under ↦ letter c b (ltb-false b 65 high) (ltb-false 90 b under) (upper (ltb-false b 65 high, ltb-false 90 b under))
          ]
        ]

-- where the first byte stands that is not printable
same_place : (text : List ℕ) → position_or_len (λ b. not (is_printable b)) (map to_ascii_lowercase text) ≡ position_or_len (λ b. not (is_printable b)) text
same_place [] = refl
same_place (b ∷ text) = rw (same_byte b, same_place text) refl

pub lower_is : (text : List ℕ) → IsName text → IsName (str_to_ascii_lowercase text)
lower_is text h =
    let size : length (map to_ascii_lowercase text) ≡ length text = length-map text to_ascii_lowercase in
    record {
      some = rw size h.some;
      most = rw size h.most;
      printable = rw (size, same_place text) h.printable;
    }
