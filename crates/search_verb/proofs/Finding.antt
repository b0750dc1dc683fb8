-- Where a string can begin.
use Rattle.std.proofs.Common.{◌≡◌, ℕ, zero, suc, ◌<◌, ◌≤◌, ◌==◌, ◌&&◌, ◌||◌, Bool, true, false, List, [], ◌∷◌, length, drop, get_or, slice_index, Option, Some, None, subst, refl, ap, sym, ◌∙◌, arith}
use Rattle.std.specs.Char.{to_ascii_lowercase, to_ascii_uppercase}
use Rattle.std.proofs.lemmas.List.{length-drop}
use Rattle.std.proofs.Math.Seq.{drop-length}
use Rattle.memchr.specs.Find.{Nowhere, Passes, IsFirstByte, is_byte2}
use Rattle.search_verb.specs.Occurs.{begins_with, occurs_in}

-- a string of no bytes
pub occurs_none : (bytes : List ℕ) → occurs_in [] bytes ≡ true
occurs_none [] = refl
occurs_none (b ∷ bytes) = refl

-- what is shorter does not begin with it
pub begins_short : (string bytes : List ℕ) → length bytes < length string → begins_with string bytes ≡ false
begins_short [] bytes e = absurd (omega arith)
begins_short (s ∷ string) [] e = refl
begins_short (s ∷ string) (b ∷ bytes) e = rw (begins_short string bytes (omega arith)) (none (to_ascii_lowercase b == to_ascii_lowercase s))
  where
    none : (t : Bool) → (t && false) ≡ false
    none true = refl
    none false = refl

-- ignoring case, a letter is itself or its other case
same_letter : (s b : ℕ) → (to_ascii_lowercase b == to_ascii_lowercase s) ≡ true → (b == to_ascii_lowercase s || b == to_ascii_uppercase s) ≡ true
same_letter s b e = grind (arith)

differs : (s b : ℕ) → ((b == to_ascii_lowercase s || b == to_ascii_uppercase s) ≡ true → ⊥) → (t : Bool) → (to_ascii_lowercase b == to_ascii_lowercase s) ≡ t → t ≡ false
differs s b not true e = absurd (not (same_letter s b e))
differs s b not false e = refl

not_here : (s b : ℕ) (string bytes : List ℕ) → ((b == to_ascii_lowercase s || b == to_ascii_uppercase s) ≡ true → ⊥) → occurs_in (s ∷ string) (b ∷ bytes) ≡ occurs_in (s ∷ string) bytes
not_here s b string bytes not = rw (differs s b not (to_ascii_lowercase b == to_ascii_lowercase s) refl) refl

-- no byte before a place can begin the string
pub passed_to : (s : ℕ) (string bytes : List ℕ) (place : ℕ) → place ≤ length bytes
    → ((k : ℕ) → k < place → (get_or bytes k 0 == to_ascii_lowercase s || get_or bytes k 0 == to_ascii_uppercase s) ≡ true → ⊥)
    → occurs_in (s ∷ string) bytes ≡ occurs_in (s ∷ string) (drop place bytes)
passed_to s string bytes zero within none = refl
passed_to s string [] (suc place) within none = absurd (omega arith)
passed_to s string (b ∷ bytes) (suc place) within none =
    not_here s b string bytes (none 0 (omega arith)) ∙ passed_to s string bytes place (omega arith) (λ k lt. none (suc k) (omega arith))

-- ---- the places of a first byte, in either case

-- no byte before the place is the first byte of the string
pub passed : (first low high : ℕ) (string bytes : List ℕ) (place : ℕ) → 0 < length string → slice_index string 0 ≡ first → low ≡ to_ascii_lowercase first → high ≡ to_ascii_uppercase first
    → place ≤ length bytes → Nowhere (Passes (is_byte2 low high) bytes) 0 place → occurs_in string bytes ≡ occurs_in string (drop place bytes)
passed first low high [] bytes place some is l h within none = absurd (omega arith)
passed first low high (s ∷ string) bytes place some is l h within none =
    passed_to s string bytes place within
    (λ k lt here. none k (omega arith) lt (ap (λ x. is_byte2 x high (slice_index bytes k)) (l ∙ ap to_ascii_lowercase (sym is))
    ∙ ap (λ x. is_byte2 (to_ascii_lowercase s) x (slice_index bytes k)) (h ∙ ap to_ascii_uppercase (sym is)) ∙ here))

-- the next place of that byte
pub jumped : (first low high : ℕ) (string bytes : List ℕ) (r : Option ℕ) (place : ℕ) → 0 < length string → slice_index string 0 ≡ first → low ≡ to_ascii_lowercase first → high ≡ to_ascii_uppercase first
    → IsFirstByte (is_byte2 low high) bytes r → r ≡ Some place → occurs_in string bytes ≡ occurs_in string (drop place bytes)
jumped first low high string bytes r place some is l h found e =
    let at = subst (λ x. IsFirstByte (is_byte2 low high) bytes x) e found in
    passed first low high string bytes place some is l h (omega (arith, at.0.high)) at.0.before

nothing_in : (string : List ℕ) → 0 < length string → occurs_in string [] ≡ false
nothing_in [] some = absurd (omega arith)
nothing_in (s ∷ string) some = refl

-- that byte does not come again
pub none_left : (first low high : ℕ) (string bytes : List ℕ) (r : Option ℕ) → 0 < length string → slice_index string 0 ≡ first → low ≡ to_ascii_lowercase first → high ≡ to_ascii_uppercase first
    → IsFirstByte (is_byte2 low high) bytes r → r ≡ None → occurs_in string bytes ≡ false
none_left first low high string bytes r some is l h found e =
    let none = subst (λ x. IsFirstByte (is_byte2 low high) bytes x) e found in
    passed first low high string bytes (length bytes) some is l h (omega arith) none ∙ ap (occurs_in string) (drop-length bytes) ∙ nothing_in string some

-- the string stands here
pub found_here : (string bytes : List ℕ) → begins_with string bytes ≡ true → occurs_in string bytes ≡ true
found_here string [] e = e
found_here string (b ∷ bytes) e = rw e refl

-- it doesn't
pub one_behind : (string bytes : List ℕ) → 0 < length bytes → begins_with string bytes ≡ false → occurs_in string bytes ≡ occurs_in string (drop 1 bytes)
one_behind string [] some e = absurd (omega arith)
one_behind string (b ∷ bytes) some e = rw e refl

pub occurs_empty : (string bytes : List ℕ) → length string < 1 → occurs_in string bytes ≡ true
occurs_empty [] bytes e = occurs_none bytes
occurs_empty (s ∷ string) bytes e = absurd (omega arith)

-- the place is one of the bytes
pub some_from : (test : ℕ → Bool) (bytes : List ℕ) (r : Option ℕ) (place : ℕ) → IsFirstByte test bytes r → r ≡ Some place → 0 < length (drop place bytes)
some_from test bytes r place found e =
    let at = subst (λ x. IsFirstByte test bytes x) e found in
    simp length-drop (omega (arith, at.0.high))
