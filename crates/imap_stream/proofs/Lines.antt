-- The first CRLF of bytes.
use Rattle.std.proofs.Common.{◌≡◌, ℕ, ◌+◌, ◌-◌, ◌<◌, ◌≤◌, Bool, true, false, cond, ◌==◌, ◌&&◌, List, [], ◌∷◌, ◌++◌, length, take, drop, Option, None, Some, option_map, refl, ap, sym, ◌∙◌, arith, zero, suc, subst, get_or}
use Rattle.std.proofs.lemmas.Bool.Decides.{Decides-eqb}
use Rattle.imap_stream.specs.Commands.{is_end, end_of, last_byte}

pub and_true : (a b : Bool) → (a && b) ≡ true → (a ≡ true) × (b ≡ true)
and_true true b e = (refl, e)
and_true false b e = absurd (let wrong : false ≡ true = e in cc)

cond_false : (t : Bool) (x y : Option ℕ) → t ≡ false → cond t x y ≡ y
cond_false true x y e = absurd (let wrong : true ≡ false = e in cc)
cond_false false x y e = refl

cond_true : (t : Bool) (x y : Option ℕ) → t ≡ true → cond t x y ≡ x
cond_true true x y e = refl
cond_true false x y e = absurd (let wrong : false ≡ true = e in cc)

-- no CRLF comes first, and none later
none_parts : (t : Bool) (o : Option ℕ) → cond t (Some 0) (option_map (λ n. n + 1) o) ≡ None → (t ≡ false) × (o ≡ None)
none_parts true o e = absurd (let wrong : Some 0 ≡ None = e in cc)
none_parts false None e = (refl, refl)
none_parts false (Some n) e = absurd (let wrong : Some (n + 1) ≡ None = e in cc)

-- bytes that begin so have no CRLF at the front
pub end_of-first : (b c : ℕ) (s : List ℕ) → end_of (b ∷ c ∷ s) ≡ None → (is_end b c ≡ false) × (end_of (c ∷ s) ≡ None)
end_of-first b c s e = none_parts (is_end b c) (end_of (c ∷ s)) e

-- a front of bytes without CRLF has none
pub end_of-front : (p q : List ℕ) → end_of (p ++ q) ≡ None → end_of p ≡ None
end_of-front [] q e = refl
end_of-front (b ∷ []) q e = refl
end_of-front (b ∷ c ∷ p) q e =
    let parts = end_of-first b c (p ++ q) e in
    cond_false (is_end b c) (Some 0) (option_map (λ n. n + 1) (end_of (c ∷ p))) parts.0 ∙ ap (option_map (λ n. n + 1)) (end_of-front (c ∷ p) q parts.1)

-- one byte alone has no CRLF
pub end_of-one : (s : List ℕ) → end_of (take 1 s) ≡ None
end_of-one [] = refl
end_of-one (b ∷ s) = refl

-- the last of some bytes and one more
pub last_byte-push : (s : List ℕ) (b : ℕ) → last_byte (s ++ b ∷ []) ≡ b ∷ []
last_byte-push [] b = refl
last_byte-push (c ∷ []) b = refl
last_byte-push (c ∷ d ∷ s) b = last_byte-push (d ∷ s) b

-- the last byte of a list that is not empty is that of what it ends with
pub last_byte-append : (p : List ℕ) (b : ℕ) (s : List ℕ) → last_byte (p ++ b ∷ s) ≡ last_byte (b ∷ s)
last_byte-append [] b s = refl
last_byte-append (c ∷ []) b s = refl
last_byte-append (c ∷ d ∷ p) b s = last_byte-append (d ∷ p) b s

pub last_byte-twice : (s : List ℕ) → last_byte (last_byte s) ≡ last_byte s
last_byte-twice [] = refl
last_byte-twice (b ∷ []) = refl
last_byte-twice (b ∷ c ∷ s) = last_byte-twice (c ∷ s)

pub end_of-last : (s : List ℕ) → end_of (last_byte s) ≡ None
end_of-last [] = refl
end_of-last (b ∷ []) = refl
end_of-last (b ∷ c ∷ s) = end_of-last (c ∷ s)

pub last_byte-drop : (s : List ℕ) → 0 < length s → drop (length s - 1) s ≡ last_byte s
last_byte-drop [] some = absurd (omega arith)
last_byte-drop (b ∷ []) some = refl
last_byte-drop (b ∷ c ∷ s) some =
    let size : length (b ∷ c ∷ s) - 1 ≡ suc (length (c ∷ s) - 1) = omega arith in
    rw size (last_byte-drop (c ∷ s) (omega arith))

-- a line and its CRLF
pub record LineAndEnd (s line rest : List ℕ) : Type 0 where
  pub whole : s ≡ line ++ 13 ∷ 10 ∷ rest
  pub open_line : end_of (line ++ 13 ∷ []) ≡ None

-- the line that stands before CRLF
some_parts : (t : Bool) (o : Option ℕ) (n : ℕ) → cond t (Some 0) (option_map (λ n. n + 1) o) ≡ Some n
    → (Zero : Type 0) → (t ≡ true → n ≡ 0 → Zero) → ((m : ℕ) → t ≡ false → o ≡ Some m → n ≡ m + 1 → Zero) → Zero
some_parts true o n e Z first more = first refl (let f : Some 0 ≡ Some n = e in cc)
some_parts false None n e Z first more = absurd (let f : None ≡ Some n = e in cc)
some_parts false (Some m) n e Z first more = more m refl refl (let f : Some (m + 1) ≡ Some n = e in cc)

one_before : (b c : ℕ) (s line rest : List ℕ) → is_end b c ≡ false → LineAndEnd (c ∷ s) line rest → LineAndEnd (b ∷ c ∷ s) (b ∷ line) rest
one_before b c s [] rest apart ends =
    let same : c ∷ s ≡ 13 ∷ 10 ∷ rest = ends.whole in
    let first : c ≡ 13 = cc in
    let apart2 : is_end b 13 ≡ false = subst (λ n. is_end b n ≡ false) first apart in
    record { whole = ap (λ l. b ∷ l) ends.whole; open_line = ap (λ t. cond t (Some 0) None) apart2 }
one_before b c s (d ∷ line) rest apart ends =
    let same : c ∷ s ≡ d ∷ line ++ 13 ∷ 10 ∷ rest = ends.whole in
    let first : c ≡ d = cc in
    let apart2 : is_end b d ≡ false = subst (λ n. is_end b n ≡ false) first apart in
    record { whole = ap (λ l. b ∷ l) ends.whole; open_line = cond_false (is_end b d) (Some 0) (option_map (λ n. n + 1) (end_of (d ∷ line ++ 13 ∷ []))) apart2 ∙ ap (option_map (λ n. n + 1)) ends.open_line }

-- what stands before the first CRLF, and behind it
pub record EndsHere (s : List ℕ) (n : ℕ) : Type 0 where
  pub parts : LineAndEnd s (take n s) (drop (n + 2) s)
  pub size : length (take n s) ≡ n

ends_first : (b c : ℕ) (s : List ℕ) (n : ℕ) → is_end b c ≡ true → n ≡ 0 → EndsHere (b ∷ c ∷ s) n
ends_first b c s n t z =
    let both = and_true (b == 13) (c == 10) t in
    let eb : b ≡ 13 = (Decides-eqb b 13).0 both.0 in
    let ec : c ≡ 10 = (Decides-eqb c 10).0 both.1 in
    subst (EndsHere (b ∷ c ∷ s)) (sym z) (record { parts = record { whole = ap (λ k. k ∷ c ∷ s) eb ∙ ap (λ k. 13 ∷ k ∷ s) ec; open_line = refl }; size = refl })

ends_later : (b c : ℕ) (s : List ℕ) (n m : ℕ) → is_end b c ≡ false → n ≡ m + 1 → EndsHere (c ∷ s) m → EndsHere (b ∷ c ∷ s) n
ends_later b c s n m apart e more =
    let one : n ≡ suc m = omega arith in
    let two : suc m + 2 ≡ suc (m + 2) = omega arith in
    let front = one_before b c s (take m (c ∷ s)) (drop (m + 2) (c ∷ s)) apart more.parts in
    subst (EndsHere (b ∷ c ∷ s)) (sym one) (record {
      parts = subst (λ k. LineAndEnd (b ∷ c ∷ s) (b ∷ take m (c ∷ s)) (drop k (b ∷ c ∷ s))) (sym two) front;
      size = ap suc more.size;
    })

pub ends : (s : List ℕ) (n : ℕ) → end_of s ≡ Some n → EndsHere s n
ends [] n e = absurd (let f : None ≡ Some n = e in cc)
ends (b ∷ []) n e = absurd (let f : None ≡ Some n = e in cc)
ends (b ∷ c ∷ s) n e =
    some_parts (is_end b c) (end_of (c ∷ s)) n e (EndsHere (b ∷ c ∷ s) n) (ends_first b c s n) (λ m apart found size. ends_later b c s n m apart size (ends (c ∷ s) m found))

-- where the CRLF of a line stands
pub end_of-ended : (line rest : List ℕ) → end_of (line ++ 13 ∷ []) ≡ None → end_of (line ++ 13 ∷ 10 ∷ rest) ≡ Some (length line)
end_of-ended [] rest e = refl
end_of-ended (b ∷ []) rest e =
    let parts = end_of-first b 13 [] e in
    cond_false (is_end b 13) (Some 0) (Some 1) parts.0
end_of-ended (b ∷ c ∷ line) rest e =
    let parts = end_of-first b c (line ++ 13 ∷ []) e in
    let size : length (c ∷ line) + 1 ≡ length (b ∷ c ∷ line) = omega arith in
    cond_false (is_end b c) (Some 0) (option_map (λ n. n + 1) (end_of (c ∷ line ++ 13 ∷ 10 ∷ rest))) parts.0
    ∙ ap (option_map (λ n. n + 1)) (end_of-ended (c ∷ line) rest parts.1) ∙ ap Some size

-- places from which one counts
plus_none : (j : ℕ) (o : Option ℕ) → option_map (λ n. n + 1) (option_map (λ n. j + n) o) ≡ option_map (λ n. suc j + n) o
plus_none j None = refl
plus_none j (Some n) = ap Some (let e : j + n + 1 ≡ suc j + n = omega arith in e)

from_first : (o : Option ℕ) → o ≡ option_map (λ n. 0 + n) o
from_first None = refl
from_first (Some n) = ap Some (let e : n ≡ 0 + n = omega arith in e)

-- what is known of places that were searched before
pub end_of-after : (j : ℕ) (s : List ℕ) → j ≤ length s → end_of (take (j + 1) s) ≡ None → end_of s ≡ option_map (λ n. j + n) (end_of (drop j s))
end_of-after zero s within e = from_first (end_of s)
end_of-after (suc j) [] within e = absurd (omega arith)
end_of-after (suc j) (b ∷ []) within e = let none : j ≡ 0 = omega arith in rw none refl
end_of-after (suc j) (b ∷ c ∷ s) within e =
    let size : suc j + 1 ≡ suc (suc j) = omega arith in
    let front : end_of (b ∷ c ∷ take j s) ≡ None = subst (λ k. end_of (take k (b ∷ c ∷ s)) ≡ None) size e in
    let parts = end_of-first b c (take j s) front in
    let size2 : suc j ≡ j + 1 = omega arith in
    let open_line : end_of (take (j + 1) (c ∷ s)) ≡ None = subst (λ k. end_of (take k (c ∷ s)) ≡ None) size2 parts.1 in
    let more = end_of-after j (c ∷ s) (omega arith) open_line in
    cond_false (is_end b c) (Some 0) (option_map (λ n. n + 1) (end_of (c ∷ s))) parts.0 ∙ ap (option_map (λ n. n + 1)) more ∙ plus_none j (end_of (drop j (c ∷ s)))

pub plus_next : (passed : ℕ) (o : Option ℕ) → option_map (λ n. passed + n) (option_map (λ n. n + 1) o) ≡ option_map (λ n. (passed + 1) + n) o
plus_next passed None = refl
plus_next passed (Some n) = ap Some (let e : passed + (n + 1) ≡ (passed + 1) + n = omega arith in e)

-- the next two bytes are the end of a line, or they are not, or there are none
pub end_of-here : (s : List ℕ) → 2 ≤ length s → is_end (get_or s 0 0) (get_or s 1 0) ≡ true → end_of s ≡ Some 0
end_of-here [] two e = absurd (omega arith)
end_of-here (b ∷ []) two e = absurd (omega arith)
end_of-here (b ∷ c ∷ s) two e = cond_true (is_end b c) (Some 0) (option_map (λ n. n + 1) (end_of (c ∷ s))) e

pub end_of-next : (s : List ℕ) → 2 ≤ length s → is_end (get_or s 0 0) (get_or s 1 0) ≡ false → end_of s ≡ option_map (λ n. n + 1) (end_of (drop 1 s))
end_of-next [] two e = absurd (omega arith)
end_of-next (b ∷ []) two e = absurd (omega arith)
end_of-next (b ∷ c ∷ s) two e = cond_false (is_end b c) (Some 0) (option_map (λ n. n + 1) (end_of (c ∷ s))) e

pub end_of-short : (s : List ℕ) → length s < 2 → end_of s ≡ None
end_of-short [] short = refl
end_of-short (b ∷ []) short = refl
end_of-short (b ∷ c ∷ s) short = absurd (omega arith)
