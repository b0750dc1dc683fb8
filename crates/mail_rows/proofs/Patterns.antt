-- Names against patterns: cells passed by a byte more, wildcards side by side, and names that are too short.
use Rattle.std.proofs.Common.{◌≡◌, ◌∷◌, ◌++◌, ◌+◌, ◌≤◌, ◌<◌, ◌==◌, ℕ, zero, suc, Bool, cond, true, false, not, refl, sym, subst, ◌||◌, ◌&&◌, ◌∙◌, ap, ap₂, List, [], length, filter, take, drop, map, get_or, set, eqb-true, true≢false, arith}
use Rattle.std.specs.List.{position_or_len}
use Rattle.std.proofs.lemmas.List.{length-append, length-drop}
use Rattle.std.specs.Cmp.Lexicographic.{bytes_decides}
use Rattle.verb_core.specs.Names.{inbox, is_empty, is_slash, is_wildcard}
use Rattle.verb_core.specs.Patterns.{Letter, begins, goes_on, is_inbox_or_below, is_letter, is_listed, letters_in, letters_of, matches, some_end, some_end_of_part}
use Rattle.mail_rows.specs.declared.pattern.Cell.{Cell}
use Rattle.mail_rows.specs.Patterns.{cell_of, tested, matches_at, handed, handed_all, passed, told_first}

-- ---- a byte more

module _ (p : ℕ) (f : List Letter → Bool) where
  -- what the letters hand on
  abbrev reach : List Letter → Bool
  reach ls = cond (p == 42) (some_end f ls) (cond (p == 37) (some_end_of_part f ls) (f ls))

  handed_is : (ls : List Letter) → handed_all p (f []) (tested f ls) ≡ reach ls
  handed_is [] = elim (p == 42) as (λ a. f [] ≡ cond a (f []) (cond (p == 37) (f []) (f []))) [
    | true ↦ refl
    | false ↦ elim (p == 37) as (λ b. f [] ≡ cond b (f []) (f [])) [ true ↦ refl | false ↦ refl ]
  ]
  handed_is (l ∷ ls) =
      ap (λ (later : Bool). handed p later (cell_of (f (l ∷ ls)) l)) (handed_is ls)
      ∙ elim (p == 42) as (λ a. cond a (f (l ∷ ls) || cond a (some_end f ls) (cond (p == 37) (some_end_of_part f ls) (f ls))) (cond (p == 37) (f (l ∷ ls) || (not (is_slash l.byte) && cond a (some_end f ls) (cond (p == 37) (some_end_of_part f ls) (f ls)))) (f (l ∷ ls))) ≡ cond a (some_end f (l ∷ ls)) (cond (p == 37) (some_end_of_part f (l ∷ ls)) (f (l ∷ ls)))) [
        | true ↦ refl
        | false ↦ elim (p == 37) as (λ b. cond b (f (l ∷ ls) || (not (is_slash l.byte) && cond b (some_end_of_part f ls) (f ls))) (f (l ∷ ls)) ≡ cond b (some_end_of_part f (l ∷ ls)) (f (l ∷ ls))) [ true ↦ refl | false ↦ refl ]
      ]

  cell_is : (l : Letter) (ls : List Letter) → matches_at p (handed_all p (f []) (tested f ls)) (cell_of (f (l ∷ ls)) l) ≡ goes_on p f (l ∷ ls)
  cell_is l ls =
      ap (λ (later : Bool). matches_at p later (cell_of (f (l ∷ ls)) l)) (handed_is ls)
      ∙ elim (p == 42) as (λ a. cond a (f (l ∷ ls) || cond a (some_end f ls) (cond (p == 37) (some_end_of_part f ls) (f ls))) (cond (p == 37) (f (l ∷ ls) || (not (is_slash l.byte) && cond a (some_end f ls) (cond (p == 37) (some_end_of_part f ls) (f ls)))) (is_letter p l && cond a (some_end f ls) (cond (p == 37) (some_end_of_part f ls) (f ls)))) ≡ (cond a (some_end f) (cond (p == 37) (some_end_of_part f) (begins p f))) (l ∷ ls)) [
        | true ↦ refl
        | false ↦ elim (p == 37) as (λ b. cond b (f (l ∷ ls) || (not (is_slash l.byte) && cond b (some_end_of_part f ls) (f ls))) (is_letter p l && cond b (some_end_of_part f ls) (f ls)) ≡ (cond b (some_end_of_part f) (begins p f)) (l ∷ ls)) [ true ↦ refl | false ↦ refl ]
      ]

  -- the cells of the pattern with the byte in front
  pub passed_is : (ls : List Letter) → passed p (f []) (tested f ls) ≡ tested (goes_on p f) ls
  passed_is [] = refl
  passed_is (l ∷ ls) = ap₂ (λ (m : Bool) (cs : List Cell). cell_of m l ∷ cs) (cell_is l ls) (passed_is ls)

  -- and where no letter is left
  pub end_is : (f [] && is_wildcard p) ≡ goes_on p f []
  end_is = elim (p == 42) as (λ a. (f [] && (a || p == 37)) ≡ (cond a (some_end f) (cond (p == 37) (some_end_of_part f) (begins p f))) []) [
    | true ↦ both (f [])
    | false ↦ elim (p == 37) as (λ b. (f [] && b) ≡ (cond b (some_end_of_part f) (begins p f)) []) [ true ↦ both (f []) | false ↦ none (f []) ]
  ]
    where
      both : (x : Bool) → (x && true) ≡ x
      both true = refl
      both false = refl

      none : (x : Bool) → (x && false) ≡ false
      none true = refl
      none false = refl

-- a name of which nothing is matched yet, against no pattern
pub nothing_is : (ls : List Letter) → map (cell_of false) ls ≡ tested is_empty ls
nothing_is [] = refl
nothing_is (l ∷ ls) = ap (λ (cs : List Cell). cell_of false l ∷ cs) (nothing_is ls)

-- the first cell tells of the whole name
pub first_is : (f : List Letter → Bool) (ls : List Letter) → told_first (f []) (tested f ls) ≡ f ls
first_is f [] = refl
first_is f (l ∷ ls) = refl

all_gone : (xs : List ℕ) → drop (length xs) xs ≡ []
all_gone [] = refl
all_gone (x ∷ xs) = all_gone xs

-- at first no byte of the pattern is looked at
pub first_cells : (pattern : List ℕ) (cells : List Cell) (letters : List Letter) → cells ≡ map (cell_of false) letters → cells ≡ tested (matches (drop (length pattern) pattern)) letters
first_cells pattern cells letters is = is ∙ nothing_is letters ∙ ap (λ (ps : List ℕ). tested (matches ps) letters) (sym (all_gone pattern))

pub first_end : (pattern : List ℕ) → true ≡ matches (drop (length pattern) pattern) []
first_end pattern = ap (λ (ps : List ℕ). matches ps []) (sym (all_gone pattern))

-- at last all of them are
pub whole : (pattern : List ℕ) (n : ℕ) (cells : List Cell) (at_end r : Bool) (letters : List Letter) → n ≡ 0 → cells ≡ tested (matches (drop n pattern)) letters → at_end ≡ matches (drop n pattern) [] → r ≡ told_first at_end cells → r ≡ matches pattern letters
whole pattern n cells at_end r letters none told ends is =
    is ∙ ap₂ told_first ends told ∙ first_is (matches (drop n pattern)) letters ∙ ap (λ (k : ℕ). matches (drop k pattern) letters) none

-- ---- wildcards side by side

-- what passes at an end of a part passes at an end
part_passes : (f : List Letter → Bool) (ls : List Letter) → some_end_of_part f ls ≡ true → some_end f ls ≡ true
part_passes f [] h = h
part_passes f (l ∷ ls) h = go (f (l ∷ ls)) (not (is_slash l.byte)) (some_end_of_part f ls) (some_end f ls) (part_passes f ls) h
  where
    go : (x n y z : Bool) → (y ≡ true → z ≡ true) → (x || (n && y)) ≡ true → (x || z) ≡ true
    go true n y z more e = refl
    go false true y z more e = more e
    go false false y z more e = cc

twice : (f : List Letter → Bool) (ls : List Letter) → some_end (some_end f) ls ≡ some_end f ls
twice f [] = refl
twice f (l ∷ ls) = ap (λ (t : Bool). (f (l ∷ ls) || some_end f ls) || t) (twice f ls) ∙ go (f (l ∷ ls)) (some_end f ls)
  where
    go : (x z : Bool) → ((x || z) || z) ≡ (x || z)
    go true z = refl
    go false true = refl
    go false false = refl

star_part : (f : List Letter → Bool) (ls : List Letter) → some_end (some_end_of_part f) ls ≡ some_end f ls
star_part f [] = refl
star_part f (l ∷ ls) = ap (λ (t : Bool). some_end_of_part f (l ∷ ls) || t) (star_part f ls) ∙ go (f (l ∷ ls)) (not (is_slash l.byte)) (some_end_of_part f ls) (some_end f ls) (part_passes f ls)
  where
    go : (x n y z : Bool) → (y ≡ true → z ≡ true) → ((x || (n && y)) || z) ≡ (x || z)
    go true n y z more = refl
    go false true true z more = sym (more refl)
    go false true false z more = refl
    go false false y z more = refl

part_star : (f : List Letter → Bool) (ls : List Letter) → some_end_of_part (some_end f) ls ≡ some_end f ls
part_star f [] = refl
part_star f (l ∷ ls) = ap (λ (t : Bool). some_end f (l ∷ ls) || (not (is_slash l.byte) && t)) (part_star f ls) ∙ go (f (l ∷ ls)) (not (is_slash l.byte)) (some_end f ls)
  where
    go : (x n z : Bool) → ((x || z) || (n && z)) ≡ (x || z)
    go true n z = refl
    go false n true = refl
    go false true false = refl
    go false false false = refl

part_part : (f : List Letter → Bool) (ls : List Letter) → some_end_of_part (some_end_of_part f) ls ≡ some_end_of_part f ls
part_part f [] = refl
part_part f (l ∷ ls) = ap (λ (t : Bool). some_end_of_part f (l ∷ ls) || (not (is_slash l.byte) && t)) (part_part f ls) ∙ go (f (l ∷ ls)) (not (is_slash l.byte)) (some_end_of_part f ls)
  where
    go : (x n y : Bool) → ((x || (n && y)) || (n && y)) ≡ (x || (n && y))
    go true n y = refl
    go false true true = refl
    go false true false = refl
    go false false y = refl

wild : (p : ℕ) → is_wildcard p ≡ true → (p == 42) ≡ false → p ≡ 37
wild p is other = eqb-true p 37 (go (p == 42) (p == 37) is other)
  where
    go : (a b : Bool) → (a || b) ≡ true → a ≡ false → b ≡ true
    go true b h e = absurd (true≢false e)
    go false b h e = h

first_wild : (p : ℕ) (q : ℕ) (rest : List ℕ) → is_wildcard p ≡ true → matches (42 ∷ rest) ≡ matches (p ∷ 42 ∷ rest)
first_wild p q rest is = elim (p == 42) as (λ a. (p == 42) ≡ a → matches (42 ∷ rest) ≡ matches (p ∷ 42 ∷ rest)) [
  | true ↦ λ e. subst (λ (x : ℕ). matches (42 ∷ rest) ≡ matches (x ∷ 42 ∷ rest)) (sym (eqb-true p 42 e)) (λ j ls. sym (twice (matches rest) ls) j)
  | false ↦ λ e. subst (λ (x : ℕ). matches (42 ∷ rest) ≡ matches (x ∷ 42 ∷ rest)) (sym (wild p is e)) (λ j ls. sym (part_star (matches rest) ls) j)
] refl

second_part : (p : ℕ) (rest : List ℕ) → is_wildcard p ≡ true → matches (p ∷ rest) ≡ matches (p ∷ 37 ∷ rest)
second_part p rest is = elim (p == 42) as (λ a. (p == 42) ≡ a → matches (p ∷ rest) ≡ matches (p ∷ 37 ∷ rest)) [
  | true ↦ λ e. subst (λ (x : ℕ). matches (x ∷ rest) ≡ matches (x ∷ 37 ∷ rest)) (sym (eqb-true p 42 e)) (λ j ls. sym (star_part (matches rest) ls) j)
  | false ↦ λ e. subst (λ (x : ℕ). matches (x ∷ rest) ≡ matches (x ∷ 37 ∷ rest)) (sym (wild p is e)) (λ j ls. sym (part_part (matches rest) ls) j)
] refl

-- two of them match as one does
one_for_two : (p q : ℕ) (rest : List ℕ) → is_wildcard p ≡ true → is_wildcard q ≡ true → matches (cond (q == 42) 42 p ∷ rest) ≡ matches (p ∷ q ∷ rest)
one_for_two p q rest first second = elim (q == 42) as (λ a. (q == 42) ≡ a → matches (cond a 42 p ∷ rest) ≡ matches (p ∷ q ∷ rest)) [
  | true ↦ λ e. subst (λ (x : ℕ). matches (42 ∷ rest) ≡ matches (p ∷ x ∷ rest)) (sym (eqb-true q 42 e)) (first_wild p q rest first)
  | false ↦ λ e. subst (λ (x : ℕ). matches (p ∷ rest) ≡ matches (p ∷ x ∷ rest)) (sym (wild q second e)) (second_part p rest first)
] refl

-- what stands in front takes no notice of how what is behind is spelled
behind : (xs ys zs : List ℕ) → matches ys ≡ matches zs → matches (xs ++ ys) ≡ matches (xs ++ zs)
behind [] ys zs h = h
behind (x ∷ xs) ys zs h = ap (goes_on x) (behind xs ys zs h)

pub two_in_one : (front : List ℕ) (p q : ℕ) → is_wildcard p ≡ true → is_wildcard q ≡ true → (rest : List ℕ) → matches (front ++ cond (q == 42) 42 p ∷ rest) ≡ matches (front ++ p ∷ q ∷ rest)
two_in_one front p q first second rest = behind front (cond (q == 42) 42 p ∷ rest) (p ∷ q ∷ rest) (one_for_two p q rest first second)

-- ---- names that are too short

-- what passes has so many letters at least
abbrev Needs : ℕ → (List Letter → Bool) → Type 0
Needs n f = (ls : List Letter) → f ls ≡ true → n ≤ length ls

star_needs : (n : ℕ) (f : List Letter → Bool) → Needs n f → Needs n (some_end f)
star_needs n f needs [] h = needs [] h
star_needs n f needs (l ∷ ls) h = go (f (l ∷ ls)) (some_end f ls) refl (star_needs n f needs ls) h
  where
    go : (x z : Bool) → f (l ∷ ls) ≡ x → (z ≡ true → n ≤ length ls) → (x || z) ≡ true → n ≤ suc (length ls)
    go true z here later e = needs (l ∷ ls) here
    go false z here later e = let rest : n ≤ length ls = later e in omega (arith, rest)

part_needs : (n : ℕ) (f : List Letter → Bool) → Needs n f → Needs n (some_end_of_part f)
part_needs n f needs ls h = star_needs n f needs ls (part_passes f ls h)

letter_needs : (n p : ℕ) (f : List Letter → Bool) → Needs n f → Needs (suc n) (begins p f)
letter_needs n p f needs [] h = absurd (true≢false (sym h))
letter_needs n p f needs (l ∷ ls) h = let rest : n ≤ length ls = needs ls (go (is_letter p l) (f ls) h) in omega (arith, rest)
  where
    go : (x y : Bool) → (x && y) ≡ true → y ≡ true
    go true y e = e
    go false y e = absurd (true≢false (sym e))

abbrev count : List ℕ → ℕ
count ps = length (filter (λ byte. not (is_wildcard byte)) ps)

needs : (ps : List ℕ) → Needs (count ps) (matches ps)
needs [] = λ ls h. omega arith
needs (p ∷ ps) = elim (p == 42) as (λ a. Needs (length (cond (not (a || p == 37)) (p ∷ filter (λ byte. not (is_wildcard byte)) ps) (filter (λ byte. not (is_wildcard byte)) ps))) (cond a (some_end (matches ps)) (cond (p == 37) (some_end_of_part (matches ps)) (begins p (matches ps))))) [
  | true ↦ star_needs (count ps) (matches ps) (needs ps)
  | false ↦ elim (p == 37) as (λ b. Needs (length (cond (not b) (p ∷ filter (λ byte. not (is_wildcard byte)) ps) (filter (λ byte. not (is_wildcard byte)) ps))) (cond b (some_end_of_part (matches ps)) (begins p (matches ps)))) [
    | true ↦ part_needs (count ps) (matches ps) (needs ps)
    | false ↦ letter_needs (count ps) p (matches ps) (needs ps)
  ]
]

length_in : (any_case : Bool) (bytes : List ℕ) → length (letters_in any_case bytes) ≡ length bytes
length_in any_case [] = refl
length_in any_case (b ∷ bs) = ap suc (length_in any_case bs)

length_drop : (n : ℕ) (xs : List ℕ) → n ≤ length xs → n + length (drop n xs) ≡ length xs
length_drop n xs le = let e = length-drop n xs in omega (arith, e, le)

no_longer : (k : ℕ) (xs : List ℕ) → length (take k xs) ≤ length xs
no_longer zero xs = omega arith
no_longer (suc k) [] = omega arith
no_longer (suc k) (x ∷ xs) = let rest : length (take k xs) ≤ length xs = no_longer k xs in omega (arith, rest)

length_letters : (name : List ℕ) → length (letters_of name) ≡ length name
length_letters name = elim (is_inbox_or_below name) as (λ b. is_inbox_or_below name ≡ b → length (cond b (letters_in true inbox ++ letters_in false (drop (length inbox) name)) (letters_in false name)) ≡ length name) [
  | true ↦ λ e.
      let front : take (position_or_len is_slash name) name ≡ inbox = (bytes_decides (take (position_or_len is_slash name) name) inbox).0 e in
      let within : length inbox ≤ length name = subst (λ (xs : List ℕ). length xs ≤ length name) front (no_longer (position_or_len is_slash name) name) in
      length-append (letters_in true inbox) (letters_in false (drop (length inbox) name))
      ∙ ap₂ (λ (a b : ℕ). a + b) (length_in true inbox) (length_in false (drop (length inbox) name))
      ∙ length_drop (length inbox) name within
  | false ↦ λ e. length_in false name
] refl

-- a name with fewer bytes than the pattern has letters is not given
pub too_short : (pattern name : List ℕ) (n : ℕ) → n ≡ length (filter (λ byte. not (is_wildcard byte)) pattern) → length name < n → false ≡ is_listed pattern name
too_short pattern name n is short = go (matches pattern (letters_of name)) refl
  where
    go : (b : Bool) → matches pattern (letters_of name) ≡ b → false ≡ b
    go false e = refl
    go true e = let enough : length (filter (λ byte. not (is_wildcard byte)) pattern) ≤ length (letters_of name) = needs pattern (letters_of name) e in absurd (omega (arith, enough, is, short, length_letters name))

-- ---- places

-- a place in front of others that were made anew
pub at_front : (n : ℕ) (all ys : List Cell) (new d : Cell) → n < length all → record {
  read : get_or (take (suc n) all ++ ys) n d ≡ get_or all n d;
  written : set (take (suc n) all ++ ys) n new ≡ take n all ++ new ∷ ys;
}
at_front n [] ys new d lt = absurd (omega (arith, lt))
at_front zero (c ∷ all) ys new d lt = record { read = refl; written = refl }
at_front (suc n) (c ∷ all) ys new d lt =
    let rest = at_front n all ys new d (omega (arith, lt)) in
    record { read = rest.read; written = ap (λ (cs : List Cell). c ∷ cs) rest.written }

pub from_place : {X : Type 0} (n : ℕ) (all : List X) (d : X) → n < length all → drop n all ≡ get_or all n d ∷ drop (suc n) all
from_place n [] d lt = absurd (omega (arith, lt))
from_place zero (c ∷ all) d lt = refl
from_place (suc n) (c ∷ all) d lt = from_place n all d (omega (arith, lt))

module _ (p : ℕ) (e : Bool) (all now : List Cell) (m n : ℕ) (one : m ≡ suc n) (d : Cell) (later : Bool) (within : m ≤ length all) (told : now ≡ take m all ++ passed p e (drop m all)) (hands : later ≡ handed_all p e (drop m all)) where
  lt : n < length all
  lt = omega (arith, one, within)

  is : now ≡ take (suc n) all ++ passed p e (drop (suc n) all)
  is = subst (λ (k : ℕ). now ≡ take k all ++ passed p e (drop k all)) one told

  on : later ≡ handed_all p e (drop (suc n) all)
  on = hands ∙ ap (λ (k : ℕ). handed_all p e (drop k all)) one

  here : get_or now n d ≡ get_or all n d
  here = ap (λ (cs : List Cell). get_or cs n d) is ∙ (at_front n all (passed p e (drop (suc n) all)) d d lt).read

  -- one place more is passed
  pub passed_more : (new : Cell) → new ≡ record (get_or now n d) { matched = matches_at p later (get_or now n d) } → set now n new ≡ take n all ++ passed p e (drop n all)
  passed_more new made =
      ap (λ (cs : List Cell). set cs n new) is
      ∙ (at_front n all (passed p e (drop (suc n) all)) new d lt).written
      ∙ ap (λ (c : Cell). take n all ++ c ∷ passed p e (drop (suc n) all)) (made ∙ ap₂ (λ (l : Bool) (c : Cell). record c { matched = matches_at p l c }) on here)
      ∙ ap (λ (cs : List Cell). take n all ++ passed p e cs) (sym (from_place n all d lt))

  pub handed_more : (b : Bool) → b ≡ handed p later (get_or now n d) → b ≡ handed_all p e (drop n all)
  handed_more b made = made ∙ ap₂ (λ (l : Bool) (c : Cell). handed p l c) on here ∙ ap (handed_all p e) (sym (from_place n all d lt))

-- a byte more of the pattern
module _ (pattern : List ℕ) (m n p : ℕ) (one : m ≡ suc n) (within : m ≤ length pattern) (is : p ≡ get_or pattern n 0) where
  byte_more : goes_on p (matches (drop m pattern)) ≡ matches (drop n pattern)
  byte_more =
      ap₂ (λ (q k : ℕ). goes_on q (matches (drop k pattern))) is one
      ∙ ap matches (sym (from_place n pattern 0 (omega (arith, one, within))))

  pub cells_more : (cells new : List Cell) (at_end : Bool) (letters : List Letter) → cells ≡ tested (matches (drop m pattern)) letters → at_end ≡ matches (drop m pattern) [] → new ≡ passed p at_end cells → new ≡ tested (matches (drop n pattern)) letters
  cells_more cells new at_end letters told ends made =
      made ∙ ap₂ (λ (b : Bool) (cs : List Cell). passed p b cs) ends told ∙ passed_is p (matches (drop m pattern)) letters ∙ ap (λ (f : List Letter → Bool). tested f letters) byte_more

  pub end_more : (at_end wild : Bool) → at_end ≡ matches (drop m pattern) [] → wild ≡ is_wildcard p → (at_end && wild) ≡ matches (drop n pattern) []
  end_more at_end wild ends it = ap₂ (λ (a b : Bool). a && b) ends it ∙ end_is p (matches (drop m pattern)) ∙ ap (λ (f : List Letter → Bool). f []) byte_more
