-- Names without `/`: they have no superiors, and patterns match them as they did before names had a hierarchy.
use Rattle.std.proofs.Common.{◌≡◌, ℕ, ◌+◌, ◌≤◌, ◌-◌, Bool, true, false, not, ◌&&◌, ◌||◌, ◌==◌, cond, List, [], ◌∷◌, ◌++◌, map, take, drop, length, refl, sym, ap, ap₂, ◌∙◌, subst, arith, true≢false, bytes_eq, nat_lt, eqb-true, eq-eqb, ne_eqb, ltb-false, map-id, one-add}
use Rattle.std.specs.List.{list_any, before_first, position_or_len}
use Rattle.std.specs.Char.{to_ascii_uppercase}
use Rattle.std.specs.Str.{str_to_ascii_uppercase}
use Rattle.std.specs.Cmp.{both_ways}
use Rattle.std.specs.Cmp.Lexicographic.{bytes_decides}
use Rattle.verb_core.specs.Names.{inbox, is_slash, before_slashes, superiors, is_inferior}
use Rattle.verb_core.specs.Patterns.{Letter, letters_in, some_end, some_end_of_part, begins, matches, is_listed}
use Rattle.verb_core.specs.Flat.{is_flat_name, some_end_flat, begins_flat, matches_flat, is_listed_flat}

-- ---- their bytes

flat_head : (b : ℕ) (bs : List ℕ) → is_flat_name (b ∷ bs) ≡ true → is_slash b ≡ false
flat_head b bs h = go (is_slash b) (list_any is_slash bs) h
  where
    go : (x y : Bool) → not (x || y) ≡ true → x ≡ false
    go true y h = absurd (true≢false (sym h))
    go false y h = refl

flat_tail : (b : ℕ) (bs : List ℕ) → is_flat_name (b ∷ bs) ≡ true → is_flat_name bs ≡ true
flat_tail b bs h = go (is_slash b) (list_any is_slash bs) h
  where
    go : (x y : Bool) → not (x || y) ≡ true → not y ≡ true
    go true y h = absurd (true≢false (sym h))
    go false y h = h

-- ---- no superiors

no_fronts : (n : List ℕ) → is_flat_name n ≡ true → before_slashes n ≡ []
no_fronts [] h = refl
no_fronts (b ∷ bs) h = ap₂ (λ (x : Bool) (fronts : List (List ℕ)). (cond x ([] ∷ []) []) ++ map (λ front. b ∷ front) fronts) (flat_head b bs h) (no_fronts bs (flat_tail b bs h))

pub no_superiors : (n : List ℕ) → is_flat_name n ≡ true → superiors n ≡ []
no_superiors n h = rw (no_fronts n h)

pub never_inferior : (s n : List ℕ) → is_flat_name n ≡ true → is_inferior s n ≡ false
never_inferior s n h = ap (list_any (bytes_eq s)) (no_superiors n h)

-- ---- patterns

turned : (m n : ℕ) → (m == n) ≡ (n == m)
turned m n = both_ways _ _ (λ h. eq-eqb n m (sym (eqb-true m n h))) (λ h. eq-eqb m n (sym (eqb-true n m h)))

-- a capital is no wildcard, so a wildcard has none
upper_same : (p w : ℕ) → w ≤ 64 → (to_ascii_uppercase p == w) ≡ (p == w)
upper_same p w small =
    elim (nat_lt p 97) as (λ b. nat_lt p 97 ≡ b → (cond b p (cond (nat_lt p 123) (p - 32) p) == w) ≡ (p == w)) [
      | true ↦ λ e. refl
      | false ↦ λ e.
          let high : 97 ≤ p = ltb-false p 97 e in
          let plain : (p == w) ≡ false = ne_eqb p w (λ is. omega arith) in
          elim (nat_lt p 123) as (λ b. (cond b (p - 32) p == w) ≡ (p == w)) [
            | true ↦ ne_eqb (p - 32) w (λ is. omega arith) ∙ sym plain
            | false ↦ refl
          ]
    ] refl

picked : {X Y : Type 0} (x y : Bool) (a b c : X → Bool) (d e : Y → Bool) (l : X) (n : Y) → a l ≡ d n → b l ≡ d n → c l ≡ e n → cond x a (cond y b c) l ≡ cond (x || y) d e n
picked true y a b c d e l n one two three = one
picked false true a b c d e l n one two three = two
picked false false a b c d e l n one two three = three

-- letters that are compared ignoring case or not, and the bytes of a pattern as they are compared with them
module _ (any_case : Bool) (up : ℕ → ℕ) (byte_same : (p : ℕ) → cond any_case (to_ascii_uppercase p) p ≡ up p) (wild_same : (p w : ℕ) → w ≤ 64 → (up p == w) ≡ (p == w)) where
  module _ (f : List Letter → Bool) (g : List ℕ → Bool) (same : (n : List ℕ) → is_flat_name n ≡ true → f (letters_in any_case n) ≡ g n) where
    some_end-same : (n : List ℕ) → is_flat_name n ≡ true → some_end f (letters_in any_case n) ≡ some_end_flat g n
    some_end-same [] h = same [] h
    some_end-same (b ∷ bs) h = ap₂ (λ (x y : Bool). x || y) (same (b ∷ bs) h) (some_end-same bs (flat_tail b bs h))

    part-same : (n : List ℕ) → is_flat_name n ≡ true → some_end_of_part f (letters_in any_case n) ≡ some_end_flat g n
    part-same [] h = same [] h
    part-same (b ∷ bs) h =
        ap (λ (x : Bool). f (letters_in any_case (b ∷ bs)) || (not x && some_end_of_part f (letters_in any_case bs))) (flat_head b bs h)
        ∙ ap₂ (λ (x y : Bool). x || y) (same (b ∷ bs) h) (part-same bs (flat_tail b bs h))

    begins-same : (p : ℕ) (n : List ℕ) → is_flat_name n ≡ true → begins p f (letters_in any_case n) ≡ begins_flat (up p) g n
    begins-same p [] h = refl
    begins-same p (b ∷ bs) h = ap₂ (λ (x y : Bool). x && y) (ap (λ (q : ℕ). q == b) (byte_same p) ∙ turned (up p) b) (same bs (flat_tail b bs h))

  matches-same : (ps n : List ℕ) → is_flat_name n ≡ true → matches ps (letters_in any_case n) ≡ matches_flat (map up ps) n
  matches-same [] [] h = refl
  matches-same [] (b ∷ bs) h = refl
  matches-same (p ∷ ps) n h =
      picked (p == 42) (p == 37) (some_end (matches ps)) (some_end_of_part (matches ps)) (begins p (matches ps)) (some_end_flat (matches_flat (map up ps))) (begins_flat (up p) (matches_flat (map up ps))) (letters_in any_case n) n
      (some_end-same (matches ps) (matches_flat (map up ps)) (matches-same ps) n h)
      (part-same (matches ps) (matches_flat (map up ps)) (matches-same ps) n h)
      (begins-same (matches ps) (matches_flat (map up ps)) (matches-same ps) p n h)
      ∙ sym (ap₂ (λ (x y : Bool). cond (x || y) (some_end_flat (matches_flat (map up ps))) (begins_flat (up p) (matches_flat (map up ps))) n) (wild_same p 42 (omega arith)) (wild_same p 37 (omega arith)))

-- ---- what LIST gives

all_taken : (n : List ℕ) → take (length n) n ≡ n
all_taken [] = refl
all_taken (b ∷ bs) = ap (λ (t : List ℕ). b ∷ t) (all_taken bs)

-- no `/` ends its first part
first_part : (n : List ℕ) → is_flat_name n ≡ true → before_first is_slash n ≡ n
first_part n h = ap (λ (k : ℕ). take k n) (whole n h) ∙ all_taken n
  where
    whole : (n : List ℕ) → is_flat_name n ≡ true → position_or_len is_slash n ≡ length n
    whole [] h = refl
    whole (b ∷ bs) h = ap (λ (x : Bool). cond (not x) (1 + position_or_len is_slash bs) 0) (flat_head b bs h) ∙ ap (λ (k : ℕ). 1 + k) (whole bs (flat_tail b bs h)) ∙ one-add (length bs)

pub is_listed-same : (pattern name : List ℕ) → is_flat_name name ≡ true → is_listed pattern name ≡ is_listed_flat pattern name
is_listed-same pattern name h =
    ap (λ (n : List ℕ). matches pattern (cond (bytes_eq n inbox) (letters_in true inbox ++ letters_in false (drop (length inbox) name)) (letters_in false name))) (first_part name h)
    ∙ elim (bytes_eq name inbox) as (λ b. bytes_eq name inbox ≡ b →
    matches pattern (cond b (letters_in true inbox ++ letters_in false (drop (length inbox) name)) (letters_in false name)) ≡ matches_flat (cond b (str_to_ascii_uppercase pattern) pattern) name) [
      | true ↦ λ e. subst (λ (n : List ℕ). matches pattern (letters_in true inbox ++ letters_in false (drop (length inbox) n)) ≡ matches_flat (str_to_ascii_uppercase pattern) n) (sym ((bytes_decides name inbox).0 e))
          (matches-same true to_ascii_uppercase (λ p. refl) upper_same pattern inbox refl)
      | false ↦ λ e. matches-same false (λ p. p) (λ p. refl) (λ p w small. refl) pattern name h ∙ ap (λ (ps : List ℕ). matches_flat ps name) (map-id pattern)
    ] refl
