-- What is told of a text, field by field.
use Rattle.std.proofs.Common.{◌≡◌, ℕ, Bool, true, false, List, [], ◌∷◌, ◌++◌, take, drop, length, ◌-◌, zero, suc, filter, Option, None, Some, if◌then◌else◌, refl, ap, sym, ◌∙◌, arith}
use Rattle.std.proofs.lemmas.List.{append_assoc, length-take}
use Rattle.header_fields.specs.Lines.{joined}
use Rattle.header_fields.specs.Fields.{fields_of}
use Rattle.header_fields.specs.Header.{has_empty_line, empty_line_of}
use Rattle.mail_sections.specs.Sections.{asked_behind, fields_where, part_of}

-- one field more
pub fields_more : (test : List ℕ → Bool) (s field rest : List ℕ) → fields_of s ≡ field ∷ fields_of rest → has_empty_line s ≡ has_empty_line rest → (t : Bool) → test field ≡ t
    → fields_where test s ≡ (if t then field else []) ++ fields_where test rest
fields_more test s field rest is ends true e = rw (is, ends, e) (append_assoc field (joined (filter test (fields_of rest))) (empty_line_of rest))
fields_more test s field rest is ends false e = rw (is, ends, e) refl

-- the end, or the empty line, comes next
pub fields_end : (test : List ℕ → Bool) (s : List ℕ) → fields_of s ≡ [] → empty_line_of s ≡ take 2 s → fields_where test s ≡ take 2 s
fields_end test s none end = rw none end

-- ---- a part of bytes that come piece by piece

drop_over : (n : ℕ) (xs ys : List ℕ) → drop n (xs ++ ys) ≡ drop n xs ++ drop (n - length xs) ys
drop_over zero xs ys = let none : 0 ≡ 0 - length xs = omega arith in ap (λ (m : ℕ). xs ++ drop m ys) none
drop_over (suc n) [] ys = let all : suc n ≡ suc n - 0 = omega arith in ap (λ (m : ℕ). drop m ys) all
drop_over (suc n) (x ∷ xs) ys = let fewer : n - length xs ≡ suc n - suc (length xs) = omega arith in drop_over n xs ys ∙ ap (λ (m : ℕ). drop n xs ++ drop m ys) fewer

take_over : (n : ℕ) (xs ys : List ℕ) → take n (xs ++ ys) ≡ take n xs ++ take (n - length xs) ys
take_over zero xs ys = let none : 0 ≡ 0 - length xs = omega arith in ap (λ (m : ℕ). take m ys) none
take_over (suc n) [] ys = let all : suc n ≡ suc n - 0 = omega arith in ap (λ (m : ℕ). take m ys) all
take_over (suc n) (x ∷ xs) ys = let fewer : n - length xs ≡ suc n - suc (length xs) = omega arith in ap (λ (l : List ℕ). x ∷ l) (take_over n xs ys) ∙ ap (λ (m : ℕ). x ∷ (take n xs ++ take m ys)) fewer

-- what is asked of one piece, and then of the bytes behind it
pub part_more : (asked : Option (ℕ × ℕ)) (xs ys : List ℕ) → part_of asked (xs ++ ys) ≡ part_of asked xs ++ part_of (asked_behind asked (length xs) (length (part_of asked xs))) ys
part_more None xs ys = refl
part_more (Some (first, n)) xs ys =
    let rest = drop first xs in
    let left : n - length rest ≡ n - length (take n rest) = omega (arith, length-take n rest) in
    ap (take n) (drop_over first xs ys) ∙ take_over n rest (drop (first - length xs) ys)
    ∙ ap (λ (m : ℕ). take n rest ++ take m (drop (first - length xs) ys)) left

drop_nothing : (n : ℕ) → drop {A = ℕ} n [] ≡ []
drop_nothing zero = refl
drop_nothing (suc n) = refl

take_nothing : (n : ℕ) → take {A = ℕ} n [] ≡ []
take_nothing zero = refl
take_nothing (suc n) = refl

-- of nothing
pub part_none : (asked : Option (ℕ × ℕ)) → part_of asked [] ≡ []
part_none None = refl
part_none (Some (first, n)) = ap (take n) (drop_nothing first) ∙ take_nothing n

-- a field that is wanted was told
pub told_field : (test : List ℕ → Bool) (asked left : Option (ℕ × ℕ)) (text told s field rest : List ℕ) → fields_of s ≡ field ∷ fields_of rest → has_empty_line s ≡ has_empty_line rest → test field ≡ true
    → part_of asked (fields_where test text) ≡ told ++ part_of left (fields_where test s)
    → part_of asked (fields_where test text) ≡ (told ++ part_of left field) ++ part_of (asked_behind left (length field) (length (part_of left field))) (fields_where test rest)
told_field test asked left text told s field rest is ends wanted inv =
    inv ∙ ap (λ (l : List ℕ). told ++ part_of left l) (fields_more test s field rest is ends true wanted)
    ∙ ap (λ (l : List ℕ). told ++ l) (part_more left field (fields_where test rest))
    ∙ sym (append_assoc told (part_of left field) (part_of (asked_behind left (length field) (length (part_of left field))) (fields_where test rest)))

-- a field that is not wanted was passed over
pub passed_field : (test : List ℕ → Bool) (asked left : Option (ℕ × ℕ)) (text told s field rest : List ℕ) → fields_of s ≡ field ∷ fields_of rest → has_empty_line s ≡ has_empty_line rest → test field ≡ false
    → part_of asked (fields_where test text) ≡ told ++ part_of left (fields_where test s) → part_of asked (fields_where test text) ≡ told ++ part_of left (fields_where test rest)
passed_field test asked left text told s field rest is ends unwanted inv =
    inv ∙ ap (λ (l : List ℕ). told ++ part_of left l) (fields_more test s field rest is ends false unwanted)
