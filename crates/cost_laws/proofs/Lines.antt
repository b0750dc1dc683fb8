-- How many lines bytes end.
use Rattle.std.proofs.Common.{◌≡◌, ℕ, zero, suc, ◌+◌, ◌*◌, ◌≤◌, arith, Bool, true, false, true≢false, cond, List, [], ◌∷◌, ◌++◌, length, length-append, refl, ap, sym, subst, ◌∙◌}
use Rattle.std.proofs.lemmas.List.{append-nil, length-map}
use Rattle.smtp_lines.specs.Lines.{is_end, lines_of, onto_first, rest_of}
use Rattle.smtp_lines.specs.Line.{kept_of, smtp_lines_of}
use Rattle.cost_laws.specs.Units.{EndIn}

onto_length : (b : ℕ) (lines : List (List ℕ)) → length (onto_first b lines) ≡ length lines
onto_length b [] = refl
onto_length b (line ∷ lines) = refl

abbrev has_some : {A : Type 0} → List A → Bool
has_some [] = false
has_some (x ∷ xs) = true

some_left : {A : Type 0} (x : A) (xs : List A) → x ∷ xs ≡ [] → ⊥
some_left x xs none = true≢false (ap has_some none)

onto_none : (b : ℕ) (lines : List (List ℕ)) → onto_first b lines ≡ [] → lines ≡ []
onto_none b [] none = refl
onto_none b (line ∷ lines) none = absurd (some_left (b ∷ line) lines none)

one_more : (k n : ℕ) → 2 * k ≤ n → 2 * k ≤ n + 1
one_more k n le = omega (arith, le)

-- a line takes two bytes at least
split_twice : (end : Bool) (b : ℕ) (behind lines : List (List ℕ)) (n : ℕ) → 2 * length behind ≤ n → 2 * length lines ≤ n + 1
    → 2 * length (cond end ([] ∷ behind) (onto_first b lines)) ≤ n + 2
split_twice true b behind lines n two one = omega (arith, two)
split_twice false b behind lines n two one = let l = onto_length b lines in omega (arith, l, one)

pub lines_twice : (bytes : List ℕ) → 2 * length (lines_of bytes) ≤ length bytes
lines_twice [] = omega arith
lines_twice (b ∷ []) = omega arith
lines_twice (b ∷ c ∷ bytes) =
    let behind : 2 * length (lines_of bytes) ≤ length bytes = lines_twice bytes in
    let lines : 2 * length (lines_of (c ∷ bytes)) ≤ length (c ∷ bytes) = lines_twice (c ∷ bytes) in
    let h : 2 * length (cond (is_end b c) ([] ∷ lines_of bytes) (onto_first b (lines_of (c ∷ bytes)))) ≤ length bytes + 2 =
    split_twice (is_end b c) b (lines_of bytes) (lines_of (c ∷ bytes)) (length bytes) behind (omega (arith, lines)) in
    omega (arith, h)

-- behind bytes that end none, the first may take one
split_more : (end : Bool) (b : ℕ) (behind before lines more : List (List ℕ)) (n : ℕ) → cond end ([] ∷ behind) (onto_first b before) ≡ []
    → (before ≡ [] → 2 * length more ≤ n) → 2 * length (cond end ([] ∷ lines) (onto_first b more)) ≤ n
split_more true b behind before lines more n none rest = absurd (some_left [] behind none)
split_more false b behind before lines more n none rest = let l = onto_length b more in let k : 2 * length more ≤ n = rest (onto_none b before none) in omega (arith, l, k)

more_lines : (unserved bytes : List ℕ) → lines_of unserved ≡ [] → 2 * length (lines_of (unserved ++ bytes)) ≤ length bytes + 1
more_lines [] bytes none = one_more (length (lines_of bytes)) (length bytes) (lines_twice bytes)
more_lines (b ∷ []) bytes none = let h : 2 * length (lines_of (b ∷ bytes)) ≤ length (b ∷ bytes) = lines_twice (b ∷ bytes) in omega (arith, h)
more_lines (b ∷ c ∷ unserved) bytes none =
    split_more (is_end b c) b (lines_of unserved) (lines_of (c ∷ unserved)) (lines_of (unserved ++ bytes)) (lines_of (c ∷ (unserved ++ bytes))) (length bytes + 1) none
    (λ h. more_lines (c ∷ unserved) bytes h)

pub units_end : (unserved bytes : List ℕ) → lines_of unserved ≡ [] → EndIn (length (smtp_lines_of (unserved ++ bytes))) bytes
units_end unserved bytes none = subst (λ (n : ℕ). EndIn n bytes) (sym (length-map (lines_of (unserved ++ bytes)) kept_of)) (more_lines unserved bytes none)

-- ---- what is left has none

abbrev pub LinesGoOn : Type 0
LinesGoOn = (stream more : List ℕ) → smtp_lines_of (stream ++ more) ≡ smtp_lines_of stream ++ smtp_lines_of (rest_of stream ++ more)

none_left : {A : Type 0} (xs ys : List A) → xs ≡ xs ++ ys → length ys ≡ 0
none_left xs ys same = let l : length xs ≡ length (xs ++ ys) = ap length same in let k : length (xs ++ ys) ≡ length xs + length ys = length-append xs ys in omega (arith, l, k)

abbrev is_some_number : ℕ → Bool
is_some_number zero = false
is_some_number (suc n) = true

no_lines : (lines : List (List ℕ)) → length lines ≡ 0 → lines ≡ []
no_lines [] none = refl
no_lines (line ∷ lines) none = absurd (true≢false (ap is_some_number none))

pub rest_has_none : LinesGoOn → (stream : List ℕ) → lines_of (rest_of stream) ≡ []
rest_has_none lines stream =
    let same : smtp_lines_of stream ≡ smtp_lines_of stream ++ smtp_lines_of (rest_of stream) =
    ap smtp_lines_of (sym (append-nil stream)) ∙ lines stream [] ∙ ap (λ (rest : List ℕ). smtp_lines_of stream ++ smtp_lines_of rest) (append-nil (rest_of stream)) in
    no_lines (lines_of (rest_of stream)) (sym (length-map (lines_of (rest_of stream)) kept_of) ∙ none_left (smtp_lines_of stream) (smtp_lines_of (rest_of stream)) same)
