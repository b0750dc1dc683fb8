-- The hierarchy of names, byte by byte.
use Rattle.std.proofs.Common.{◌≡◌, ℕ, zero, suc, ◌+◌, ◌≤◌, ◌<◌, Bool, true, false, not, ◌&&◌, ◌==◌, cond, List, [], ◌∷◌, ◌++◌, map, filter, take, length, refl, sym, ap, ◌∙◌, arith, true≢false, ◌≢◌, get_or, nat_eq, append-nil, append_assoc, take_all}
use Rattle.std.specs.List.{list_all, starts_with, slice_split, onto_first}
use Rattle.std.proofs.lemmas.List.{map-append}
use Rattle.std.proofs.lemmas.Bool.{false_from_ne_true}
use Rattle.verb_core.specs.Names.{is_empty, is_slash, before_slashes, superiors, has_whole_parts, is_inferior}
use Rattle.verb_core.proofs.NameLaws.{has_front, inferior_is, shorter}

-- ---- parts

-- whether each part has a byte, where a part begins here or has one already
abbrev pub whole_from : Bool → List ℕ → Bool
whole_from begins [] = not begins
whole_from begins (b ∷ bs) = not (is_slash b && begins) && whole_from (is_slash b) bs

abbrev are_whole : List (List ℕ) → Bool
are_whole parts = list_all (λ (part : List ℕ). not (is_empty part)) parts

abbrev others_whole : List (List ℕ) → Bool
others_whole [] = true
others_whole (part ∷ parts) = are_whole parts

one_longer : (b : ℕ) (parts : List (List ℕ)) → (are_whole (onto_first b parts) ≡ others_whole parts) × (others_whole (onto_first b parts) ≡ others_whole parts)
one_longer b [] = (refl, refl)
one_longer b (part ∷ parts) = (refl, refl)

both_from : (bs : List ℕ) → (are_whole (slice_split is_slash bs) ≡ whole_from true bs) × (others_whole (slice_split is_slash bs) ≡ whole_from false bs)
both_from [] = (refl, refl)
both_from (b ∷ bs) =
    let rest = both_from bs in
    elim (is_slash b) as (λ t. (are_whole (cond t ([] ∷ slice_split is_slash bs) (onto_first b (slice_split is_slash bs))) ≡ (not (t && true) && whole_from t bs))
    × (others_whole (cond t ([] ∷ slice_split is_slash bs) (onto_first b (slice_split is_slash bs))) ≡ (not (t && false) && whole_from t bs))) [
      | true ↦ (refl, rest.0)
      | false ↦ ((one_longer b (slice_split is_slash bs)).0 ∙ rest.1, (one_longer b (slice_split is_slash bs)).1 ∙ rest.1)
    ]

pub whole_parts : (name : List ℕ) → whole_from true name ≡ has_whole_parts name
whole_parts name = sym (both_from name).0

-- ---- superiors

fronts_more : (xs : List ℕ) (b : ℕ) → before_slashes (xs ++ b ∷ []) ≡ before_slashes xs ++ cond (is_slash b) (xs ∷ []) []
fronts_more [] b = append-nil (cond (is_slash b) ([] ∷ []) [])
fronts_more (x ∷ xs) b =
    ap (λ (t : List (List ℕ)). cond (is_slash x) ([] ∷ []) [] ++ map (λ front. x ∷ front) t) (fronts_more xs b)
    ∙ ap (λ (t : List (List ℕ)). cond (is_slash x) ([] ∷ []) [] ++ t) (map-append (λ front. x ∷ front) (before_slashes xs) (cond (is_slash b) (xs ∷ []) [])
    ∙ ap (λ (t : List (List ℕ)). map (λ front. x ∷ front) (before_slashes xs) ++ t) (elim (is_slash b) as (λ t. map (λ front. x ∷ front) (cond t (xs ∷ []) []) ≡ cond t ((x ∷ xs) ∷ []) []) [ true ↦ refl | false ↦ refl ]))
    ∙ sym (append_assoc (cond (is_slash x) ([] ∷ []) []) (map (λ front. x ∷ front) (before_slashes xs)) (cond (is_slash b) ((x ∷ xs) ∷ []) []))

kept_more : (xs ys : List (List ℕ)) → filter (λ front. not (is_empty front)) (xs ++ ys) ≡ filter (λ front. not (is_empty front)) xs ++ filter (λ front. not (is_empty front)) ys
kept_more [] ys = refl
kept_more ([] ∷ xs) ys = kept_more xs ys
kept_more ((b ∷ bs) ∷ xs) ys = ap (λ (t : List (List ℕ)). (b ∷ bs) ∷ t) (kept_more xs ys)

-- a front with a byte is a superior where a `/` follows it
superiors_more : (xs : List ℕ) (b : ℕ) → is_empty xs ≡ false → superiors (xs ++ b ∷ []) ≡ superiors xs ++ cond (is_slash b) (xs ∷ []) []
superiors_more [] b some = absurd (true≢false some)
superiors_more (x ∷ xs) b some =
    ap (filter (λ front. not (is_empty front))) (fronts_more (x ∷ xs) b)
    ∙ kept_more (before_slashes (x ∷ xs)) (cond (is_slash b) ((x ∷ xs) ∷ []) [])
    ∙ ap (λ (t : List (List ℕ)). superiors (x ∷ xs) ++ t) (elim (is_slash b) as (λ t. filter (λ front. not (is_empty front)) (cond t ((x ∷ xs) ∷ []) []) ≡ cond t ((x ∷ xs) ∷ []) []) [ true ↦ refl | false ↦ refl ])

taken_more : (bytes : List ℕ) (k d : ℕ) → k < length bytes → take (k + 1) bytes ≡ take k bytes ++ get_or bytes k d ∷ []
taken_more [] k d lt = absurd (omega arith)
taken_more (b ∷ bytes) zero d lt = refl
taken_more (b ∷ bytes) (suc k) d lt =
    let n : suc k + 1 ≡ suc (k + 1) = omega arith in
    ap (λ (m : ℕ). take m (b ∷ bytes)) n ∙ ap (λ (t : List ℕ). b ∷ t) (taken_more bytes k d (omega arith))

some_taken : (bytes : List ℕ) (k : ℕ) → 1 ≤ k → k < length bytes → is_empty (take k bytes) ≡ false
some_taken [] k low lt = absurd (omega arith)
some_taken (b ∷ bytes) zero low lt = absurd (omega arith)
some_taken (b ∷ bytes) (suc k) low lt = refl

none_first : (bytes : List ℕ) → superiors (take 1 bytes) ≡ []
none_first [] = refl
none_first (b ∷ bytes) = elim (is_slash b) as (λ t. filter (λ (front : List ℕ). not (is_empty front)) (cond t ([] ∷ []) [] ++ []) ≡ []) [ true ↦ refl | false ↦ refl ]

-- no superior ends before the second byte
pub begins_empty : (bytes : List ℕ) (names : List (List ℕ)) → names ≡ [] → names ≡ superiors (take 1 bytes)
begins_empty bytes names none = none ∙ sym (none_first bytes)

-- the whole name was looked at
pub all_looked_at : (bytes : List ℕ) (names : List (List ℕ)) (k : ℕ) → length bytes ≤ k → names ≡ superiors (take k bytes) → names ≡ superiors bytes
all_looked_at bytes names k le before = before ∙ ap superiors (take_all k bytes le)

one_more : (bytes : List ℕ) (k d : ℕ) → 1 ≤ k → k < length bytes → superiors (take (k + 1) bytes) ≡ superiors (take k bytes) ++ cond (is_slash (get_or bytes k d)) (take k bytes ∷ []) []
one_more bytes k d low lt = ap superiors (taken_more bytes k d lt) ∙ superiors_more (take k bytes) (get_or bytes k d) (some_taken bytes k low lt)

-- one ends before each later `/`
pub one_ends : (bytes : List ℕ) (names after : List (List ℕ)) (k d : ℕ) → 1 ≤ k → k < length bytes → names ≡ superiors (take k bytes) → is_slash (get_or bytes k d) ≡ true
    → after ≡ names ++ take k bytes ∷ [] → after ≡ superiors (take (k + 1) bytes)
one_ends bytes names after k d low lt before slash new =
    new ∙ ap (λ (t : List (List ℕ)). t ++ take k bytes ∷ []) before
    ∙ sym (one_more bytes k d low lt ∙ ap (λ t. superiors (take k bytes) ++ cond t (take k bytes ∷ []) []) slash)

-- and none before another byte
pub none_ends : (bytes : List ℕ) (names : List (List ℕ)) (k d : ℕ) → 1 ≤ k → k < length bytes → names ≡ superiors (take k bytes) → is_slash (get_or bytes k d) ≡ false → names ≡ superiors (take (k + 1) bytes)
none_ends bytes names k d low lt before other =
    before ∙ sym (one_more bytes k d low lt ∙ ap (λ t. superiors (take k bytes) ++ cond t (take k bytes ∷ []) []) other ∙ append-nil (superiors (take k bytes)))

-- ---- whether a name is an inferior

and_assoc : (a b c : Bool) → (a && (b && c)) ≡ ((a && b) && c)
and_assoc true b c = refl
and_assoc false b c = refl

front_starts : (name other : List ℕ) (d : ℕ) → length name < length other → has_front name other ≡ (starts_with nat_eq other name && is_slash (get_or other (length name) d))
front_starts name [] d lt = absurd (omega arith)
front_starts [] (b ∷ bs) d lt = refl
front_starts (c ∷ cs) (b ∷ bs) d lt = ap (λ t. c == b && t) (front_starts cs bs d (omega arith)) ∙ and_assoc (c == b) (starts_with nat_eq bs cs) (is_slash (get_or bs (length cs) d))

never : (b : Bool) → (b && false) ≡ false
never true = refl
never false = refl

-- the empty name has no inferior
pub none_below_nothing : (name other : List ℕ) → length name ≡ 0 → is_inferior name other ≡ false
none_below_nothing [] other e = inferior_is [] other
none_below_nothing (c ∷ cs) other e = absurd (omega arith)

-- an inferior is longer
pub none_so_short : (name other : List ℕ) → length other ≤ length name → is_inferior name other ≡ false
none_so_short name other le = false_from_ne_true (is_inferior name other) (λ e. let lt : length name < length other = shorter name other e in omega arith)

-- and begins with the name
pub begins_otherwise : (name other : List ℕ) → length name < length other → starts_with nat_eq other name ≡ false → is_inferior name other ≡ false
begins_otherwise name other lt e =
    inferior_is name other ∙ ap (λ t. not (is_empty name) && t) (front_starts name other 0 lt ∙ ap (λ t. t && is_slash (get_or other (length name) 0)) e) ∙ never (not (is_empty name))

some_byte : (name : List ℕ) → length name ≢ 0 → not (is_empty name) ≡ true
some_byte [] some = absurd (some refl)
some_byte (c ∷ cs) some = refl

-- and then has a `/`
pub next_byte : (name other : List ℕ) (d : ℕ) → length name ≢ 0 → length name < length other → starts_with nat_eq other name ≡ true → is_inferior name other ≡ is_slash (get_or other (length name) d)
next_byte name other d some lt e =
    inferior_is name other ∙ ap (λ t. t && has_front name other) (some_byte name some) ∙ front_starts name other d lt ∙ ap (λ t. t && is_slash (get_or other (length name) d)) e
