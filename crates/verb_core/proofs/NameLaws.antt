-- The hierarchy of names: superiors are fronts that a `/` follows.
use Rattle.std.proofs.Common.{◌≡◌, ℕ, ◌<◌, ◌⊎◌, inl, inr, Bool, true, false, not, ◌&&◌, ◌||◌, ◌==◌, cond, List, [], ◌∷◌, ◌++◌, map, filter, drop, length, refl, sym, ap, ◌∙◌, subst, arith, true≢false, bytes_eq, nat_cmp, Less, eqb-true, eq-eqb, append-nil}
use Rattle.std.specs.List.{list_all, list_any}
use Rattle.std.specs.Cmp.{first_so, second_so, tied_itself, nat_cmp_total}
use Rattle.std.specs.Cmp.Lexicographic.{slice_cmp, bytes_decides}
use Rattle.std.specs.Ordering.{ordering_then}
use Rattle.std.proofs.lemmas.Bool.{and_from, or_cases, or_left, or_right}
use Rattle.verb_core.specs.Names.{inbox, lost_found, is_fixed, is_empty, is_slash, before_slashes, superiors, is_inferior, moved_name}
use Rattle.verb_core.proofs.BoxLaws.{bytes_eq-refl}

-- ---- by one step

-- whether the first list stands before a `/` of the other
abbrev pub has_front : List ℕ → List ℕ → Bool
has_front [] [] = false
has_front [] (b ∷ bs) = is_slash b
has_front (c ∷ cs) [] = false
has_front (c ∷ cs) (b ∷ bs) = c == b && has_front cs bs

parted : (a p q : Bool) → ((a && p) || (a && q)) ≡ (a && (p || q))
parted true p q = refl
parted false p q = refl

-- no front is empty behind a byte
none_empty : (b : ℕ) (xs : List (List ℕ)) → list_any (bytes_eq []) (map (λ front. b ∷ front) xs) ≡ false
none_empty b [] = refl
none_empty b (x ∷ xs) = none_empty b xs

longer : (c : ℕ) (cs : List ℕ) (b : ℕ) (xs : List (List ℕ)) → list_any (bytes_eq (c ∷ cs)) (map (λ front. b ∷ front) xs) ≡ (c == b && list_any (bytes_eq cs) xs)
longer c cs b [] = elim (c == b) as (λ t. false ≡ (t && false)) [ true ↦ refl | false ↦ refl ]
longer c cs b (x ∷ xs) = ap (λ t. (c == b && bytes_eq cs x) || t) (longer c cs b xs) ∙ parted (c == b) (bytes_eq cs x) (list_any (bytes_eq cs) xs)

front_any : (name other : List ℕ) → list_any (bytes_eq name) (before_slashes other) ≡ has_front name other
front_any [] [] = refl
front_any (c ∷ cs) [] = refl
front_any [] (b ∷ bs) = elim (is_slash b) as (λ t. list_any (bytes_eq []) (cond t ([] ∷ []) [] ++ map (λ front. b ∷ front) (before_slashes bs)) ≡ t) [
  | true ↦ refl
  | false ↦ none_empty b (before_slashes bs)
]
front_any (c ∷ cs) (b ∷ bs) = elim (is_slash b) as (λ t. list_any (bytes_eq (c ∷ cs)) (cond t ([] ∷ []) [] ++ map (λ front. b ∷ front) (before_slashes bs)) ≡ (c == b && has_front cs bs)) [
  | true ↦ longer c cs b (before_slashes bs) ∙ ap (λ t. c == b && t) (front_any cs bs)
  | false ↦ longer c cs b (before_slashes bs) ∙ ap (λ t. c == b && t) (front_any cs bs)
]

-- a superior is a front that is not empty
pub inferior_is : (name other : List ℕ) → is_inferior name other ≡ (not (is_empty name) && has_front name other)
inferior_is name other = kept name (before_slashes other) ∙ ap (λ t. not (is_empty name) && t) (front_any name other)
  where
    kept : (name : List ℕ) (xs : List (List ℕ)) → list_any (bytes_eq name) (filter (λ front. not (is_empty front)) xs) ≡ (not (is_empty name) && list_any (bytes_eq name) xs)
    kept [] [] = refl
    kept (c ∷ cs) [] = refl
    kept [] ([] ∷ xs) = kept [] xs
    kept [] ((y ∷ ys) ∷ xs) = kept [] xs
    kept (c ∷ cs) ([] ∷ xs) = kept (c ∷ cs) xs
    kept (c ∷ cs) ((y ∷ ys) ∷ xs) = ap (λ t. (c == y && bytes_eq cs ys) || t) (kept (c ∷ cs) xs)

pub front_of : (name other : List ℕ) → is_inferior name other ≡ true → has_front name other ≡ true
front_of name other h = second_so (not (is_empty name)) _ (sym (inferior_is name other) ∙ h)

pub no_superior_is_empty : (name other : List ℕ) → is_inferior name other ≡ true → is_empty name ≡ false
no_superior_is_empty [] other h = absurd (true≢false (sym h ∙ inferior_is [] other))
no_superior_is_empty (c ∷ cs) other h = refl

pub inferior : (name other : List ℕ) → is_empty name ≡ false → has_front name other ≡ true → is_inferior name other ≡ true
inferior name other some h = inferior_is name other ∙ rw (some, h) refl

-- ---- the order of names

same_byte : (a b : ℕ) → (a == b) ≡ true → a ≡ b
same_byte a b e = eqb-true a b e

front_shorter : (a b : List ℕ) → has_front a b ≡ true → length a < length b
front_shorter [] [] h = absurd (true≢false (sym h))
front_shorter [] (y ∷ ys) h = omega arith
front_shorter (x ∷ xs) [] h = absurd (true≢false (sym h))
front_shorter (x ∷ xs) (y ∷ ys) h = let rest : length xs < length ys = front_shorter xs ys (second_so (x == y) _ h) in omega arith

front_through : (a b c : List ℕ) → has_front a b ≡ true → has_front b c ≡ true → has_front a c ≡ true
front_through a b [] h g = absurd (true≢false (sym g ∙ none b))
  where
    none : (b : List ℕ) → has_front b [] ≡ false
    none [] = refl
    none (y ∷ ys) = refl
front_through a [] (z ∷ zs) h g = absurd (true≢false (sym h ∙ none a))
  where
    none : (b : List ℕ) → has_front b [] ≡ false
    none [] = refl
    none (y ∷ ys) = refl
front_through [] (y ∷ ys) (z ∷ zs) h g = subst (λ (b : ℕ). is_slash b ≡ true) (same_byte y z (first_so _ _ g)) h
front_through (x ∷ xs) (y ∷ ys) (z ∷ zs) h g =
    let rest : has_front xs zs ≡ true = front_through xs ys zs (second_so _ _ h) (second_so _ _ g) in
    let first : (x == z) ≡ true = subst (λ (b : ℕ). (x == b) ≡ true) (same_byte y z (first_so _ _ g)) (first_so _ _ h) in
    rw (first, rest) refl

-- a superior is shorter than its inferior
pub shorter : (a b : List ℕ) → is_inferior a b ≡ true → length a < length b
shorter a b h = front_shorter a b (front_of a b h)

-- a superior of a superior is one
pub through : (a b c : List ℕ) → is_inferior a b ≡ true → is_inferior b c ≡ true → is_inferior a c ≡ true
through a b c h g = inferior a c (no_superior_is_empty a b h) (front_through a b c (front_of a b h) (front_of b c g))

-- none is its own
pub never_itself : (a : List ℕ) → is_inferior a a ≡ false
never_itself a = elim (is_inferior a a) as (λ t. is_inferior a a ≡ t → t ≡ false) [ true ↦ λ e. (let less : length a < length a = shorter a a e in absurd (omega arith)) | false ↦ λ e. refl ] refl

-- a superior stands before its inferiors in byte order
pub superior_first : (a b : List ℕ) → is_inferior a b ≡ true → slice_cmp nat_cmp a b ≡ Less
superior_first a b h = front_first a b (front_of a b h)
  where
    front_first : (a b : List ℕ) → has_front a b ≡ true → slice_cmp nat_cmp a b ≡ Less
    front_first [] [] h = absurd (true≢false (sym h))
    front_first [] (y ∷ ys) h = refl
    front_first (x ∷ xs) [] h = absurd (true≢false (sym h))
    front_first (x ∷ xs) (y ∷ ys) h =
        subst (λ (b : ℕ). ordering_then (nat_cmp x b) (slice_cmp nat_cmp xs ys) ≡ Less) (same_byte x y (first_so _ _ h))
        (ap (λ o. ordering_then o (slice_cmp nat_cmp xs ys)) (tied_itself nat_cmp_total x) ∙ front_first xs ys (second_so _ _ h))

-- ---- a name below another: that name, a `/`, and more

pub front_parts : (a b : List ℕ) → has_front a b ≡ true → (rest : List ℕ) × (b ≡ a ++ 47 ∷ rest)
front_parts [] [] h = absurd (true≢false (sym h))
front_parts [] (y ∷ ys) h = (ys, ap (λ (n : ℕ). n ∷ ys) (eqb-true y 47 h))
front_parts (x ∷ xs) [] h = absurd (true≢false (sym h))
front_parts (x ∷ xs) (y ∷ ys) h =
    let more : (rest : List ℕ) × (ys ≡ xs ++ 47 ∷ rest) = front_parts xs ys (second_so _ _ h) in
    (more.0, λ j. sym (same_byte x y (first_so _ _ h)) j ∷ more.1 j)

pub front_joined : (a rest : List ℕ) → has_front a (a ++ 47 ∷ rest) ≡ true
front_joined [] rest = refl
front_joined (x ∷ xs) rest = rw (eq-eqb x x refl) (front_joined xs rest)

pub drop_front : (a rest : List ℕ) → drop (length a) (a ++ rest) ≡ rest
drop_front [] rest = refl
drop_front (x ∷ xs) rest = drop_front xs rest

-- an inferior is its superior, a `/` and more
pub below_parts : (a b : List ℕ) → is_inferior a b ≡ true → (rest : List ℕ) × (b ≡ a ++ 47 ∷ rest)
below_parts a b h = front_parts a b (front_of a b h)

-- and each such name is one
pub below : (a rest : List ℕ) → is_empty a ≡ false → is_inferior a (a ++ 47 ∷ rest) ≡ true
below a rest some = inferior a (a ++ 47 ∷ rest) some (front_joined a rest)

-- ---- tests of all superiors

among : (p : List ℕ → Bool) (xs : List (List ℕ)) (n : List ℕ) → list_all p xs ≡ true → list_any (bytes_eq n) xs ≡ true → p n ≡ true
among p [] n all some = absurd (true≢false (sym some))
among p (x ∷ xs) n all some =
    elim (bytes_eq n x) as (λ t. bytes_eq n x ≡ t → (t || list_any (bytes_eq n) xs) ≡ true → p n ≡ true) [
      | true ↦ λ e h. subst (λ (m : List ℕ). p m ≡ true) (sym ((bytes_decides n x).0 e)) (first_so _ _ all)
      | false ↦ λ e h. among p xs n (second_so _ _ all) h
    ] refl some

each_among : (p : List ℕ → Bool) (xs : List (List ℕ)) → ((n : List ℕ) → list_any (bytes_eq n) xs ≡ true → p n ≡ true) → list_all p xs ≡ true
each_among p [] each = refl
each_among p (x ∷ xs) each =
    and_from _ _ (each x (or_left _ _ (bytes_eq-refl x))) (each_among p xs (λ n h. each n (or_right (bytes_eq n x) _ h)))

-- what holds of all superiors holds of each
pub of_superior : (p : List ℕ → Bool) (name superior : List ℕ) → list_all p (superiors name) ≡ true → is_inferior superior name ≡ true → p superior ≡ true
of_superior p name superior all h = among p (superiors name) superior all h

pub of_superiors : (p : List ℕ → Bool) (name : List ℕ) → ((superior : List ℕ) → is_inferior superior name ≡ true → p superior ≡ true) → list_all p (superiors name) ≡ true
of_superiors p name each = each_among p (superiors name) each

-- ---- names without a superior

-- those that are always there
pub fixed_is_top : (name n : List ℕ) → is_fixed name ≡ true → is_inferior n name ≡ false
fixed_is_top name n fixed =
    elim (or_cases (bytes_eq name inbox) (bytes_eq name lost_found) fixed) [
      | inl e ↦ ap (is_inferior n) ((bytes_decides name inbox).0 e)
      | inr e ↦ ap (is_inferior n) ((bytes_decides name lost_found).0 e)
    ]

-- ---- a name that takes another place

-- whether a name is the source, or below it
abbrev pub is_within : List ℕ → List ℕ → Bool
is_within source name = bytes_eq source name || is_inferior source name

over_join : (name target rest : List ℕ) → has_front name (target ++ rest) ≡ true → (has_front name target ≡ true) ⊎ ((r : List ℕ) × (name ≡ target ++ r) × (has_front r rest ≡ true))
over_join name [] rest h = inr (name, refl, h)
over_join [] (y ∷ ys) rest h = inl h
over_join (x ∷ xs) (y ∷ ys) rest h =
    elim (over_join xs ys rest (second_so _ _ h)) [
      | inl front ↦ inl (and_from _ _ (first_so _ _ h) front)
      | inr more ↦ inr (more.0, (λ j. same_byte x y (first_so _ _ h) j ∷ more.1 j), more.2)
    ]

join_front : (a r rest : List ℕ) → has_front r rest ≡ true → has_front (a ++ r) (a ++ rest) ≡ true
join_front [] r rest h = h
join_front (x ∷ xs) r rest h = rw (eq-eqb x x refl) (join_front xs r rest h)

within_joined : (source r rest : List ℕ) → is_empty source ≡ false → has_front r (47 ∷ rest) ≡ true → is_within source (source ++ r) ≡ true
within_joined source [] rest some h = or_left _ _ (subst (λ (m : List ℕ). bytes_eq source m ≡ true) (sym (append-nil source)) (bytes_eq-refl source))
within_joined source (x ∷ xs) rest some h = or_right (bytes_eq source (source ++ x ∷ xs)) _ (subst (λ (b : ℕ). is_inferior source (source ++ b ∷ xs) ≡ true) (sym (same_byte x 47 (first_so _ _ h))) (below source xs some))

some_joined : (a r : List ℕ) → is_empty a ≡ false → is_empty (a ++ r) ≡ false
some_joined [] r some = absurd (true≢false some)
some_joined (x ∷ xs) r some = refl

-- a superior of a moved name is one of the target, or the moved name of a superior that is the source or below it
pub superior_moved : (source target name superior : List ℕ) → is_within source name ≡ true → is_inferior superior (moved_name source target name) ≡ true
    → (is_inferior superior target ≡ true) ⊎ ((from : List ℕ) × (superior ≡ moved_name source target from) × (is_within source from ≡ true) × (is_inferior from name ≡ true))
superior_moved source target name superior within h =
    elim (or_cases (bytes_eq source name) (is_inferior source name) within) [
      | inl e ↦ inl (inferior superior target (no_superior_is_empty superior (moved_name source target name) h) (alone ((bytes_decides source name).0 e)))
      | inr lower ↦ below_source (below_parts source name lower) (no_superior_is_empty source name lower)
    ]
  where
    alone : source ≡ name → has_front superior target ≡ true
    alone is =
        let none : drop (length source) name ≡ [] = ap (drop (length source)) (sym is ∙ sym (append-nil source)) ∙ drop_front source [] in
        subst (λ (t : List ℕ). has_front superior t ≡ true) (append-nil target) (subst (λ (rest : List ℕ). has_front superior (target ++ rest) ≡ true) none (front_of superior (moved_name source target name) h))

    below_source : (rest : List ℕ) × (name ≡ source ++ 47 ∷ rest) → is_empty source ≡ false
        → (is_inferior superior target ≡ true) ⊎ ((from : List ℕ) × (superior ≡ moved_name source target from) × (is_within source from ≡ true) × (is_inferior from name ≡ true))
    below_source (rest, is) some =
        let more : drop (length source) name ≡ 47 ∷ rest = ap (drop (length source)) is ∙ drop_front source (47 ∷ rest) in
        elim (over_join superior target (47 ∷ rest) (subst (λ (t : List ℕ). has_front superior (target ++ t) ≡ true) more (front_of superior (moved_name source target name) h))) [
          | inl front ↦ inl (inferior superior target (no_superior_is_empty superior (moved_name source target name) h) front)
          | inr p ↦ inr (
            source ++ p.0,
            p.1 ∙ ap (λ (t : List ℕ). target ++ t) (sym (drop_front source p.0)),
            within_joined source p.0 rest some p.2,
            subst (λ (t : List ℕ). is_inferior (source ++ p.0) t ≡ true) (sym is) (inferior (source ++ p.0) (source ++ 47 ∷ rest) (some_joined source p.0 some) (join_front source p.0 (47 ∷ rest) p.2)),
          )
        ]

-- what is below a name within the source is within it
pub within_below : (source a b : List ℕ) → is_within source a ≡ true → is_inferior a b ≡ true → is_inferior source b ≡ true
within_below source a b within h =
    elim (or_cases (bytes_eq source a) (is_inferior source a) within) [
      | inl e ↦ subst (λ (n : List ℕ). is_inferior n b ≡ true) (sym ((bytes_decides source a).0 e)) h
      | inr lower ↦ through source a b lower h
    ]

-- such a name is the source and what stands behind it
pub within_joins : (source name : List ℕ) → is_within source name ≡ true → source ++ drop (length source) name ≡ name
within_joins source name within =
    elim (or_cases (bytes_eq source name) (is_inferior source name) within) [
      | inl e ↦ subst (λ (n : List ℕ). source ++ drop (length source) n ≡ n) ((bytes_decides source name).0 e)
          (ap (λ (t : List ℕ). source ++ t) (ap (drop (length source)) (sym (append-nil source)) ∙ drop_front source []) ∙ append-nil source)
      | inr lower ↦ joined (below_parts source name lower)
    ]
  where
    joined : (rest : List ℕ) × (name ≡ source ++ 47 ∷ rest) → source ++ drop (length source) name ≡ name
    joined (rest, is) = ap (λ (t : List ℕ). source ++ t) (ap (drop (length source)) is ∙ drop_front source (47 ∷ rest)) ∙ sym is

-- a moved name that moves back
pub moved_back : (source target name : List ℕ) → is_within source name ≡ true → moved_name target source (moved_name source target name) ≡ name
moved_back source target name within = ap (λ (t : List ℕ). source ++ t) (drop_front target (drop (length source) name)) ∙ within_joins source name within
