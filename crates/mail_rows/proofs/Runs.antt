-- The inferiors of a name among rows in order are a run of them.
use Rattle.std.proofs.Common.{◌≡◌, ℕ, ◌<◌, ◌≤◌, Bool, true, false, not, ◌&&◌, ◌||◌, ◌==◌, nat_lt, nat_eq, cond, List, [], ◌∷◌, ◌++◌, bytes_eq, get_or, filter, map, length, refl, sym, ap, ap₂, subst, ◌∙◌, arith, true≢false, eq-eqb, eqb-true, Ordering, Less, Equal, Greater, is_lt, nat_cmp}
use Rattle.std.specs.Ordering.{ordering_then}
use Rattle.std.specs.Cmp.{first_so, second_so, nat_cmp_total, tied_itself}
use Rattle.std.specs.Cmp.Lexicographic.{slice_cmp}
use Rattle.std.specs.List.{starts_with, list_any}
use Rattle.std.specs.FinMap.Entries as rows
use Rattle.std.proofs.lemmas.Bool.Decides.{nat_tests}
use Rattle.std.proofs.lemmas.Map.Lookups.{exact_unsigned}
use Rattle.undo_base.specs.declared.keys.User.{User}
use Rattle.verb_core.specs.declared.mailbox.BoxId.{BoxId}
use Rattle.verb_core.specs.declared.mailbox.Mailbox.{Mailbox}
use Rattle.undo_base.specs.declared.limits.TheConstants.{MOST_NAME}
use Rattle.verb_core.specs.Names.{inbox, is_empty, is_slash, is_inferior, moved_name}
use Rattle.verb_core.specs.Boxes.{box_cmp, box_of, has_inferior, has_row, names_of, same_user}
use Rattle.verb_core.specs.Step.{Boxes, is_overlong}
use Rattle.verb_core.proofs.BoxLaws.{boxes_total}
use Rattle.verb_core.proofs.Searched.{less_is}
use Rattle.verb_core.proofs.NameLaws.{has_front, front_of, inferior, no_superior_is_empty}
use Rattle.mail_rows.proofs.RowRuns.{AreTogether, lt_is}
use Rattle.mail_rows.specs.Inferiors.{is_under, rows_under, stands_first}

-- ---- bytes, and a name with a `/` behind it

nat_itself : (b c : ℕ) → b ≡ c → nat_cmp b c ≡ Equal
nat_itself b c is = subst (λ (x : ℕ). nat_cmp b x ≡ Equal) is (tied_itself nat_cmp_total b)

same_byte : (c b : ℕ) (t : Bool) → (c == b && t) ≡ true → b ≡ c
same_byte c b t h = sym (eqb-true c b (first_so _ _ h))

pub begins_otherwise : (name other : List ℕ) → starts_with nat_eq other name ≡ false → is_lt (slice_cmp nat_cmp other name) ≡ is_lt (slice_cmp nat_cmp other (name ++ 47 ∷ []))
begins_otherwise [] other h = absurd (true≢false h)
begins_otherwise (c ∷ cs) [] h = refl
begins_otherwise (c ∷ cs) (b ∷ bs) h = elim (nat_cmp b c) as (λ o. nat_cmp b c ≡ o → is_lt (ordering_then o (slice_cmp nat_cmp bs cs)) ≡ is_lt (ordering_then o (slice_cmp nat_cmp bs (cs ++ 47 ∷ [])))) [
  | Less ↦ λ e. refl
  | Equal ↦ λ e. begins_otherwise cs bs (sym (ap (λ t. t && starts_with nat_eq bs cs) (eq-eqb c b (sym (exact_unsigned b c e)))) ∙ h)
  | Greater ↦ λ e. refl
] refl

pub ends_there : (name other : List ℕ) → starts_with nat_eq other name ≡ true → length other ≤ length name → is_lt (slice_cmp nat_cmp other (name ++ 47 ∷ [])) ≡ true
ends_there [] [] h short = refl
ends_there [] (b ∷ bs) h short = absurd (omega (arith, short))
ends_there (c ∷ cs) [] h short = absurd (true≢false (sym h))
ends_there (c ∷ cs) (b ∷ bs) h short =
    ap (λ o. is_lt (ordering_then o (slice_cmp nat_cmp bs (cs ++ 47 ∷ [])))) (nat_itself b c (same_byte c b _ h))
    ∙ ends_there cs bs (second_so _ _ h) (omega (arith, short))

not_less : (o : Ordering) (xs : List ℕ) → is_lt o ≡ is_lt (ordering_then o (slice_cmp nat_cmp xs []))
not_less Less xs = refl
not_less Equal [] = refl
not_less Equal (x ∷ xs) = refl
not_less Greater xs = refl

pub next_byte : (name other : List ℕ) (d : ℕ) → starts_with nat_eq other name ≡ true → length name < length other → is_lt (slice_cmp nat_cmp other (name ++ 47 ∷ [])) ≡ nat_lt (get_or other (length name) d) 47
next_byte [] [] d h more = absurd (omega (arith, more))
next_byte [] (x ∷ xs) d h more = sym (lt_is x 47 ∙ not_less (nat_cmp x 47) xs)
next_byte (c ∷ cs) [] d h more = absurd (true≢false (sym h))
next_byte (c ∷ cs) (x ∷ xs) d h more =
    ap (λ o. is_lt (ordering_then o (slice_cmp nat_cmp xs (cs ++ 47 ∷ [])))) (nat_itself x c (same_byte c x _ h))
    ∙ next_byte cs xs d (second_so _ _ h) (omega (arith, more))

pub empty_is : (rs : Boxes) (b : Bool) → b ≡ (length rs == 0) → b ≡ is_empty rs
empty_is [] b h = h
empty_is (r ∷ rs) b h = h ∙ grind (arith, nat_tests)

-- what has the name and a `/` in front does not lie below these
behind : (name x : List ℕ) → has_front name x ≡ true → is_lt (slice_cmp nat_cmp x (name ++ 47 ∷ [])) ≡ false
behind [] [] h = absurd (true≢false (sym h))
behind [] (b ∷ bs) h = sym (not_less (nat_cmp b 47) bs) ∙ ap is_lt (nat_itself b 47 (eqb-true b 47 h))
behind (c ∷ cs) [] h = absurd (true≢false (sym h))
behind (c ∷ cs) (b ∷ bs) h = ap (λ o. is_lt (ordering_then o (slice_cmp nat_cmp bs (cs ++ 47 ∷ [])))) (nat_itself b c (same_byte c b _ h)) ∙ behind cs bs (second_so _ _ h)

-- and what lies between these and such bytes has them in front too
between_names : (name x y : List ℕ) → has_front name y ≡ true → is_lt (slice_cmp nat_cmp x (name ++ 47 ∷ [])) ≡ false → slice_cmp nat_cmp x y ≡ Less → has_front name x ≡ true
between_names [] x [] under low high = absurd (true≢false (sym under))
between_names [] [] (y ∷ ys) under low high = absurd (true≢false low)
between_names [] (b ∷ bs) (y ∷ ys) under low high =
    let slash : y ≡ 47 = eqb-true y 47 under in
    elim (nat_cmp b 47) as (λ o. nat_cmp b 47 ≡ o → is_slash b ≡ true) [
      | Less ↦ λ e. absurd (true≢false (sym (ap (λ o. is_lt (ordering_then o (slice_cmp nat_cmp bs []))) e) ∙ low))
      | Equal ↦ λ e. eq-eqb b 47 (exact_unsigned b 47 e)
      | Greater ↦ λ e. absurd (no_less (sym (ap (λ o. ordering_then o (slice_cmp nat_cmp bs ys)) (ap (nat_cmp b) slash ∙ e)) ∙ high))
    ] refl
  where
    no_less : ◌≡◌ {A = Ordering} Greater Less → ⊥
    no_less h = cc
between_names (c ∷ cs) x [] under low high = absurd (true≢false (sym under))
between_names (c ∷ cs) [] (y ∷ ys) under low high = absurd (true≢false low)
between_names (c ∷ cs) (b ∷ bs) (y ∷ ys) under low high =
    let same : y ≡ c = same_byte c y _ under in
    let at_c : slice_cmp nat_cmp (b ∷ bs) (c ∷ ys) ≡ Less = subst (λ (n : ℕ). slice_cmp nat_cmp (b ∷ bs) (n ∷ ys) ≡ Less) same high in
    elim (nat_cmp b c) as (λ o. nat_cmp b c ≡ o → (c == b && has_front cs bs) ≡ true) [
      | Less ↦ λ e. absurd (true≢false (sym (ap (λ o. is_lt (ordering_then o (slice_cmp nat_cmp bs (cs ++ 47 ∷ [])))) e) ∙ low))
      | Equal ↦ λ e. ap (λ t. t && has_front cs bs) (eq-eqb c b (sym (exact_unsigned b c e))) ∙ between_names cs bs ys (second_so _ _ under)
          (sym (ap (λ o. is_lt (ordering_then o (slice_cmp nat_cmp bs (cs ++ 47 ∷ [])))) e) ∙ low)
          (sym (ap (λ o. ordering_then o (slice_cmp nat_cmp bs ys)) e) ∙ at_c)
      | Greater ↦ λ e. absurd (no_less (sym (ap (λ o. ordering_then o (slice_cmp nat_cmp bs ys)) e) ∙ at_c))
    ] refl
  where
    no_less : ◌≡◌ {A = Ordering} Greater Less → ⊥
    no_less h = cc

-- ---- rows

module _ (u : User) (name : List ℕ) where
  abbrev key : BoxId
  key = box_of u (name ++ 47 ∷ [])

  down : (a b : BoxId) → box_cmp a b ≡ Less → stands_first u name b ≡ true → stands_first u name a ≡ true
  down a b less h = ap is_lt (boxes_total.trans a b key less (less_is (box_cmp b key) h))

  apart : (q : BoxId) → stands_first u name q ≡ true → is_under u name q ≡ false
  apart q h = elim (is_under u name q) as (λ b. is_under u name q ≡ b → b ≡ false) [
    | true ↦ λ e.
        let user : nat_cmp q.user.0 u.0 ≡ Equal = nat_itself q.user.0 u.0 (sym (eqb-true u.0 q.user.0 (first_so _ _ e))) in
        let no : is_lt (box_cmp q key) ≡ false = ap (λ o. is_lt (ordering_then o (slice_cmp nat_cmp q.name (name ++ 47 ∷ [])))) user ∙ behind name q.name (front_of name q.name (second_so _ _ e)) in
        absurd (true≢false (sym h ∙ no))
    | false ↦ λ e. refl
  ] refl

  between : (a b : BoxId) → box_cmp a b ≡ Less → stands_first u name a ≡ false → is_under u name b ≡ true → is_under u name a ≡ true
  between a b less low under =
      let user : b.user.0 ≡ u.0 = sym (eqb-true u.0 b.user.0 (first_so _ _ under)) in
      let names : is_inferior name b.name ≡ true = second_so _ _ under in
      let at_u : ordering_then (nat_cmp a.user.0 u.0) (slice_cmp nat_cmp a.name b.name) ≡ Less = subst (λ (n : ℕ). ordering_then (nat_cmp a.user.0 n) (slice_cmp nat_cmp a.name b.name) ≡ Less) user less in
      elim (nat_cmp a.user.0 u.0) as (λ o. nat_cmp a.user.0 u.0 ≡ o → is_under u name a ≡ true) [
        | Less ↦ λ e. absurd (true≢false (sym (ap (λ o. is_lt (ordering_then o (slice_cmp nat_cmp a.name (name ++ 47 ∷ [])))) e) ∙ low))
        | Equal ↦ λ e.
            let inferior_too : is_inferior name a.name ≡ true = inferior name a.name (no_superior_is_empty name b.name names) (between_names name a.name b.name (front_of name b.name names)
            (sym (ap (λ o. is_lt (ordering_then o (slice_cmp nat_cmp a.name (name ++ 47 ∷ [])))) e) ∙ low)
            (sym (ap (λ o. ordering_then o (slice_cmp nat_cmp a.name b.name)) e) ∙ at_u)) in
            ap₂ (λ s t. s && t) (eq-eqb u.0 a.user.0 (sym (exact_unsigned a.user.0 u.0 e))) inferior_too
        | Greater ↦ λ e. absurd (no_less (sym (ap (λ o. ordering_then o (slice_cmp nat_cmp a.name b.name)) e) ∙ at_u))
      ] refl
    where
      no_less : ◌≡◌ {A = Ordering} Greater Less → ⊥
      no_less h = cc

  pub inferiors_together : AreTogether (stands_first u name) (is_under u name)
  inferiors_together = record { down = down; apart = apart; between = between }

  -- a user has an inferior where there is such a row
  pub some_row : (rs : Boxes) → not (is_empty (rows_under u name rs)) ≡ has_inferior u name rs
  some_row [] = refl
  some_row (r ∷ rs) = elim (same_user u r.0.user) as (λ b. not (is_empty (cond (b && is_inferior name r.0.name) (r ∷ rows_under u name rs) (rows_under u name rs))) ≡ list_any (is_inferior name) (map (λ (q : BoxId × Mailbox). q.0.name) (cond b (r ∷ filter (λ q. same_user u q.0.user) rs) (filter (λ q. same_user u q.0.user) rs)))) [
    | true ↦ elim (is_inferior name r.0.name) as (λ b. not (is_empty (cond b (r ∷ rows_under u name rs) (rows_under u name rs))) ≡ (b || has_inferior u name rs)) [ true ↦ refl | false ↦ some_row rs ]
    | false ↦ some_row rs
  ]

  -- some name of an inferior passes where that of such a row does
  pub some_name : (p : List ℕ → Bool) (rs : Boxes) → list_any (λ (r : BoxId × Mailbox). p r.0.name) (rows_under u name rs) ≡ list_any (λ n. is_inferior name n && p n) (names_of u rs)
  some_name p [] = refl
  some_name p (r ∷ rs) = elim (same_user u r.0.user) as (λ b. list_any (λ (q : BoxId × Mailbox). p q.0.name) (cond (b && is_inferior name r.0.name) (r ∷ rows_under u name rs) (rows_under u name rs)) ≡ list_any (λ n. is_inferior name n && p n) (map (λ (q : BoxId × Mailbox). q.0.name) (cond b (r ∷ filter (λ q. same_user u q.0.user) rs) (filter (λ q. same_user u q.0.user) rs)))) [
    | true ↦ elim (is_inferior name r.0.name) as (λ b. list_any (λ (q : BoxId × Mailbox). p q.0.name) (cond b (r ∷ rows_under u name rs) (rows_under u name rs)) ≡ ((b && p r.0.name) || list_any (λ n. is_inferior name n && p n) (names_of u rs))) [
      | true ↦ ap (λ t. p r.0.name || t) (some_name p rs)
      | false ↦ some_name p rs
    ]
    | false ↦ some_name p rs
  ]

-- a RENAME gives one of these rows too long a name, or no inferior
pub overlong_row : (u : User) (source target : List ℕ) (rs run : Boxes) (r : Bool) → bytes_eq source inbox ≡ false → has_row (box_of u target) rs ≡ false → run ≡ rows_under u source rs
    → r ≡ list_any (λ (q : BoxId × Mailbox). nat_lt MOST_NAME (length (moved_name source target q.0.name))) run → r ≡ is_overlong u source target rs
overlong_row u source target rs run r other free is found =
    found
    ∙ ap (list_any (λ (q : BoxId × Mailbox). nat_lt MOST_NAME (length (moved_name source target q.0.name)))) is
    ∙ some_name u source (λ n. nat_lt MOST_NAME (length (moved_name source target n))) rs
    ∙ sym (ap₂ (λ (a b : Bool). not a && not b && list_any (λ n. is_inferior source n && nat_lt MOST_NAME (length (moved_name source target n))) (names_of u rs)) other free)
