-- Filters by rising name: how one is found, taken in and taken out.
use Rattle.std.proofs.Common.{◌≡◌, inl, inr, ℕ, zero, suc, ◌+◌, ◌-◌, ◌<◌, ◌≤◌, Bool, true, false, not, cond, nat_lt, List, [], ◌∷◌, Option, Some, unwrap_or, refl, sym, ap, ◌∙◌, subst, arith, true≢false, get_or, insert, remove, length, map, slice_get, take_while, filter, bytes_eq, Less, Equal, Greater, is_gt}
use Rattle.std.specs.Cmp.Lexicographic.{nat_list_cmp_total, bytes_decides}
use Rattle.std.specs.List.{AllByRecursion}
use Rattle.std.specs.Option.{option_map_or}
use Rattle.std.proofs.lemmas.List.{length-map}
use Rattle.std.proofs.lemmas.Bool.{ltb-true, ltb-false}
use Rattle.std.proofs.lemmas.Cmp.{tied_itself}
use Rattle.std.proofs.lemmas.Map.Lookups.{exact_bytes}
use Rattle.std.proofs.lemmas.List.Edits.{length-insert, length-remove}
use Rattle.verb_core.specs.declared.conf.Filter.{Filter}
use Rattle.verb_core.specs.Step.{with_filter}
use Rattle.mail_rows.specs.Confs.{RiseBy, HasPlace, IsOrder, comes_behind, has_other_id, id_at, is_ranked, lowered}
use Rattle.mail_rows.proofs.ConfLaws.{front, length-front, front_within}
use Rattle.mail_rows.proofs.AliasOrder.{lie, turned, AboveBy, still_above}

-- ---- places in lists

some_is : (a b : ℕ) → Some a ≡ Some b → a ≡ b
some_is a b e = ap (λ (o : Option ℕ). unwrap_or o a) e

has_all : (P : ℕ → Type 0) (p : ℕ) (all : List ℕ) → AllByRecursion P all → HasPlace p all → P p
has_all P p [] holds h = absurd h
has_all P p (x ∷ more) holds (inl e) = subst P e holds.0
has_all P p (x ∷ more) holds (inr h) = has_all P p more holds.1 h

all_insert : (P : ℕ → Type 0) (all : List ℕ) (k x : ℕ) → k ≤ length all → P x → AllByRecursion P all → AllByRecursion P (insert all k x)
all_insert P [] zero x le px holds = (px, tt)
all_insert P [] (suc k) x le px holds = absurd (omega (arith, le))
all_insert P (y ∷ more) zero x le px holds = (px, holds)
all_insert P (y ∷ more) (suc k) x le px holds = (holds.0, all_insert P more k x (omega (arith, le)) px holds.1)

has_inserted : (p : ℕ) (all : List ℕ) (k x : ℕ) → k ≤ length all → HasPlace p all → HasPlace p (insert all k x)
has_inserted p [] k x le h = absurd h
has_inserted p (y ∷ more) zero x le h = inr h
has_inserted p (y ∷ more) (suc k) x le (inl e) = inl e
has_inserted p (y ∷ more) (suc k) x le (inr h) = inr (has_inserted p more k x (omega (arith, le)) h)

has_new : (all : List ℕ) (k x : ℕ) → k ≤ length all → HasPlace x (insert all k x)
has_new [] zero x le = inl refl
has_new [] (suc k) x le = absurd (omega (arith, le))
has_new (y ∷ more) zero x le = inl refl
has_new (y ∷ more) (suc k) x le = inr (has_new more k x (omega (arith, le)))

all_more : (P Q : ℕ → Type 0) → ((x : ℕ) → P x → Q x) → (all : List ℕ) → AllByRecursion P all → AllByRecursion Q all
all_more P Q to [] holds = tt
all_more P Q to (x ∷ more) holds = (to x holds.0, all_more P Q to more holds.1)

-- ---- the filter of a name

module _ (fs : List Filter) where
  found : (id : List ℕ) (order : List ℕ) → RiseBy (id_at fs) order → (p : ℕ) → HasPlace p order → id_at fs p ≡ id → slice_get order (front (comes_behind id fs) order) ≡ Some p
  found id [] rise p h is = absurd h
  found id (q ∷ more) rise p (inl e) is =
      let tied : lie id (id_at fs q) ≡ Equal = ap (λ (n : List ℕ). lie id n) (ap (id_at fs) e ∙ is) ∙ tied_itself nat_list_cmp_total id in
      ap {B = Option ℕ} (λ o. slice_get (q ∷ more) (cond (is_gt o) (suc (front (comes_behind id fs) more)) 0)) tied ∙ ap Some e
  found id (q ∷ more) rise p (inr h) is =
      let less : lie (id_at fs q) id ≡ Less = subst (λ (n : List ℕ). lie (id_at fs q) n ≡ Less) is (has_all (λ r. lie (id_at fs q) (id_at fs r) ≡ Less) p more rise.0 h) in
      ap {B = Option ℕ} (λ o. slice_get (q ∷ more) (cond (is_gt o) (suc (front (comes_behind id fs) more)) 0)) (turned (id_at fs q) id Less less) ∙ found id more rise.1 p h is

  rise_insert : (m : ℕ) (order : List ℕ) → RiseBy (id_at fs) order → is_ranked (id_at fs m) fs order (front (comes_behind (id_at fs m) fs) order) ≡ false → RiseBy (id_at fs) (insert order (front (comes_behind (id_at fs m) fs) order) m)
  rise_insert m [] rise gap = (tt, tt)
  rise_insert m (q ∷ more) rise gap =
      elim (lie (id_at fs m) (id_at fs q)) as (λ o. lie (id_at fs m) (id_at fs q) ≡ o
      → is_ranked (id_at fs m) fs (q ∷ more) (cond (is_gt o) (suc (front (comes_behind (id_at fs m) fs) more)) 0) ≡ false
      → RiseBy (id_at fs) (insert (q ∷ more) (cond (is_gt o) (suc (front (comes_behind (id_at fs m) fs) more)) 0) m)) [
        | Less ↦ λ e apart. ((e, still_above (id_at fs) (id_at fs m) (id_at fs q) more e rise.0), rise)
        | Equal ↦ λ e apart. absurd (true≢false (sym ((bytes_decides (id_at fs m) (id_at fs q)).1 (exact_bytes (id_at fs m) (id_at fs q) e)) ∙ apart))
        | Greater ↦ λ e apart. (all_insert (λ r. lie (id_at fs q) (id_at fs r) ≡ Less) more (front (comes_behind (id_at fs m) fs) more) m (front_within (comes_behind (id_at fs m) fs) more) (turned (id_at fs m) (id_at fs q) Greater e) rise.0, rise_insert m more rise.1 apart)
      ] refl gap

first_of : (id : List ℕ) (fs : List Filter) (q : ℕ) → q < length fs → id_at fs q ≡ id → ((p : ℕ) → p < length fs → id_at fs p ≡ id → p ≡ q) → front (has_other_id id) fs ≡ q
first_of id [] q lt is alone = absurd (omega (arith, lt))
first_of id (f ∷ more) zero lt is alone = ap {B = ℕ} (λ b. cond (not b) (suc (front (has_other_id id) more)) 0) ((bytes_decides id f.id).1 (sym is))
first_of id (f ∷ more) (suc q) lt is alone =
    elim (bytes_eq id f.id) as (λ b. bytes_eq id f.id ≡ b → cond (not b) (suc (front (has_other_id id) more)) 0 ≡ suc q) [
      | true ↦ λ e. absurd (omega (arith, alone 0 (omega arith) (sym ((bytes_decides id f.id).0 e))))
      | false ↦ λ e. ap suc (first_of id more q (omega (arith, lt)) is (λ p within named. let same : suc p ≡ suc q = alone (suc p) (omega (arith, within)) named in omega (arith, same)))
    ] refl

none_of : (id : List ℕ) (fs : List Filter) → ((p : ℕ) → p < length fs → id_at fs p ≡ id → ⊥) → front (has_other_id id) fs ≡ length fs
none_of id [] none = refl
none_of id (f ∷ more) none =
    elim (bytes_eq id f.id) as (λ b. bytes_eq id f.id ≡ b → cond (not b) (suc (front (has_other_id id) more)) 0 ≡ suc (length more)) [
      | true ↦ λ e. absurd (none 0 (omega arith) (sym ((bytes_decides id f.id).0 e)))
      | false ↦ λ e. ap suc (none_of id more (λ p within named. none (suc p) (omega (arith, within)) named))
    ] refl

-- a rank that has a name has a place
ranked : (id : List ℕ) (fs : List Filter) (order : List ℕ) (n d : ℕ) → is_ranked id fs order n ≡ true → (slice_get order n ≡ Some (get_or order n d)) × (id_at fs (get_or order n d) ≡ id) × (n < length order)
ranked id fs [] n d h = cc
ranked id fs (q ∷ more) zero d h = (refl, sym ((bytes_decides id (id_at fs q)).0 h), omega arith)
ranked id fs (q ∷ more) (suc n) d h =
    let rest : (slice_get more n ≡ Some (get_or more n d)) × (id_at fs (get_or more n d) ≡ id) × (n < length more) = ranked id fs more n d h in
    (rest.0, rest.1, omega (arith, rest.2))

ranked_by : (id : List ℕ) (fs : List Filter) (order : List ℕ) (n p : ℕ) → slice_get order n ≡ Some p → id_at fs p ≡ id → is_ranked id fs order n ≡ true
ranked_by id fs order n p at is = ap {B = Bool} (λ (o : Option ℕ). option_map_or (λ (place : ℕ). bytes_eq id (id_at fs place)) o false) at ∙ (bytes_decides id (id_at fs p)).1 (sym is)

has_at : (order : List ℕ) (n p : ℕ) → slice_get order n ≡ Some p → HasPlace p order
has_at [] n p at = cc
has_at (q ∷ more) zero p at = inl (some_is q p at)
has_at (q ∷ more) (suc n) p at = inr (has_at more n p at)

module _ (id : List ℕ) (fs : List Filter) (order : List ℕ) (is : IsOrder order fs) (n : ℕ) (at : n ≡ length (take_while (comes_behind id fs) order)) where
  at_rank : n ≡ front (comes_behind id fs) order
  at_rank = at ∙ length-front (comes_behind id fs) order

  found_there : (p : ℕ) → p < length order → id_at fs p ≡ id → slice_get order n ≡ Some p
  found_there p within named = ap (slice_get order) at_rank ∙ found fs id order is.rise p (is.whole p within) named

  -- the place of a name's rank is that of the first filter of that name
  pub ranked_first : (d : ℕ) → length order ≡ length fs → is_ranked id fs order n ≡ true → get_or order n d ≡ length (take_while (has_other_id id) fs)
  ranked_first d all here =
      let there : (slice_get order n ≡ Some (get_or order n d)) × (id_at fs (get_or order n d) ≡ id) × (n < length order) = ranked id fs order n d here in
      let within : get_or order n d < length order = has_all (λ p. p < length order) (get_or order n d) order is.within (has_at order n (get_or order n d) there.0) in
      sym (length-front (has_other_id id) fs ∙ first_of id fs (get_or order n d) (omega (arith, within, all)) there.1 (λ p lt named. sym (some_is (get_or order n d) p (sym there.0 ∙ found_there p (omega (arith, lt, all)) named))))

  pub rank_within : is_ranked id fs order n ≡ true → n < length order
  rank_within here = (ranked id fs order n 0 here).2

  -- and where it has no rank, there is none
  pub ranked_none : length order ≡ length fs → is_ranked id fs order n ≡ false → length fs ≡ length (take_while (has_other_id id) fs)
  ranked_none all gap =
      sym (length-front (has_other_id id) fs ∙ none_of id fs (λ p lt named. true≢false (sym (ranked_by id fs order n p (found_there p (omega (arith, lt, all)) named) named) ∙ gap)))

-- ---- filters that are taken in

module _ (fs : List Filter) (order : List ℕ) (is : IsOrder order fs) (n : ℕ) (at : n ≡ length (take_while (comes_behind (id_at fs (length order)) fs) order)) (more : length order < length fs) where
  -- the next filter, in the place of its rank
  pub noted : is_ranked (id_at fs (length order)) fs order n ≡ false → IsOrder (insert order n (length order)) fs
  noted gap =
      let rank : n ≡ front (comes_behind (id_at fs (length order)) fs) order = at ∙ length-front (comes_behind (id_at fs (length order)) fs) order in
      let le : front (comes_behind (id_at fs (length order)) fs) order ≤ length order = front_within (comes_behind (id_at fs (length order)) fs) order in
      let low : n ≤ length order = omega (arith, rank, le) in
      let long : length (insert order n (length order)) ≡ length order + 1 = length-insert order n (length order) low in
      record {
        rise = subst (λ (k : ℕ). RiseBy (id_at fs) (insert order k (length order))) (sym rank) (rise_insert fs (length order) order is.rise (ap (is_ranked (id_at fs (length order)) fs order) (sym rank) ∙ gap));
        within = all_insert (λ p. p < length (insert order n (length order))) order n (length order) low (omega (arith, long)) (all_more (λ p. p < length order) (λ p. p < length (insert order n (length order))) (λ p lt. omega (arith, lt, long)) order is.within);
        whole = λ p lt. elim (nat_lt p (length order)) as (λ b. nat_lt p (length order) ≡ b → HasPlace p (insert order n (length order))) [
          | true ↦ λ e. has_inserted p order n (length order) low (is.whole p (ltb-true p (length order) e))
          | false ↦ λ e. let last : length order ≡ p = omega (arith, ltb-false p (length order) e, lt, long) in subst (λ (k : ℕ). HasPlace k (insert order n (length order))) last (has_new order n (length order) low)
        ] refl;
        first = omega (arith, long, more);
      }

-- what is set leaves the names of the filters as they are
same_names : (new : Filter) (fs : List Filter) (k : ℕ) → k < length fs → id_at (with_filter new fs) k ≡ id_at fs k
same_names new [] k lt = absurd (omega (arith, lt))
same_names new (f ∷ more) zero lt =
    elim (bytes_eq new.id f.id) as (λ b. bytes_eq new.id f.id ≡ b → id_at (cond b (new ∷ more) (f ∷ with_filter new more)) 0 ≡ f.id) [
      | true ↦ λ e. (bytes_decides new.id f.id).0 e
      | false ↦ λ e. refl
    ] refl
same_names new (f ∷ more) (suc k) lt =
    elim (bytes_eq new.id f.id) as (λ b. id_at (cond b (new ∷ more) (f ∷ with_filter new more)) (suc k) ≡ id_at more k) [
      | true ↦ refl
      | false ↦ same_names new more k (omega (arith, lt))
    ]

as_long : (new : Filter) (fs : List Filter) → length fs ≤ length (with_filter new fs)
as_long new [] = omega arith
as_long new (f ∷ more) =
    let rest : length more ≤ length (with_filter new more) = as_long new more in
    elim (bytes_eq new.id f.id) as (λ b. suc (length more) ≤ length (cond b (new ∷ more) (f ∷ with_filter new more))) [ true ↦ omega arith | false ↦ omega (arith, rest) ]

above_renamed : (fs gs : List Filter) (n : ℕ) → ((k : ℕ) → k < n → id_at gs k ≡ id_at fs k) → (low : List ℕ) (all : List ℕ) → AllByRecursion (λ p. p < n) all → AboveBy (id_at fs) low all → AboveBy (id_at gs) low all
above_renamed fs gs n same low [] within above = tt
above_renamed fs gs n same low (q ∷ more) within above = (subst (λ (m : List ℕ). lie low m ≡ Less) (sym (same q within.0)) above.0, above_renamed fs gs n same low more within.1 above.1)

rise_renamed : (fs gs : List Filter) (n : ℕ) → ((k : ℕ) → k < n → id_at gs k ≡ id_at fs k) → (all : List ℕ) → AllByRecursion (λ p. p < n) all → RiseBy (id_at fs) all → RiseBy (id_at gs) all
rise_renamed fs gs n same [] within rise = tt
rise_renamed fs gs n same (q ∷ more) within rise =
    (above_renamed fs gs n same (id_at gs q) more within.1 (subst (λ (m : List ℕ). AboveBy (id_at fs) m more) (sym (same q within.0)) rise.0), rise_renamed fs gs n same more within.1 rise.1)

pub order_with : (order : List ℕ) (new : Filter) (fs : List Filter) → IsOrder order fs → IsOrder order (with_filter new fs)
order_with order new fs is =
    let long : length fs ≤ length (with_filter new fs) = as_long new fs in
    record {
      rise = rise_renamed fs (with_filter new fs) (length order) (λ k lt. same_names new fs k (omega (arith, lt, is.first))) order is.within is.rise;
      within = is.within;
      whole = is.whole;
      first = omega (arith, long, is.first);
    }

-- no place is in the order
pub none_ordered : (fs : List Filter) → IsOrder [] fs
none_ordered fs = record { rise = tt; within = tt; whole = λ p lt. absurd (omega (arith, lt)); first = omega arith }

-- ---- a filter that is taken out

-- a place after another has gone, by recursion
abbrev brought : ℕ → ℕ → ℕ
brought gone zero = zero
brought zero (suc k) = k
brought (suc gone) (suc k) = suc (brought gone k)

brought_over : (gone k : ℕ) → gone < k → brought gone k ≡ k - 1
brought_over gone zero lt = absurd (omega (arith, lt))
brought_over zero (suc k) lt = omega arith
brought_over (suc gone) (suc k) lt =
    let rest : brought gone k ≡ k - 1 = brought_over gone k (omega (arith, lt)) in
    omega (arith, rest, lt)

brought_under : (gone k : ℕ) → k ≤ gone → brought gone k ≡ k
brought_under gone zero le = refl
brought_under zero (suc k) le = absurd (omega (arith, le))
brought_under (suc gone) (suc k) le = ap suc (brought_under gone k (omega (arith, le)))

brought_is : (gone k : ℕ) → lowered gone k ≡ brought gone k
brought_is gone k = elim (nat_lt gone k) as (λ b. nat_lt gone k ≡ b → cond b (k - 1) k ≡ brought gone k) [
  | true ↦ λ e. sym (brought_over gone k (ltb-true gone k e))
  | false ↦ λ e. sym (brought_under gone k (ltb-false gone k e))
] refl

names_left : (fs : List Filter) (q k : ℕ) → q < length fs → (k ≡ q → ⊥) → id_at (remove fs q) (brought q k) ≡ id_at fs k
names_left [] q k lt apart = absurd (omega (arith, lt))
names_left (f ∷ more) zero zero lt apart = absurd (apart refl)
names_left (f ∷ more) zero (suc k) lt apart = refl
names_left (f ∷ more) (suc q) zero lt apart = refl
names_left (f ∷ more) (suc q) (suc k) lt apart = names_left more q k (omega (arith, lt)) (λ e. apart (ap suc e))

unlike : Less ≡ Equal → ⊥
unlike e = cc

all_others : (fs : List Filter) (q : ℕ) (more : List ℕ) → AboveBy (id_at fs) (id_at fs q) more → AllByRecursion (λ p. p ≡ q → ⊥) more
all_others fs q [] above = tt
all_others fs q (p ∷ more) above =
    ((λ e. unlike (sym above.0 ∙ ap (λ (k : ℕ). lie (id_at fs q) (id_at fs k)) e ∙ tied_itself nat_list_cmp_total (id_at fs q))), all_others fs q more above.1)

-- a place that is taken out is not among the others
others : (fs : List Filter) (order : List ℕ) (n q : ℕ) → RiseBy (id_at fs) order → slice_get order n ≡ Some q → AllByRecursion (λ p. p ≡ q → ⊥) (remove order n)
others fs [] n q rise at = cc
others fs (p ∷ more) zero q rise at = subst (λ (k : ℕ). AllByRecursion (λ r. r ≡ k → ⊥) more) (some_is p q at) (all_others fs p more rise.0)
others fs (p ∷ more) (suc n) q rise at =
    let above : lie (id_at fs p) (id_at fs q) ≡ Less = has_all (λ r. lie (id_at fs p) (id_at fs r) ≡ Less) q more rise.0 (has_at more n q at) in
    ((λ e. unlike (sym above ∙ ap (λ (k : ℕ). lie (id_at fs p) (id_at fs k)) (sym e) ∙ tied_itself nat_list_cmp_total (id_at fs p))), others fs more n q rise.1 at)

all_removed : (P : ℕ → Type 0) (all : List ℕ) (n : ℕ) → AllByRecursion P all → AllByRecursion P (remove all n)
all_removed P [] zero holds = tt
all_removed P [] (suc n) holds = tt
all_removed P (p ∷ more) zero holds = holds.1
all_removed P (p ∷ more) (suc n) holds = (holds.0, all_removed P more n holds.1)

rise_removed : (fs : List Filter) (all : List ℕ) (n : ℕ) → RiseBy (id_at fs) all → RiseBy (id_at fs) (remove all n)
rise_removed fs [] zero rise = tt
rise_removed fs [] (suc n) rise = tt
rise_removed fs (p ∷ more) zero rise = rise.1
rise_removed fs (p ∷ more) (suc n) rise = (all_removed (λ r. lie (id_at fs p) (id_at fs r) ≡ Less) more n rise.0, rise_removed fs more n rise.1)

has_removed : (k : ℕ) (all : List ℕ) (n q : ℕ) → slice_get all n ≡ Some q → (k ≡ q → ⊥) → HasPlace k all → HasPlace k (remove all n)
has_removed k [] n q at other h = absurd h
has_removed k (p ∷ more) zero q at other (inl e) = absurd (other (sym e ∙ some_is p q at))
has_removed k (p ∷ more) zero q at other (inr h) = h
has_removed k (p ∷ more) (suc n) q at other (inl e) = inl e
has_removed k (p ∷ more) (suc n) q at other (inr h) = inr (has_removed k more n q at other h)

has_lowered : (q k : ℕ) (all : List ℕ) → HasPlace k all → HasPlace (lowered q k) (map (lowered q) all)
has_lowered q k [] h = absurd h
has_lowered q k (p ∷ more) (inl e) = inl (ap (lowered q) e)
has_lowered q k (p ∷ more) (inr h) = inr (has_lowered q k more h)

lowered_within : (q p m : ℕ) → q < m + 1 → p < m + 1 → (p ≡ q → ⊥) → lowered q p < m
lowered_within q p m low lt other = elim (nat_lt q p) as (λ b. nat_lt q p ≡ b → cond b (p - 1) p < m) [
  | true ↦ λ e. omega (arith, ltb-true q p e, lt)
  | false ↦ λ e. elim (nat_lt p q) as (λ b. nat_lt p q ≡ b → p < m) [
    | true ↦ λ less. omega (arith, ltb-true p q less, low)
    | false ↦ λ no. absurd (other (omega (arith, ltb-false q p e, ltb-false p q no)))
  ] refl
] refl

all_lowered : (q m : ℕ) → q < m + 1 → (all : List ℕ) → AllByRecursion (λ p. p < m + 1) all → AllByRecursion (λ p. p ≡ q → ⊥) all → AllByRecursion (λ p. p < m) (map (lowered q) all)
all_lowered q m low [] within other = tt
all_lowered q m low (p ∷ more) within other = (lowered_within q p m low within.0 other.0, all_lowered q m low more within.1 other.1)

-- each place has come down from one that is another than the one that is gone
has_after : (q p : ℕ) (all : List ℕ) → ((k : ℕ) → k < p + 2 → (k ≡ q → ⊥) → HasPlace k all) → HasPlace p (map (lowered q) all)
has_after q p all has = elim (nat_lt p q) as (λ b. nat_lt p q ≡ b → HasPlace p (map (lowered q) all)) [
  | true ↦ λ e.
      let same : lowered q p ≡ p = brought_is q p ∙ brought_under q p (omega (arith, ltb-true p q e)) in
      subst (λ (k : ℕ). HasPlace k (map (lowered q) all)) same (has_lowered q p all (has p (omega arith) (λ same. absurd (omega (arith, ltb-true p q e, same)))))
  | false ↦ λ e.
      let down : brought q (p + 1) ≡ (p + 1) - 1 = brought_over q (p + 1) (omega (arith, ltb-false p q e)) in
      let same : lowered q (p + 1) ≡ p = brought_is q (p + 1) ∙ down ∙ omega arith in
      subst (λ (k : ℕ). HasPlace k (map (lowered q) all)) same (has_lowered q (p + 1) all (has (p + 1) (omega arith) (λ is. absurd (omega (arith, ltb-false p q e, is)))))
] refl

module _ (fs : List Filter) (q : ℕ) (lt : q < length fs) where
  names_lowered : (k : ℕ) → (k ≡ q → ⊥) → id_at (remove fs q) (lowered q k) ≡ id_at fs k
  names_lowered k other = ap (id_at (remove fs q)) (brought_is q k) ∙ names_left fs q k lt other

  above_lowered : (low : List ℕ) (all : List ℕ) → AllByRecursion (λ p. p ≡ q → ⊥) all → AboveBy (id_at fs) low all → AboveBy (id_at (remove fs q)) low (map (lowered q) all)
  above_lowered low [] other above = tt
  above_lowered low (p ∷ more) other above = (subst (λ (m : List ℕ). lie low m ≡ Less) (sym (names_lowered p other.0)) above.0, above_lowered low more other.1 above.1)

  rise_lowered : (all : List ℕ) → AllByRecursion (λ p. p ≡ q → ⊥) all → RiseBy (id_at fs) all → RiseBy (id_at (remove fs q)) (map (lowered q) all)
  rise_lowered [] other rise = tt
  rise_lowered (p ∷ more) other rise =
      (above_lowered (id_at (remove fs q) (lowered q p)) more other.1 (subst (λ (m : List ℕ). AboveBy (id_at fs) m more) (sym (names_lowered p other.0)) rise.0), rise_lowered more other.1 rise.1)

all_other : (id : List ℕ) (fs : List Filter) → ((p : ℕ) → p < length fs → id_at fs p ≡ id → ⊥) → fs ≡ filter (has_other_id id) fs
all_other id [] none = refl
all_other id (f ∷ more) none =
    elim (bytes_eq id f.id) as (λ b. bytes_eq id f.id ≡ b → f ∷ more ≡ cond (not b) (f ∷ filter (has_other_id id) more) (filter (has_other_id id) more)) [
      | true ↦ λ e. absurd (none 0 (omega arith) (sym ((bytes_decides id f.id).0 e)))
      | false ↦ λ e. ap (λ (t : List Filter). f ∷ t) (all_other id more (λ p within named. none (suc p) (omega (arith, within)) named))
    ] refl

only_one : (id : List ℕ) (fs : List Filter) (q : ℕ) → q < length fs → id_at fs q ≡ id → ((p : ℕ) → p < length fs → id_at fs p ≡ id → p ≡ q) → remove fs q ≡ filter (has_other_id id) fs
only_one id [] q lt is alone = absurd (omega (arith, lt))
only_one id (f ∷ more) zero lt is alone =
    all_other id more (λ p within named. let same : suc p ≡ zero = alone (suc p) (omega (arith, within)) named in absurd (omega (arith, same)))
    ∙ sym (ap {B = List Filter} (λ b. cond (not b) (f ∷ filter (has_other_id id) more) (filter (has_other_id id) more)) ((bytes_decides id f.id).1 (sym is)))
only_one id (f ∷ more) (suc q) lt is alone =
    elim (bytes_eq id f.id) as (λ b. bytes_eq id f.id ≡ b → f ∷ remove more q ≡ cond (not b) (f ∷ filter (has_other_id id) more) (filter (has_other_id id) more)) [
      | true ↦ λ e. absurd (omega (arith, alone 0 (omega arith) (sym ((bytes_decides id f.id).0 e))))
      | false ↦ λ e. ap (λ (t : List Filter). f ∷ t) (only_one id more q (omega (arith, lt)) is (λ p within named. let same : suc p ≡ suc q = alone (suc p) (omega (arith, within)) named in omega (arith, same)))
    ] refl

module _ (id : List ℕ) (fs : List Filter) (order : List ℕ) (is : IsOrder order fs) (n : ℕ) (at : n ≡ length (take_while (comes_behind id fs) order)) (all : length order ≡ length fs) where
  -- where a name has no rank, no filter has it
  pub none_gone : is_ranked id fs order n ≡ false → fs ≡ filter (has_other_id id) fs
  none_gone gap = all_other id fs (λ p lt named. true≢false (sym (ranked_by id fs order n p (found_there id fs order is n at p (omega (arith, lt, all)) named) named) ∙ gap))

  module _ (here : is_ranked id fs order n ≡ true) (q : ℕ) (place : q ≡ get_or order n q) where
    there : slice_get order n ≡ Some q
    there = (ranked id fs order n q here).0 ∙ ap Some (sym place)

    named_so : id_at fs q ≡ id
    named_so = ap (id_at fs) place ∙ (ranked id fs order n q here).1

    pub gone_within : q < length fs
    gone_within = let within : q < length order = has_all (λ p. p < length order) q order is.within (has_at order n q there) in omega (arith, within, all)

    -- the filter of that rank is taken out
    pub filter_gone : remove fs q ≡ filter (has_other_id id) fs
    filter_gone = only_one id fs q gone_within named_so (λ p lt named. sym (some_is q p (sym there ∙ found_there id fs order is n at p (omega (arith, lt, all)) named)))

    -- and its place from the order
    pub order_left : IsOrder (map (lowered q) (remove order n)) (remove fs q)
    order_left =
        let lt : q < length fs = gone_within in
        let low : n < length order = (ranked id fs order n q here).2 in
        let short : length (remove order n) + 1 ≡ length order = length-remove order n low in
        let long : length (map (lowered q) (remove order n)) ≡ length (remove order n) = length-map (remove order n) (lowered q) in
        let fewer : length (remove fs q) + 1 ≡ length fs = length-remove fs q lt in
        let other : AllByRecursion (λ p. p ≡ q → ⊥) (remove order n) = others fs order n q is.rise there in
        record {
          rise = rise_lowered fs q lt (remove order n) other (rise_removed fs order n is.rise);
          within = all_lowered q (length (map (lowered q) (remove order n))) (omega (arith, lt, short, long, all)) (remove order n) (all_more (λ p. p < length order) (λ p. p < length (map (lowered q) (remove order n)) + 1) (λ p le. omega (arith, le, short, long)) (remove order n) (all_removed (λ p. p < length order) order n is.within)) other;
          whole = λ p below. has_after q p (remove order n) (λ k upto apart'. has_removed k order n q there apart' (is.whole k (omega (arith, upto, below, short, long))));
          first = omega (arith, short, long, fewer, all);
        }
