-- Aliases whose local parts rise: their places by halves, and lists that go on rising.
use Rattle.std.proofs.Common.{◌≡◌, ℕ, zero, suc, ◌+◌, ◌<◌, ◌≤◌, Bool, true, false, not, cond, List, [], ◌∷◌, refl, sym, ap, ◌∙◌, subst, arith, true≢false, remove, length, get_or, take_while, filter, bytes_eq, Ordering, Less, Equal, Greater, is_eq, is_gt, nat_cmp}
use Rattle.std.specs.Cmp.Lexicographic.{slice_cmp, nat_list_cmp_total, bytes_decides}
use Rattle.std.specs.List.{AllByRecursion, AllAdjacentBelow}
use Rattle.std.specs.List.Sorted.{IsPartitionedBy, IsPartitionPoint}
use Rattle.std.specs.Ordering.{ordering_reverse}
use Rattle.std.specs.FinMap.Entries.{by_order}
use Rattle.std.proofs.lemmas.Cmp.{tied_itself}
use Rattle.std.proofs.lemmas.Map.Lookups.{exact_bytes}
use Rattle.verb_core.specs.declared.conf.Alias.{Alias}
use Rattle.verb_core.specs.declared.conf.Conf.{Conf}
use Rattle.verb_core.specs.Step.{with_alias}
use Rattle.mail_rows.specs.declared.conf_change.ConfChange.{ConfChange}
use Rattle.mail_rows.specs.declared.conf_change.ConfChange.TheVariants.{SetAlias, DropAlias, SetFilter, DropFilter, Nothing}
use Rattle.mail_rows.specs.Confs.{RiseBy, Rises, changed, stands_before, stands_here}
use Rattle.mail_rows.proofs.ConfLaws.{front, length-front}

-- how two local parts lie
abbrev pub lie : List ℕ → List ℕ → Ordering
lie = slice_cmp nat_cmp

pub turned : (a b : List ℕ) (o : Ordering) → lie a b ≡ o → lie b a ≡ ordering_reverse o
turned a b o e = nat_list_cmp_total.antisymm b a ∙ ap ordering_reverse e

greater_of : (o : Ordering) → true ≡ is_gt o → o ≡ Greater
greater_of Less h = absurd (true≢false h)
greater_of Equal h = absurd (true≢false h)
greater_of Greater h = refl

-- the one that stands before another lies below it
below_of : (a b : List ℕ) → true ≡ is_gt (lie b a) → lie a b ≡ Less
below_of a b h = turned b a Greater (greater_of (lie b a) h)

-- each of these lies above a name
abbrev pub AboveBy : {X : Type 0} → (X → List ℕ) → List ℕ → List X → Type 0
AboveBy name low = AllByRecursion (λ x. lie low (name x) ≡ Less)

abbrev Above : List ℕ → List Alias → Type 0
Above = AboveBy (λ (a : Alias). a.local)

module _ {X : Type 0} (name : X → List ℕ) where
  pub still_above : (a b : List ℕ) (more : List X) → lie a b ≡ Less → AboveBy name b more → AboveBy name a more
  still_above a b [] less all = tt
  still_above a b (x ∷ more) less all = (nat_list_cmp_total.trans a b (name x) less all.0, still_above a b more less all.1)

  above_at : (a : List ℕ) (more : List X) (j : ℕ) (d : X) → j < length more → AboveBy name a more → lie a (name (get_or more j d)) ≡ Less
  above_at a [] j d lt all = absurd (omega (arith, lt))
  above_at a (x ∷ more) zero d lt all = all.0
  above_at a (x ∷ more) (suc j) d lt all = above_at a more j d (omega (arith, lt)) all.1

above_more : (a b : List ℕ) (more : List Alias) → lie a b ≡ Less → Above b more → Above a more
above_more = still_above (λ (x : Alias). x.local)

-- ---- aliases of which each stands before the next

one_later : (k : ℕ) → suc k + 1 ≡ suc (k + 1)
one_later k = omega arith

pub rises : (all : List Alias) → AllAdjacentBelow (λ (a b : Alias). true ≡ stands_before b.local a) all (length all) → Rises all
rises [] next = tt
rises (a ∷ []) next = (tt, tt)
rises (a ∷ b ∷ more) next =
    let rest : Rises (b ∷ more) = rises (b ∷ more) (λ k d lt. subst (λ (n : ℕ). true ≡ stands_before (get_or (a ∷ b ∷ more) n d).local (get_or (b ∷ more) k d)) (one_later k) (next (suc k) d (omega (arith, lt)))) in
    let less : lie a.local b.local ≡ Less = below_of a.local b.local (next 0 a (omega arith)) in
    ((less, above_more a.local b.local more less rest.0), rest)

-- ---- places by halves

pub parted : {X : Type 0} (name : X → List ℕ) (id : List ℕ) (all : List X) → RiseBy name all → IsPartitionedBy (λ x. is_gt (lie id (name x))) all
parted name id [] rise i j d le lt before = absurd (omega (arith, lt))
parted name id (x ∷ more) rise zero zero d le lt before = before
parted name id (x ∷ more) rise zero (suc j) d le lt before =
    let less : lie (name (get_or more j d)) id ≡ Less = turned id (name (get_or more j d)) Greater (greater_of (lie id (name (get_or more j d))) (sym before)) in
    ap is_gt (turned (name x) id Less (nat_list_cmp_total.trans (name x) (name (get_or more j d)) id (above_at name (name x) more j d (omega (arith, lt)) rise.0) less))
parted name id (x ∷ more) rise (suc i) zero d le lt before = absurd (omega (arith, le))
parted name id (x ∷ more) rise (suc i) (suc j) d le lt before = parted name id more rise.1 i j d (omega (arith, le)) (omega (arith, lt)) before

pub counted : {X : Type 0} (p : X → Bool) (all : List X) (n : ℕ) → n ≤ length all → IsPartitionPoint (λ x. p x ≡ true) (λ x. p x ≡ false) all n → n ≡ front p all
counted p [] zero le at = refl
counted p [] (suc n) le at = absurd (omega (arith, le))
counted p (x ∷ more) zero le at = sym (ap {B = ℕ} (λ b. cond b (suc (front p more)) 0) (at.1 0 x (omega arith) (omega arith)))
counted p (x ∷ more) (suc n) le at =
    ap suc (counted p more n (omega (arith, le)) ((λ k d low high. at.0 (suc k) d (omega arith) (omega (arith, high))), (λ k d low high. at.1 (suc k) d (omega (arith, low)) (omega (arith, high)))))
    ∙ sym (ap {B = ℕ} (λ b. cond b (suc (front p more)) 0) (at.0 0 x (omega arith) (omega arith)))

pub place_counted : {X : Type 0} (p : X → Bool) (all : List X) (n : ℕ) → n ≤ length all → IsPartitionPoint (λ x. p x ≡ true) (λ x. p x ≡ false) all n → n ≡ length (take_while p all)
place_counted p all n le at = counted p all n le at ∙ sym (length-front p all)

-- ---- what is set or dropped goes on rising

above_with : (a : List ℕ) (new : Alias) (more : List Alias) → lie a new.local ≡ Less → Above a more → Above a (with_alias new more)
above_with a new [] less all = (less, tt)
above_with a new (b ∷ more) less all = elim (lie new.local b.local) as (λ o. Above a (by_order o (new ∷ b ∷ more) (new ∷ more) (b ∷ with_alias new more))) [
  | Less ↦ (less, all)
  | Equal ↦ (less, all.1)
  | Greater ↦ (all.0, above_with a new more less all.1)
]

pub rises_with : (new : Alias) (all : List Alias) → Rises all → Rises (with_alias new all)
rises_with new [] rise = (tt, tt)
rises_with new (a ∷ more) rise = elim (lie new.local a.local) as (λ o. lie new.local a.local ≡ o → Rises (by_order o (new ∷ a ∷ more) (new ∷ more) (a ∷ with_alias new more))) [
  | Less ↦ λ e. ((e, above_more new.local a.local more e rise.0), rise)
  | Equal ↦ λ e. (subst (λ (local : List ℕ). Above local more) (sym (exact_bytes new.local a.local e)) rise.0, rise.1)
  | Greater ↦ λ e. (above_with a.local new more (turned new.local a.local Greater e) rise.0, rises_with new more rise.1)
] refl

above_filter : (p : Alias → Bool) (a : List ℕ) (all : List Alias) → Above a all → Above a (filter p all)
above_filter p a [] h = tt
above_filter p a (b ∷ more) h = elim (p b) as (λ t. Above a (cond t (b ∷ filter p more) (filter p more))) [ true ↦ (h.0, above_filter p a more h.1) | false ↦ above_filter p a more h.1 ]

pub rises_filter : (p : Alias → Bool) (all : List Alias) → Rises all → Rises (filter p all)
rises_filter p [] rise = tt
rises_filter p (a ∷ more) rise = elim (p a) as (λ t. Rises (cond t (a ∷ filter p more) (filter p more))) [ true ↦ (above_filter p a.local more rise.0, rises_filter p more rise.1) | false ↦ rises_filter p more rise.1 ]

pub rises_changed : (change : ConfChange) (conf : Conf) → Rises conf.aliases → Rises (changed change conf).aliases
rises_changed (SetAlias new) conf rise = rises_with new conf.aliases rise
rises_changed (DropAlias local) conf rise = rises_filter (λ a. not (bytes_eq local a.local)) conf.aliases rise
rises_changed (SetFilter f) conf rise = rise
rises_changed (DropFilter id) conf rise = rise
rises_changed Nothing conf rise = rise

-- ---- the alias of a local part, taken out

other : (local : List ℕ) (a : Alias) → (lie local a.local ≡ Equal → ⊥) → bytes_eq local a.local ≡ false
other local a apart = elim (bytes_eq local a.local) as (λ b. bytes_eq local a.local ≡ b → b ≡ false) [
  | true ↦ λ e. absurd (apart (subst (λ (l : List ℕ). lie local l ≡ Equal) ((bytes_decides local a.local).0 e) (tied_itself nat_list_cmp_total local)))
  | false ↦ λ e. refl
] refl

same : (local : List ℕ) (a : Alias) → lie local a.local ≡ Equal → bytes_eq local a.local ≡ true
same local a e = (bytes_decides local a.local).1 (exact_bytes local a.local e)

differs : (a b : List ℕ) (o : Ordering) → (o ≡ Equal → ⊥) → lie a b ≡ o → lie a b ≡ Equal → ⊥
differs a b o apart is e = apart (sym is ∙ e)

all_stay : (local : List ℕ) (all : List Alias) → Above local all → filter (λ a. not (bytes_eq local a.local)) all ≡ all
all_stay local [] above = refl
all_stay local (a ∷ more) above =
    ap (λ b. cond (not b) (a ∷ filter (λ a. not (bytes_eq local a.local)) more) (filter (λ a. not (bytes_eq local a.local)) more)) (other local a (differs local a.local Less (λ e. cc) above.0))
    ∙ ap (λ (t : List Alias). a ∷ t) (all_stay local more above.1)

module _ (local : List ℕ) where
  abbrev kept : List Alias → List Alias
  kept = filter (λ a. not (bytes_eq local a.local))

  gone : (all : List Alias) → Rises all → stands_here local (front (stands_before local) all) all ≡ true → remove all (front (stands_before local) all) ≡ kept all
  gone [] rise h = cc
  gone (a ∷ more) rise h = elim (lie local a.local) as (λ o. lie local a.local ≡ o → stands_here local (cond (is_gt o) (suc (front (stands_before local) more)) 0) (a ∷ more) ≡ true → remove (a ∷ more) (cond (is_gt o) (suc (front (stands_before local) more)) 0) ≡ kept (a ∷ more)) [
    | Less ↦ λ e here. absurd (true≢false (sym here ∙ ap is_eq e))
    | Equal ↦ λ e here. sym (ap (λ b. cond (not b) (a ∷ kept more) (kept more)) (same local a e) ∙ all_stay local more (subst (λ (l : List ℕ). Above l more) (sym (exact_bytes local a.local e)) rise.0))
    | Greater ↦ λ e here. ap (λ (t : List Alias). a ∷ t) (gone more rise.1 here) ∙ sym (ap (λ b. cond (not b) (a ∷ kept more) (kept more)) (other local a (differs local a.local Greater (λ q. cc) e)))
  ] refl h

  none : (all : List Alias) → Rises all → stands_here local (front (stands_before local) all) all ≡ false → all ≡ kept all
  none [] rise h = refl
  none (a ∷ more) rise h = elim (lie local a.local) as (λ o. lie local a.local ≡ o → stands_here local (cond (is_gt o) (suc (front (stands_before local) more)) 0) (a ∷ more) ≡ false → a ∷ more ≡ kept (a ∷ more)) [
    | Less ↦ λ e here. sym (ap (λ b. cond (not b) (a ∷ kept more) (kept more)) (other local a (differs local a.local Less (λ q. cc) e)) ∙ ap (λ (t : List Alias). a ∷ t) (all_stay local more (above_more local a.local more e rise.0)))
    | Equal ↦ λ e here. absurd (true≢false (sym (ap is_eq e) ∙ here))
    | Greater ↦ λ e here. ap (λ (t : List Alias). a ∷ t) (none more rise.1 here) ∙ sym (ap (λ b. cond (not b) (a ∷ kept more) (kept more)) (other local a (differs local a.local Greater (λ q. cc) e)))
  ] refl h

  module _ (all : List Alias) (rise : Rises all) (n : ℕ) (is : n ≡ length (take_while (stands_before local) all)) where
    at_front : n ≡ front (stands_before local) all
    at_front = is ∙ length-front (stands_before local) all

    -- the one that stands there is taken out
    pub alias_gone : stands_here local n all ≡ true → remove all n ≡ kept all
    alias_gone here = ap (remove all) at_front ∙ gone all rise (ap (λ (k : ℕ). stands_here local k all) (sym at_front) ∙ here)

    -- or there is none
    pub none_gone : stands_here local n all ≡ false → all ≡ kept all
    none_gone gap = none all rise (ap (λ (k : ℕ). stands_here local k all) (sym at_front) ∙ gap)
