-- The numbers of timelines.
use Rattle.std.proofs.Common.{◌≡◌, ◌≢◌, ℕ, zero, suc, ◌+◌, ◌<◌, ◌≤◌, ◌==◌, Bool, true, false, not, cond, List, [], ◌∷◌, ◌++◌, length, get_or, take, filter, Option, None, Some, refl, ap, sym, subst, ◌∙◌, arith}
use Rattle.std.specs.List.{AllByRecursion}
use Rattle.std.proofs.lemmas.Bool.Decides.{nat_tests}
use Rattle.std.proofs.lemmas.List.Elements.{All-from_recursion}
use Rattle.verb_core.specs.declared.conf.House.{House}
use Rattle.verb_core.specs.declared.item.Item.{Item}
use Rattle.verb_core.specs.Items.{IsWellFormed, IsTimeline, NumbersApart}
use Rattle.mail_desk.specs.Timeline.{item_of}

-- ---- what holds of all elements

-- of one more
pub all_on : {X : Type 0} (P : X → Type 0) (xs : List X) (x : X) → AllByRecursion P xs → P x → AllByRecursion P (xs ++ x ∷ [])
all_on P [] x all here = (here, tt)
all_on P (y ∷ xs) x all here = (all.0, all_on P xs x all.1 here)

pub all_joined : {X : Type 0} (P : X → Type 0) (xs ys : List X) → AllByRecursion P xs → AllByRecursion P ys → AllByRecursion P (xs ++ ys)
all_joined P [] ys one other = other
all_joined P (x ∷ xs) ys one other = (one.0, all_joined P xs ys one.1 other)

pub all_weaker : {X : Type 0} (P Q : X → Type 0) → ((x : X) → P x → Q x) → (xs : List X) → AllByRecursion P xs → AllByRecursion Q xs
all_weaker P Q so [] all = tt
all_weaker P Q so (x ∷ xs) all = (so x all.0, all_weaker P Q so xs all.1)

all_filter : {X : Type 0} (P : X → Type 0) (p : X → Bool) (xs : List X) → AllByRecursion P xs → AllByRecursion P (filter p xs)
all_filter P p [] all = tt
all_filter P p (x ∷ xs) all =
    elim (p x) as (λ b. AllByRecursion P (cond b (x ∷ filter p xs) (filter p xs))) [ true ↦ (all.0, all_filter P p xs all.1) | false ↦ all_filter P p xs all.1 ]

-- ---- the next number

-- it is another than all before
pub others_below : (next : ℕ) (t : List Item) (i : Item) → AllByRecursion (λ (j : Item). j.number < next) t → i.number ≡ next → AllByRecursion (λ (j : Item). i.number ≢ j.number) t
others_below next [] i below is = tt
others_below next (j ∷ t) i below is =
    let first : j.number < next = below.0 in
    ((λ e. let wrong : i.number ≡ j.number = e in absurd (omega arith)), others_below next t i below.1 is)

-- and above all before
pub lower : (next : ℕ) (t : List Item) (i : Item) → AllByRecursion (λ (j : Item). j.number < next) t → i.number ≡ next → AllByRecursion (λ (j : Item). j.number < i.number) t
lower next t i below is = subst (λ (n : ℕ). AllByRecursion (λ (j : Item). j.number < n) t) (sym is) below

-- an item of the next number goes at the end
pub apart_on : (t : List Item) (i : Item) → NumbersApart t → AllByRecursion (λ (j : Item). i.number ≢ j.number) t → NumbersApart (t ++ i ∷ [])
apart_on [] i apart others = (tt, tt)
apart_on (j ∷ t) i apart others = (all_on (λ (k : Item). j.number ≢ k.number) t i apart.0 (λ e. others.0 (sym e)), apart_on t i apart.1 others.1)

pub below_on : (next : ℕ) (t : List Item) (i : Item) → AllByRecursion (λ (j : Item). j.number < next) t → i.number ≡ next → AllByRecursion (λ (j : Item). j.number < next + 1) (t ++ i ∷ [])
below_on next t i below is =
    all_on (λ (j : Item). j.number < next + 1) t i
    (all_weaker (λ (j : Item). j.number < next) (λ (j : Item). j.number < next + 1) (λ j less. omega arith) t below) (omega arith)

-- ---- how many there are

abbrev without : ℕ → List Item → List Item
without n t = filter (λ (j : Item). not (j.number == n)) t

pub unequal : (a n : ℕ) → a ≢ n → (a == n) ≡ false
unequal a n apart = grind (arith, nat_tests)

all_stay : (n : ℕ) (i : Item) (t : List Item) → i.number ≡ n → AllByRecursion (λ (j : Item). i.number ≢ j.number) t → without n t ≡ t
all_stay n i [] is others = refl
all_stay n i (j ∷ t) is others =
    rw (unequal j.number n (λ e. others.0 (is ∙ sym e))) (ap (λ (s : List Item). j ∷ s) (all_stay n i t is others.1))

one_less : (n : ℕ) (t : List Item) → NumbersApart t → length t ≤ suc (length (without n t))
one_less n [] apart = omega arith
one_less n (i ∷ t) apart =
    elim (i.number == n) as (λ b. (i.number == n) ≡ b → suc (length t) ≤ suc (length (cond (not b) (i ∷ without n t) (without n t)))) [
      | true ↦ λ e.
          let is : i.number ≡ n = grind (arith, nat_tests) in
          let same : length (without n t) ≡ length t = ap (λ (s : List Item). length s) (all_stay n i t is apart.0) in
          omega arith
      | false ↦ λ e. let rest = one_less n t apart.1 in omega arith
    ] refl

apart_without : (n : ℕ) (t : List Item) → NumbersApart t → NumbersApart (without n t)
apart_without n [] apart = tt
apart_without n (i ∷ t) apart =
    elim (i.number == n) as (λ b. NumbersApart (cond (not b) (i ∷ without n t) (without n t))) [
      | true ↦ apart_without n t apart.1
      | false ↦ (all_filter (λ (j : Item). i.number ≢ j.number) (λ (j : Item). not (j.number == n)) t apart.0, apart_without n t apart.1)
    ]

below_without : (n : ℕ) (t : List Item) → AllByRecursion (λ (j : Item). j.number < suc n) t → AllByRecursion (λ (j : Item). j.number < n) (without n t)
below_without n [] below = tt
below_without n (i ∷ t) below =
    let first : i.number < suc n = below.0 in
    elim (i.number == n) as (λ b. (i.number == n) ≡ b → AllByRecursion (λ (j : Item). j.number < n) (cond (not b) (i ∷ without n t) (without n t))) [
      | true ↦ λ e. below_without n t below.1
      | false ↦ λ e. (let less : i.number < n = grind (arith, nat_tests) in less, below_without n t below.1)
    ] refl

-- there are no more items than numbers
pub few : (next : ℕ) (t : List Item) → NumbersApart t → AllByRecursion (λ (j : Item). j.number < next) t → length t ≤ next
few zero [] apart below = omega arith
few zero (i ∷ t) apart below = let first : i.number < zero = below.0 in absurd (omega arith)
few (suc n) t apart below =
    let rest = few n (without n t) (apart_without n t apart) (below_without n t below) in
    let less = one_less n t apart in
    omega arith

-- ---- the item of a number

-- it is the one at the place that has it
pub item_at : (t : List Item) → NumbersApart t → (place : ℕ) (d : Item) (number : ℕ) → place < length t → (get_or t place d).number ≡ number → item_of t number ≡ Some (get_or t place d)
item_at [] apart place d number within is = absurd (omega arith)
item_at (i ∷ t) apart zero d number within is = let here : (i.number == number) ≡ true = grind (arith, nat_tests) in rw here refl
item_at (i ∷ t) apart (suc place) d number within is =
    let inside : place < length t = omega arith in
    let other : (i.number == number) ≡ false = unequal i.number number (λ e. All-from_recursion (λ (j : Item). i.number ≢ j.number) t apart.0 place d inside (e ∙ sym is)) in
    rw other (item_at t apart.1 place d number inside is)

-- and there is none where no item has it
pub none_at : (t : List Item) (number : ℕ) → ((place : ℕ) (d : Item) → place < length t → (get_or t place d).number ≢ number) → item_of t number ≡ None
none_at [] number none = refl
none_at (i ∷ t) number none = rw (unequal i.number number (none 0 i (omega arith))) (none_at t number (λ place d within. none (suc place) d (omega arith)))

-- ---- among the first so many items

all_front : {X : Type 0} (P : X → Type 0) (xs : List X) (count : ℕ) → AllByRecursion P xs → AllByRecursion P (take count xs)
all_front P [] zero all = tt
all_front P [] (suc count) all = tt
all_front P (x ∷ xs) zero all = tt
all_front P (x ∷ xs) (suc count) all = (all.0, all_front P xs count all.1)

pub apart_front : (t : List Item) (count : ℕ) → NumbersApart t → NumbersApart (take count t)
apart_front [] zero apart = tt
apart_front [] (suc count) apart = tt
apart_front (i ∷ t) zero apart = tt
apart_front (i ∷ t) (suc count) apart = (all_front (λ (j : Item). i.number ≢ j.number) t count apart.0, apart_front t count apart.1)

-- an item of a number is the same there
pub front_at : (t : List Item) → NumbersApart t → (place : ℕ) (d : Item) (number count : ℕ) → place < length t → (get_or t place d).number ≡ number → place < count → item_of (take count t) number ≡ Some (get_or t place d)
front_at [] apart place d number count within is less = absurd (omega arith)
front_at (i ∷ t) apart place d number zero within is less = absurd (omega arith)
front_at (i ∷ t) apart zero d number (suc count) within is less = let here : (i.number == number) ≡ true = grind (arith, nat_tests) in rw here refl
front_at (i ∷ t) apart (suc place) d number (suc count) within is less =
    let inside : place < length t = omega arith in
    let other : (i.number == number) ≡ false = unequal i.number number (λ e. All-from_recursion (λ (j : Item). i.number ≢ j.number) t apart.0 place d inside (e ∙ sym is)) in
    rw other (front_at t apart.1 place d number count inside is (omega arith))

-- and none, where it stands behind them
pub front_none : (t : List Item) → NumbersApart t → (place number count : ℕ) → place < length t → ((d : Item) → (get_or t place d).number ≡ number) → count ≤ place → item_of (take count t) number ≡ None
front_none [] apart place number count within is more = absurd (omega arith)
front_none (i ∷ t) apart place number zero within is more = refl
front_none (i ∷ t) apart zero number (suc count) within is more = absurd (omega arith)
front_none (i ∷ t) apart (suc place) number (suc count) within is more =
    let inside : place < length t = omega arith in
    let other : (i.number == number) ≡ false = unequal i.number number (λ e. All-from_recursion (λ (j : Item). i.number ≢ j.number) t apart.0 place i inside (e ∙ sym (is i))) in
    rw other (front_none t apart.1 place number count inside is (omega arith))

-- and none, where there is none at all
pub none_front : (t : List Item) (number count : ℕ) → item_of t number ≡ None → item_of (take count t) number ≡ None
none_front [] number zero none = refl
none_front [] number (suc count) none = refl
none_front (i ∷ t) number zero none = refl
none_front (i ∷ t) number (suc count) none =
    elim (i.number == number) as (λ b. cond b (Some i) (item_of t number) ≡ None → cond b (Some i) (item_of (take count t) number) ≡ None) [
      | true ↦ λ e. absurd (let wrong : ◌≡◌ {A = Option Item} (Some i) None = e in cc)
      | false ↦ λ e. none_front t number count e
    ] none

-- ---- timelines

pub is_timeline : (house : House) (t : List Item) → AllByRecursion (IsWellFormed house) t → NumbersApart t → IsTimeline house t
is_timeline house t formed apart = record { formed = formed; apart = apart }
