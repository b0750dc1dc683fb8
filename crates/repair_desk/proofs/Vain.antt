-- Asked numbers that do nothing.
use Rattle.std.proofs.Common.{◌≡◌, ℕ, ◌==◌, Bool, cond, true, false, not, ◌&&◌, ◌||◌, refl, sym, ◌∙◌, ap, ap₂, List, [], ◌∷◌, filter, map, is_some, eqb-true}
use Rattle.std.specs.List.{list_any}
use Rattle.verb_core.specs.declared.item.Item.{Item}
use Rattle.verb_bytes.specs.declared.journal.CycleAsk.{CycleAsk}
use Rattle.repair_desk.specs.Repairs.{dropped, is_among, is_dropped, is_replaced, numbers_of, replaced, takes_text, text_asked}
use Rattle.repair_desk.proofs.Looking.{is_asked}

-- an item that passes a test has the number: of all items, if the test is that of the number
met_by : (p : Item → Bool) (q : Item → Bool) (n : ℕ) → ((i : Item) → (n == i.number) ≡ true → p i ≡ q i) → (later : List Item)
    → is_among (numbers_of (filter p later)) n ≡ list_any (λ (i : Item). (n == i.number) && q i) later
met_by p q n h [] = refl
met_by p q n h (i ∷ later) = elim (p i) as (λ b. p i ≡ b → is_among (numbers_of (cond b (i ∷ filter p later) (filter p later))) n ≡ ((n == i.number) && q i || list_any (λ (j : Item). (n == j.number) && q j) later)) [
  | true ↦ λ e. ap₂ (λ x y. x || y) (yes (n == i.number) refl e) (met_by p q n h later)
  | false ↦ λ e. met_by p q n h later ∙ ap (λ b. b || list_any (λ (j : Item). (n == j.number) && q j) later) (no (n == i.number) refl e)
] refl
  where
    yes : (b : Bool) → (n == i.number) ≡ b → p i ≡ true → b ≡ (b && q i)
    yes true here e = sym e ∙ h i here
    yes false here e = refl

    no : (b : Bool) → (n == i.number) ≡ b → p i ≡ false → false ≡ (b && q i)
    no true here e = sym e ∙ h i here
    no false here e = refl

all_of : (n : ℕ) (later : List Item) → list_any (λ (i : Item). (n == i.number) && true) later ≡ is_among (numbers_of later) n
all_of n [] = refl
all_of n (i ∷ later) = ap₂ (λ x y. x || y) (alone (n == i.number)) (all_of n later)
  where
    alone : (b : Bool) → (b && true) ≡ b
    alone true = refl
    alone false = refl

pub dropped_met : (ask : CycleAsk) (later : List Item) (n : ℕ) → is_among ask.drops n ≡ true → is_among (numbers_of (dropped ask later)) n ≡ is_among (numbers_of later) n
dropped_met ask later n asked =
    met_by (is_dropped ask) (λ i. true) n (λ i same. ap (is_among ask.drops) (sym (eqb-true n i.number same)) ∙ asked) later ∙ all_of n later

pub replaced_met : (ask : CycleAsk) (later : List Item) (n : ℕ) → is_among (map (λ (r : ℕ × List ℕ). r.0) ask.replaces) n ≡ true
    → is_among (numbers_of (replaced ask later)) n ≡ list_any (λ (i : Item). (n == i.number) && (not (is_dropped ask i) && takes_text i.deed)) later
replaced_met ask later n asked =
    met_by (is_replaced ask) (λ i. not (is_dropped ask i) && takes_text i.deed) n
    (λ i same. all_three (not (is_dropped ask i) && takes_text i.deed) _ (ap (λ m. is_some (text_asked ask.replaces m)) (sym (eqb-true n i.number same)) ∙ sym (is_asked ask.replaces n) ∙ asked)) later
  where
    all_three : (a b : Bool) → b ≡ true → (a && b) ≡ a
    all_three true b h = h
    all_three false b h = refl
