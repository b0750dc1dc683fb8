-- Slots that are one spot, and the levels of a table.
use Rattle.std.proofs.Common.{◌≡◌, ◌∷◌, ◌&&◌, Bool, cond, true, false, refl, sym, ◌∙◌, ap, ap₂, List, [], ℕ, Option, Some, None, option_map, unwrap_or, bytes_eq, ◌==◌, ◌||◌, not, max, arith, eqb-true, eq-eqb, true≢false}
use Rattle.std.specs.Cmp.{first_so, second_so}
use Rattle.std.specs.Map.{lookup, KeepsOthers}
use Rattle.std.specs.Option.{option_eq}
use Rattle.std.proofs.lemmas.Slice.Eq.{bytes_eq-Decides}
use Rattle.verb_core.proofs.BoxLaws.{bytes_eq-refl}
use Rattle.verb_core.specs.Boxes.{same_user}
use Rattle.touch_rules.specs.Commuting.{same_mailbox}
use Rattle.replay_plan.specs.declared.slots.Part.{Part}
use Rattle.replay_plan.specs.declared.slots.Part.TheVariants.{Anywhere, Everywhere, Anything, Whole, Tails, TailOf, KeysOf, At, Level}
use Rattle.replay_plan.specs.declared.slots.Slot.{Slot}
use Rattle.replay_plan.specs.declared.slots.Sides.{Sides}
use Rattle.replay_plan.specs.declared.slots.Spelled.{Spelled}
use Rattle.replay_plan.specs.contracts.slots.PartPartialEq.TheImpl.{ghosts as parts}
use Rattle.replay_plan.specs.contracts.slots.SpelledPartialEq.TheImpl.{ghosts as names}
use Rattle.replay_plan.specs.contracts.slots.SlotPartialEq.TheImpl.{ghosts as slots}
use Rattle.replay_plan.specs.Slots.{Spot, spot_of, same_part, same_way, same_spot, is_of, side, level_at}
use Rattle.replay_plan.proofs.Least.{both}

part_is : (a b : Part) → parts.eq a b ≡ same_part a b
part_is Anywhere Anywhere = refl
part_is Everywhere Everywhere = refl
part_is Anything Anything = refl
part_is Whole Whole = refl
part_is Tails Tails = refl
part_is (TailOf x) (TailOf y) = refl
part_is (KeysOf x) (KeysOf y) = refl
part_is (At x i) (At y j) = refl
part_is (Level x) (Level y) = refl
part_is _ _ = refl

pub way_itself : (a : Bool) → same_way a a ≡ true
way_itself true = refl
way_itself false = refl

mailbox_is : (a b : Option Spelled) → option_eq names.eq a b ≡ same_mailbox (option_map (λ n. n.0.now) a) (option_map (λ n. n.0.now) b)
mailbox_is (Some a) (Some b) = refl
mailbox_is (Some a) None = refl
mailbox_is None (Some b) = refl
mailbox_is None None = refl

-- slots are equal where they are one spot, of all as of those that write
pub slot_is : (a b : Slot) (w : Bool) → slots.eq a b ≡ same_spot (spot_of a w) (spot_of b w)
slot_is a b w =
    ap₂ (λ x y. x && (y && (a.user == b.user))) (mailbox_is a.mailbox b.mailbox) (part_is a.part b.part)
    ∙ turned (same_mailbox (option_map (λ n. n.0.now) a.mailbox) (option_map (λ n. n.0.now) b.mailbox)) (same_part a.part b.part) (a.user == b.user)
    ∙ ap (λ t. (a.user == b.user) && (same_mailbox (option_map (λ n. n.0.now) a.mailbox) (option_map (λ n. n.0.now) b.mailbox) && (t && same_part a.part b.part))) (sym (way_itself w))
  where
    turned : (m p u : Bool) → (m && (p && u)) ≡ (u && (m && (true && p)))
    turned true true true = refl
    turned true true false = refl
    turned true false true = refl
    turned true false false = refl
    turned false true true = refl
    turned false true false = refl
    turned false false true = refl
    turned false false false = refl

-- a map finds what stands at the spot
pub finds : (s : Slot) (w : Bool) (es : List (Slot × Sides)) → lookup (slots.eq s) es ≡ lookup (is_of (spot_of s w)) es
finds s w [] = refl
finds s w (e ∷ es) = ap₂ (λ b o. cond b (Some e.1) o) (slot_is s e.0 w) (finds s w es)

pub finds_some : (s : Slot) (w : Bool) (es : List (Slot × Sides)) (n : Sides) → Some n ≡ lookup (slots.eq s) es → side w n ≡ level_at es (spot_of s w)
finds_some s w es n h = ap (λ o. unwrap_or (option_map (side w) o) 0) (h ∙ finds s w es)

pub finds_none : (s : Slot) (w : Bool) (es : List (Slot × Sides)) (n : Sides) → n.of_all ≡ 0 → n.of_writers ≡ 0 → None ≡ lookup (slots.eq s) es → side w n ≡ level_at es (spot_of s w)
finds_none s w es n all writers h = nothing w ∙ ap (λ o. unwrap_or (option_map (side w) o) 0) (h ∙ finds s w es)
  where
    nothing : (w : Bool) → side w n ≡ 0
    nothing true = writers
    nothing false = all

-- ---- spots that pass the test are one

one_way : (a b : Bool) → same_way a b ≡ true → a ≡ b
one_way true true h = refl
one_way true false h = absurd (true≢false (sym h))
one_way false true h = absurd (true≢false (sym h))
one_way false false h = refl

pub name_itself : (a b : List ℕ) → a ≡ b → bytes_eq a b ≡ true
name_itself a b e = (bytes_eq-Decides a b).1 e

pub one_name : (a b : List ℕ) → bytes_eq a b ≡ true → a ≡ b
one_name a b h = (bytes_eq-Decides a b).0 h

one_mailbox : (a b : Option (List ℕ)) → same_mailbox a b ≡ true → a ≡ b
one_mailbox (Some a) (Some b) h = ap Some (one_name a b h)
one_mailbox (Some a) None h = absurd (true≢false (sym h))
one_mailbox None (Some b) h = absurd (true≢false (sym h))
one_mailbox None None h = refl

pub one_part : (a b : Part) → same_part a b ≡ true → a ≡ b
one_part Anywhere Anywhere h = refl
one_part Everywhere Everywhere h = refl
one_part Anything Anything h = refl
one_part Whole Whole h = refl
one_part Tails Tails h = refl
one_part (TailOf x) (TailOf y) h = ap TailOf (eqb-true x y h)
one_part (KeysOf x) (KeysOf y) h = ap KeysOf (eqb-true x y h)
one_part (At x i) (At y j) h = ap₂ At (eqb-true x y (first_so (x == y) (i == j) h)) (eqb-true i j (second_so (x == y) (i == j) h))
one_part (Level x) (Level y) h = ap Level (eqb-true x y h)
one_part _ _ h = absurd (true≢false (sym h))

pub one_spot : (a b : Spot) → same_spot a b ≡ true → a ≡ b
one_spot a b h =
    let r : (same_mailbox a.mailbox b.mailbox && (same_way a.written b.written && same_part a.part b.part)) ≡ true = second_so _ _ h in
    let q : (same_way a.written b.written && same_part a.part b.part) ≡ true = second_so _ _ r in
    λ j. record {
      user = record { 0 = eqb-true a.user.0 b.user.0 (first_so _ _ h) j };
      mailbox = one_mailbox a.mailbox b.mailbox (first_so _ _ r) j;
      written = one_way a.written b.written (first_so _ _ q) j;
      part = one_part a.part b.part (second_so _ _ q) j;
    }

pub part_itself : (a : Part) → same_part a a ≡ true
part_itself Anywhere = refl
part_itself Everywhere = refl
part_itself Anything = refl
part_itself Whole = refl
part_itself Tails = refl
part_itself (TailOf x) = eq-eqb x x refl
part_itself (KeysOf x) = eq-eqb x x refl
part_itself (At x i) = both _ _ (eq-eqb x x refl) (eq-eqb i i refl)
part_itself (Level x) = eq-eqb x x refl

mailbox_itself : (a : Option (List ℕ)) → same_mailbox a a ≡ true
mailbox_itself (Some a) = bytes_eq-refl a
mailbox_itself None = refl

pub spot_itself : (a : Spot) → same_spot a a ≡ true
spot_itself a = both _ _ (eq-eqb a.user.0 a.user.0 refl) (both _ _ (mailbox_itself a.mailbox) (both _ _ (way_itself a.written) (part_itself a.part)))

-- ---- levels set and raised

-- a spot is a test of its slots
spot_tests : (s : Spot) (x y : Slot) → is_of s x ≡ true → is_of s y ≡ slots.eq x y
spot_tests s x y h = ap (λ t. same_spot t (spot_of y s.written)) (one_spot s (spot_of x s.written) h) ∙ sym (slot_is x y s.written)

-- no slot is of two spots
spots_apart : (s : Spot) (k : Slot) → is_of s k ≡ false → (t : Slot) → slots.eq k t ≡ true → is_of s t ≡ false
spots_apart s k isnt t h = ap (same_spot s) (sym (one_spot (spot_of k s.written) (spot_of t s.written) (sym (slot_is k t s.written) ∙ h))) ∙ isnt

pub level_put : (s : Spot) (k : Slot) (v : Sides) (old new : List (Slot × Sides)) → lookup (slots.eq k) new ≡ Some v → KeepsOthers slots.eq (slots.eq k) old new → level_at new s ≡ cond (is_of s k) (side s.written v) (level_at old s)
unfolding KeepsOthers
level_put s k v old new here others = elim (is_of s k) as (λ b. is_of s k ≡ b → level_at new s ≡ cond b (side s.written v) (level_at old s)) [
  | true ↦ λ is. ap (level_at new) (one_spot s (spot_of k s.written) is) ∙ ap (λ o. unwrap_or (option_map (side s.written) o) 0) (sym (finds k s.written new) ∙ here)
  | false ↦ λ isnt. ap (λ o. unwrap_or (option_map (side s.written) o) 0) (others (is_of s) (spot_tests s) (spots_apart s k isnt))
] refl

and_true : (b : Bool) → (b && true) ≡ b
and_true true = refl
and_true false = refl

and_false : (b : Bool) → (b && false) ≡ false
and_false true = refl
and_false false = refl

-- a slot is at a spot where it is the spot's, and of the same way
one_side : (s : Spot) (k : Slot) (written : Bool) → same_spot s (spot_of k written) ≡ (same_way s.written written && is_of s k)
one_side s k written =
    moved (same_user s.user (spot_of k written).user) (same_mailbox s.mailbox (spot_of k written).mailbox) (same_way s.written written) (same_part s.part k.part)
    ∙ ap (λ t. same_way s.written written && (same_user s.user (spot_of k written).user && (same_mailbox s.mailbox (spot_of k written).mailbox && (t && same_part s.part k.part)))) (sym (way_itself s.written))
  where
    moved : (u m w p : Bool) → (u && (m && (w && p))) ≡ (w && (u && (m && (true && p))))
    moved true true true p = refl
    moved true true false p = refl
    moved true false true p = refl
    moved true false false p = refl
    moved false m true p = refl
    moved false m false p = refl

module _ (s : Spot) (k : Slot) (sides made : Sides) (old : List (Slot × Sides)) (now : ℕ) (found : (w : Bool) → side w sides ≡ level_at old (spot_of k w)) (put : now ≡ cond (is_of s k) (side s.written made) (level_at old s)) where
  was : is_of s k ≡ true → side s.written sides ≡ level_at old s
  was is = found s.written ∙ ap (level_at old) (sym (one_spot s (spot_of k s.written) is))

  sets : (w written : Bool) (level : ℕ) → made.of_all ≡ cond written sides.of_all level → made.of_writers ≡ cond written level sides.of_writers → side w made ≡ cond (same_way w written) level (side w sides)
  sets true true level all writers = writers
  sets true false level all writers = writers
  sets false true level all writers = all
  sets false false level all writers = all

  pub side_set : (written : Bool) (level : ℕ) → made.of_all ≡ cond written sides.of_all level → made.of_writers ≡ cond written level sides.of_writers → now ≡ cond (same_spot s (spot_of k written)) level (level_at old s)
  side_set written level all writers = put ∙ elim (is_of s k) as (λ b. is_of s k ≡ b → cond b (side s.written made) (level_at old s) ≡ cond (same_spot s (spot_of k written)) level (level_at old s)) [
    | true ↦ λ is.
        sets s.written written level all writers ∙ ap (cond (same_way s.written written) level) (was is)
        ∙ ap (λ b. cond b level (level_at old s)) (sym (one_side s k written ∙ ap (λ t. same_way s.written written && t) is ∙ and_true (same_way s.written written)))
    | false ↦ λ isnt. ap (λ b. cond b level (level_at old s)) (sym (one_side s k written ∙ ap (λ t. same_way s.written written && t) isnt ∙ and_false (same_way s.written written)))
  ] refl

  raises : (w writes : Bool) (level : ℕ) → made.of_all ≡ max sides.of_all level → made.of_writers ≡ max sides.of_writers (cond writes level 0) → side w made ≡ max (cond (not w || writes) level 0) (side w sides)
  raises true true level all writers = omega (arith, writers)
  raises true false level all writers = omega (arith, writers)
  raises false writes level all writers = omega (arith, all)

  pub side_raised : (writes : Bool) (level : ℕ) → made.of_all ≡ max sides.of_all level → made.of_writers ≡ max sides.of_writers (cond writes level 0) → now ≡ max (cond ((not s.written || writes) && is_of s k) level 0) (level_at old s)
  side_raised writes level all writers = put ∙ elim (is_of s k) as (λ b. is_of s k ≡ b → cond b (side s.written made) (level_at old s) ≡ max (cond ((not s.written || writes) && b) level 0) (level_at old s)) [
    | true ↦ λ is.
        raises s.written writes level all writers ∙ ap (max (cond (not s.written || writes) level 0)) (was is)
        ∙ ap (λ b. max (cond b level 0) (level_at old s)) (sym (and_true (not s.written || writes)))
    | false ↦ λ isnt. least (level_at old s) ∙ ap (λ b. max (cond b level 0) (level_at old s)) (sym (and_false (not s.written || writes)))
  ] refl
    where
      least : (n : ℕ) → n ≡ max 0 n
      least n = omega arith
