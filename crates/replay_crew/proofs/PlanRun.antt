-- The plan of items that were resolved: its levels can be worked out one by one, and they lead where the timeline leads.
use Rattle.std.proofs.Common.{◌≡◌, ℕ, suc, ◌+◌, ◌<◌, Bool, true, false, ◌==◌, List, [], ◌∷◌, ◌++◌, map, length, find, Option, Some, None, cond, unwrap_or, refl, sym, ap, subst, ◌∙◌}
use Rattle.std.specs.List.{list_all, enumerate_from, cons_option, AllByRecursion}
use Rattle.std.specs.List.Sorted.{IsPermutation}
use Rattle.std.specs.Cmp.{first_so, second_so}
use Rattle.std.proofs.lemmas.Bool.{ltb-true}
use Rattle.std.proofs.lemmas.List.Sorted.{length_permutation}
use Rattle.std.proofs.lemmas.List.FromFn.{length-enumerate_from}
use Rattle.verb_core.specs.declared.conf.House.{House}
use Rattle.verb_core.specs.declared.item.Item.{Item}
use Rattle.verb_core.specs.declared.item.Resolved.{Resolved}
use Rattle.verb_core.specs.declared.item.Shown.{Shown}
use Rattle.verb_core.specs.Aims.{sought}
use Rattle.verb_core.specs.Items.{text_in}
use Rattle.verb_core.specs.Step.{step, run, answers}
use Rattle.verb_core.specs.Store.{MailStore, IsValid}
use Rattle.stored_items.proofs.Alike.{looks}
use Rattle.box_store.specs.Effects.{IsAimed}
use Rattle.touch_rules.specs.Swapping.{resolved}
use Rattle.touch_rules.specs.Table.{touches_of}
use Rattle.replay_plan.specs.Lines.{are_places}
use Rattle.replay_plan.specs.Placing.{levels_of}
use Rattle.replay_plan.proofs.Turns.{places_there}
use Rattle.replay_crew.specs.Orders.{SoughtItem, turns, Placed, run_turns, all_apart, AllFit, AimsHold, AllAimed, at_places, by_levels, touches_by_turn, levels_at, run_levels, told_by_levels}
use Rattle.replay_crew.specs.Resolving.{turn_of, stored_turn, AreResolvedFrom}
use Rattle.replay_crew.specs.Working.{level_of, AreLevels, put_each}
use Rattle.replay_crew.proofs.Turning.{append_assoc, after, turns_fit}
use Rattle.replay_crew.proofs.AimsHeld.{level_aims, order_aimed}
use Rattle.replay_crew.proofs.ByLevels.{EachApart, plan_apart, plan_order}
use Rattle.replay_crew.proofs.LevelsRun.{run_join, run_house, run_valid, fit_first, fit_rest, fit_order, plan_store, plan_told}
use Rattle.replay_crew.proofs.LevelDone.{apart_mid, fit_snoc, length_map}
use Rattle.replay_crew.proofs.Placed.{put_all}
use Rattle.replay_crew.proofs.StoredTurns.{stored_placed, all_apart_stored, fit_stored, run_stored, level_same, run_levels_same, told_same, touches_same}

-- ---- the aims hold on the store before the level

aimed_first : (s : MailStore) (ps qs : List Placed) → AllAimed s (ps ++ qs) → AllAimed s ps
aimed_first s [] qs aimed = tt
aimed_first s (p ∷ ps) qs aimed = (aimed.0, aimed_first (after s p) ps qs aimed.1)

aimed_rest : (s : MailStore) (ps qs : List Placed) → AllAimed s (ps ++ qs) → AllAimed (run_turns s ps) qs
aimed_rest s [] qs aimed = aimed
aimed_rest s (p ∷ ps) qs aimed = aimed_rest (after s p) ps qs aimed.1

hold_each : (s : MailStore) (front level : List Placed) → IsValid s → AllFit s.house front → AllFit s.house level → all_apart (front ++ level) ≡ true → AllAimed (run_turns s front) level → AllByRecursion (AimsHold s.boxes) level
hold_each s front [] valid fit_front fit apart aimed = tt
hold_each s front (p ∷ level) valid fit_front fit apart aimed = (
  level_aims front s p valid (fit.0, fit_front) (apart_mid front p level apart) aimed.0,
  hold_each s (front ++ p ∷ []) level valid (fit_snoc s.house front p fit_front (fit.0, tt)) fit.1
      (subst (λ (l : List Placed). all_apart l ≡ true) (sym (append_assoc front (p ∷ []) level)) apart)
      (subst (λ (u : MailStore). AllAimed u level) (sym (run_join s front (p ∷ []))) aimed.1),
)

-- ---- the aims are some store's of the house

abbrev IsSought : House → SoughtItem → Type 0
IsSought house t = (u : MailStore) × ((text : List ℕ) × ((u.house ≡ house) × (t.0 ≡ sought u text t.1.by t.1.deed)))

all_sought : (s : MailStore) (items : List Item) → AllByRecursion (IsSought s.house) (turns s items)
all_sought s [] = tt
all_sought s (i ∷ items) = ((s, (unwrap_or (text_in i.deed) [], (refl, refl))), all_sought (step s i).0 items)

placed_sought : (house : House) (n : ℕ) (ts : List SoughtItem) → AllByRecursion (IsSought house) ts → AllByRecursion (λ (p : Placed). IsSought house p.1) (enumerate_from n ts)
placed_sought house n [] all = tt
placed_sought house n (t ∷ ts) all = (all.0, placed_sought house (n + 1) ts all.1)

abbrev IfFound : (P : Placed → Type 0) → Option Placed → Type 0
IfFound P None = Unit {0}
IfFound P (Some p) = P p

found_has : (P : Placed → Type 0) (test : Placed → Bool) (ps : List Placed) → AllByRecursion P ps → IfFound P (find test ps)
found_has P test [] all = tt
found_has P test (p ∷ ps) all = elim (test p) as (λ b. IfFound P (cond b (Some p) (find test ps))) [ true ↦ all.0 | false ↦ found_has P test ps all.1 ]

more_have : (P : Placed → Type 0) (o : Option Placed) (ps : List Placed) → IfFound P o → AllByRecursion P ps → AllByRecursion P (cons_option o ps)
more_have P None ps here all = all
more_have P (Some p) ps here all = (here, all)

places_have : (P : Placed → Type 0) (ps : List Placed) → AllByRecursion P ps → (places : List ℕ) → AllByRecursion P (at_places ps places)
places_have P ps all [] = tt
places_have P ps all (n ∷ places) = more_have P (find (λ (p : Placed). p.0 == n) ps) (at_places ps places) (found_has P (λ (p : Placed). p.0 == n) ps all) (places_have P ps all places)

aimed_stored : (s : MailStore) (level : List Placed) → AllByRecursion (AimsHold s.boxes) level → AllByRecursion (λ (p : Placed). IsSought s.house p.1) level
    → AllByRecursion (λ (p : Placed). IsAimed (resolved p.1.0 p.1.1) s) (map stored_placed level)
aimed_stored s [] hold from = tt
aimed_stored s (p ∷ level) hold from =
    let w : IsSought s.house p.1 = from.0 in (
      record {
        elsewhere = (w.0, (w.1.0, (w.1.1.0, w.1.1.1 ∙ sym (looks w.0 w.1.0 p.1.1.by p.1.1.deed))));
        there = hold.0.0;
        missing = hold.0.1;
      },
      aimed_stored s level hold.1 from.1,
    )

-- ---- each level of a plan

abbrev AreWithin : ℕ → List (List ℕ) → Type 0
AreWithin n plan = AllByRecursion (λ (places : List ℕ). AllByRecursion (λ (place : ℕ). place < n) places) plan

module _ (all : List Resolved) (ts : List SoughtItem) (same : map turn_of all ≡ map stored_turn ts) where
  abbrev whole : List Placed
  whole = enumerate_from 0 ts

  levels_are : (s : MailStore) (plan : List (List ℕ)) → IsValid s → AreWithin (length all) plan → AllFit s.house (by_levels plan whole) → EachApart (levels_at whole plan) → AllAimed s (by_levels plan whole)
      → AllByRecursion (IsSought s.house) ts → AreLevels s all plan
  levels_are s [] valid within fit apart aimed from = tt
  levels_are s (places ∷ more) valid within fit apart aimed from =
      let level : List Placed = at_places whole places in
      let is : level_of all places ≡ map stored_placed level = level_same all ts same places in
      let first : AllFit s.house level = fit_first s.house level (by_levels more whole) fit in
      let hold : AllByRecursion (AimsHold s.boxes) level = hold_each s [] level valid tt first apart.0 (aimed_first s level (by_levels more whole) aimed) in
      let here : AllByRecursion (λ (p : Placed). IsSought s.house p.1) level = places_have (λ (p : Placed). IsSought s.house p.1) whole (placed_sought s.house 0 ts from) places in
      let house : (run_turns s level).house ≡ s.house = run_house s level in (
        record {
          within = within.0;
          fit = subst (AllFit s.house) (sym is) (fit_stored s.house level first);
          apart = ap all_apart is ∙ all_apart_stored level ∙ apart.0;
          aimed = subst (AllByRecursion (λ (p : Placed). IsAimed (resolved p.1.0 p.1.1) s)) (sym is) (aimed_stored s level hold here);
        },
        subst (λ (u : MailStore). AreLevels u all more) (sym (ap (run_turns s) is ∙ run_stored s level))
            (levels_are (run_turns s level) more (run_valid s level valid first) within.1
            (subst (λ (h : House). AllFit h (by_levels more whole)) (sym house) (fit_rest s.house level (by_levels more whole) fit)) apart.1 (aimed_rest s level (by_levels more whole) aimed)
            (subst (λ (h : House). AllByRecursion (IsSought h) ts) (sym house) from)),
      )

-- ---- the places of a plan

places_within : (numbers places : List ℕ) → are_places numbers places ≡ true → AllByRecursion (λ (place : ℕ). place < length numbers) places
places_within numbers [] h = tt
places_within numbers (n ∷ places) h = (ltb-true n (length numbers) (first_so _ _ h), places_within numbers places (second_so _ _ h))

plan_within : (numbers : List ℕ) (plan : List (List ℕ)) → list_all (are_places numbers) plan ≡ true → AreWithin (length numbers) plan
plan_within numbers [] h = tt
plan_within numbers (places ∷ plan) h = (places_within numbers places (first_so _ _ h), plan_within numbers plan (second_so _ _ h))

-- ---- the plan

module _ (s : MailStore) (items : List Item) (all : List Resolved) (valid : IsValid s) (from : AreResolvedFrom s items all) where
  abbrev plan : List (List ℕ)
  plan = levels_of (map touches_of all)

  plan_same : levels_of (touches_by_turn (turns s items)) ≡ plan
  plan_same = sym (ap levels_of (touches_same all (turns s items) from.turns_are))

  pub plan_levels : AreLevels s all plan
  plan_levels =
      let order : List Placed = by_levels (levels_of (touches_by_turn (turns s items))) (enumerate_from 0 (turns s items)) in
      let in_plan : AreWithin (length all) plan =
      subst (λ n. AreWithin n plan) (length_map (λ (r : Resolved). r.item.number) all)
      (plan_within (map (λ (r : Resolved). r.item.number) all) plan (places_there (map touches_of all) (map (λ (r : Resolved). r.item.number) all) (length_map (λ (r : Resolved). r.item.number) all ∙ sym (length_map touches_of all)))) in
      let fit : AllFit s.house order = fit_order s.house order (enumerate_from 0 (turns s items)) (plan_order s items) (turns_fit 0 s items from.formed) in
      subst (AreLevels s all) plan_same
      (levels_are all (turns s items) from.turns_are s (levels_of (touches_by_turn (turns s items))) valid (subst (AreWithin (length all)) (sym plan_same) in_plan) fit (plan_apart (turns s items))
      (order_aimed s items order valid from.formed (plan_order s items)) (all_sought s items))

  pub plan_runs : run_levels s (levels_at (enumerate_from 0 (map turn_of all)) plan) ≡ run s items
  plan_runs =
      run_levels_same all (turns s items) from.turns_are s plan
      ∙ ap (λ (p : List (List ℕ)). run_levels s (levels_at (enumerate_from 0 (turns s items)) p)) (sym plan_same)
      ∙ plan_store s items valid from.formed

  told_is : told_by_levels s (levels_at (enumerate_from 0 (turns s items)) (levels_of (touches_by_turn (turns s items)))) ≡ told_by_levels s (levels_at (enumerate_from 0 (map turn_of all)) plan)
  told_is =
      ap (λ (p : List (List ℕ)). told_by_levels s (levels_at (enumerate_from 0 (turns s items)) p)) plan_same
      ∙ sym (told_same all (turns s items) from.turns_are s plan)

  told_perm : IsPermutation (told_by_levels s (levels_at (enumerate_from 0 (map turn_of all)) plan)) (enumerate_from 0 (answers s items))
  told_perm = subst (λ (ts : List (ℕ × Shown)). IsPermutation ts (enumerate_from 0 (answers s items))) told_is (plan_told s items valid from.formed)

  as_many : length (answers s items) ≡ length all
  as_many = length_answers s items ∙ sym (length_map stored_turn (turns s items)) ∙ sym (ap length from.turns_are) ∙ length_map turn_of all
    where
      length_answers : (s : MailStore) (items : List Item) → length (answers s items) ≡ length (turns s items)
      length_answers s [] = refl
      length_answers s (i ∷ items) = ap suc (length_answers (step s i).0 items)

  pub plan_steps : length (told_by_levels s (levels_at (enumerate_from 0 (map turn_of all)) plan)) ≡ length all
  plan_steps =
      sym (length_permutation (told_by_levels s (levels_at (enumerate_from 0 (map turn_of all)) plan)) (enumerate_from 0 (answers s items)) told_perm)
      ∙ length-enumerate_from 0 (answers s items) ∙ as_many

  pub plan_answers : (shows : List Shown) → length shows ≡ length all → put_each (told_by_levels s (levels_at (enumerate_from 0 (map turn_of all)) plan)) shows ≡ answers s items
  plan_answers shows long = put_all (told_by_levels s (levels_at (enumerate_from 0 (map turn_of all)) plan)) shows (answers s items) (long ∙ sym as_many) told_perm
