-- Turns whose items are kept without their texts touch and do what those of the whole items touch and do.
use Rattle.std.proofs.Common.{◌≡◌, ℕ, ◌+◌, true, false, ◌&&◌, ◌==◌, List, [], ◌∷◌, ◌++◌, map, find, Option, Some, None, option_map, cond, refl, sym, ap, ap₂, ◌∙◌}
use Rattle.std.specs.List.{list_all, enumerate_from, cons_option}
use Rattle.undo_base.specs.declared.keys.User.{User}
use Rattle.verb_core.specs.declared.conf.House.{House}
use Rattle.verb_core.specs.declared.item.Deed.{Deed}
use Rattle.verb_core.specs.declared.item.Deed.TheVariants.{Deliver, Append, Fetch, Store, Copy, List as Names, Status, Select, Expunge, Close, Create, Rename, Delete, Act as Acts, Notice}
use Rattle.verb_core.specs.declared.item.Act.TheVariants.{SetAlias, DropAlias, SetFilter, DropFilter, Remove, Give}
use Rattle.verb_core.specs.declared.item.Item.{Item}
use Rattle.verb_core.specs.declared.item.Resolved.{Resolved}
use Rattle.verb_core.specs.declared.item.Shown.{Shown}
use Rattle.verb_core.specs.Aims.{Sought}
use Rattle.verb_core.specs.Items.{actor}
use Rattle.verb_core.specs.Store.{MailStore}
use Rattle.verb_core.specs.Step.{step_with}
use Rattle.stored_items.specs.Stored.{stored, stored_deed}
use Rattle.stored_items.proofs.Alike.{acting, does, formed_stored}
use Rattle.touch_rules.specs.declared.touched.Touch.{Touch}
use Rattle.touch_rules.specs.Table.{arrivals, table_row, touches_of}
use Rattle.touch_rules.specs.Commuting.{are_independent}
use Rattle.touch_rules.specs.Swapping.{brings_mail, resolved}
use Rattle.replay_crew.specs.Orders.{SoughtItem, Placed, run_turns, are_apart, all_apart, AllFit, at_places, touches_by_turn, levels_at, run_levels, told_by_levels}
use Rattle.replay_crew.specs.Resolving.{turn_of, stored_turn}
use Rattle.replay_crew.specs.Working.{answers_on}

-- ---- one item

module _ {A : Type 0} (f : Deed → A) where
  -- what does not depend on the text of those that are kept without it, any deed has as it is kept
  by_deed : ((from text : List ℕ) (to : List (List ℕ)) → f (Deliver from to []) ≡ f (Deliver from to text))
      → ((mailbox text : List ℕ) (flags : _) (moment : ℕ) → f (Append mailbox flags moment []) ≡ f (Append mailbox flags moment text))
      → ((u : User) (mailbox text : List ℕ) → f (Acts (Give u mailbox [])) ≡ f (Acts (Give u mailbox text)))
      → (d : Deed) → f (stored_deed d) ≡ f d
  by_deed x y z (Deliver from to text) = x from text to
  by_deed x y z (Append mailbox flags moment text) = y mailbox text flags moment
  by_deed x y z (Fetch mailbox keys sets_seen shows_body) = refl
  by_deed x y z (Store mailbox keys how flags) = refl
  by_deed x y z (Copy mailbox keys target) = refl
  by_deed x y z (Names pattern) = refl
  by_deed x y z (Status mailbox) = refl
  by_deed x y z (Select mailbox) = refl
  by_deed x y z (Expunge mailbox keys) = refl
  by_deed x y z (Close mailbox keys) = refl
  by_deed x y z (Create mailbox) = refl
  by_deed x y z (Rename mailbox target) = refl
  by_deed x y z (Delete mailbox keys) = refl
  by_deed x y z (Acts (SetAlias local users)) = refl
  by_deed x y z (Acts (DropAlias local)) = refl
  by_deed x y z (Acts (SetFilter filter)) = refl
  by_deed x y z (Acts (DropFilter id)) = refl
  by_deed x y z (Acts (Remove u mailbox key)) = refl
  by_deed x y z (Acts (Give u mailbox text)) = z u mailbox text
  by_deed x y z (Notice user text) = refl

touches_stored : (to : Sought) (i : Item) → touches_of (resolved to (stored i)) ≡ touches_of (resolved to i)
touches_stored to i =
    ap (λ (u : User). table_row u (arrivals (resolved to i)) (stored_deed i.deed)) (acting i.by i.deed)
    ∙ by_deed (table_row (actor i.by i.deed) (arrivals (resolved to i))) (λ from text to. refl) (λ mailbox text flags moment. refl) (λ u mailbox text. refl) i.deed

brings_stored : (d : Deed) → brings_mail (stored_deed d) ≡ brings_mail d
brings_stored = by_deed brings_mail (λ from text to. refl) (λ mailbox text flags moment. refl) (λ u mailbox text. refl)

-- ---- turns at their places

abbrev pub stored_placed : Placed → Placed
stored_placed p = (p.0, stored_turn p.1)

pub apart_stored : (p q : Placed) → are_apart (stored_placed p) (stored_placed q) ≡ are_apart p q
apart_stored p q = ap₂ are_independent (touches_stored p.1.0 p.1.1) (touches_stored q.1.0 q.1.1)

from_apart : (p : Placed) (ps : List Placed) → list_all (λ q. are_apart (stored_placed p) q) (map stored_placed ps) ≡ list_all (λ q. are_apart p q) ps
from_apart p [] = refl
from_apart p (q ∷ ps) = ap₂ (λ a b. a && b) (apart_stored p q) (from_apart p ps)

pub all_apart_stored : (ps : List Placed) → all_apart (map stored_placed ps) ≡ all_apart ps
all_apart_stored [] = refl
all_apart_stored (p ∷ ps) = ap₂ (λ a b. a && b) (from_apart p ps) (all_apart_stored ps)

pub fit_stored : (house : House) (ps : List Placed) → AllFit house ps → AllFit house (map stored_placed ps)
fit_stored house [] fit = tt
fit_stored house (p ∷ ps) fit = ((formed_stored house p.1.1 fit.0.0, λ none. fit.0.1 (sym (brings_stored p.1.1.deed) ∙ none)), fit_stored house ps fit.1)

pub run_stored : (s : MailStore) (ps : List Placed) → run_turns s (map stored_placed ps) ≡ run_turns s ps
run_stored s [] = refl
run_stored s (p ∷ ps) = ap (λ (r : MailStore × Shown). run_turns r.0 (map stored_placed ps)) (does p.1.0 s p.1.1) ∙ run_stored (step_with p.1.0 s p.1.1).0 ps

answers_stored : (s : MailStore) (ps : List Placed) → answers_on s (map stored_placed ps) ≡ answers_on s ps
answers_stored s [] = refl
answers_stored s (p ∷ ps) = ap₂ (λ (r : MailStore × Shown) (rest : List (ℕ × Shown)). (p.0, r.1) ∷ rest) (does p.1.0 s p.1.1) (answers_stored s ps)

-- ---- levels

enumerate_stored : (n : ℕ) (ts : List SoughtItem) → enumerate_from n (map stored_turn ts) ≡ map stored_placed (enumerate_from n ts)
enumerate_stored n [] = refl
enumerate_stored n (t ∷ ts) = ap (λ r. (n, stored_turn t) ∷ r) (enumerate_stored (n + 1) ts)

find_stored : (n : ℕ) (ps : List Placed) → find (λ (p : Placed). p.0 == n) (map stored_placed ps) ≡ option_map stored_placed (find (λ (p : Placed). p.0 == n) ps)
find_stored n [] = refl
find_stored n (p ∷ ps) = elim (p.0 == n) as (λ b. cond b (Some (stored_placed p)) (find (λ (p : Placed). p.0 == n) (map stored_placed ps)) ≡ option_map stored_placed (cond b (Some p) (find (λ (p : Placed). p.0 == n) ps))) [
  | true ↦ refl
  | false ↦ find_stored n ps
]

cons_stored : (o : Option Placed) (ps : List Placed) → cons_option (option_map stored_placed o) (map stored_placed ps) ≡ map stored_placed (cons_option o ps)
cons_stored None ps = refl
cons_stored (Some p) ps = refl

places_stored : (ps : List Placed) (places : List ℕ) → at_places (map stored_placed ps) places ≡ map stored_placed (at_places ps places)
places_stored ps [] = refl
places_stored ps (n ∷ places) = ap₂ cons_option (find_stored n ps) (places_stored ps places) ∙ cons_stored (find (λ (p : Placed). p.0 == n) ps) (at_places ps places)

module _ (all : List Resolved) (ts : List SoughtItem) (same : map turn_of all ≡ map stored_turn ts) where
  placed_same : enumerate_from 0 (map turn_of all) ≡ map stored_placed (enumerate_from 0 ts)
  placed_same = ap (enumerate_from 0) same ∙ enumerate_stored 0 ts

  -- the turns of a level
  pub level_same : (places : List ℕ) → at_places (enumerate_from 0 (map turn_of all)) places ≡ map stored_placed (at_places (enumerate_from 0 ts) places)
  level_same places = ap (λ (ps : List Placed). at_places ps places) placed_same ∙ places_stored (enumerate_from 0 ts) places

  pub run_levels_same : (s : MailStore) (plan : List (List ℕ)) → run_levels s (levels_at (enumerate_from 0 (map turn_of all)) plan) ≡ run_levels s (levels_at (enumerate_from 0 ts) plan)
  run_levels_same s [] = refl
  run_levels_same s (places ∷ more) =
      ap (λ (u : MailStore). run_levels u (levels_at (enumerate_from 0 (map turn_of all)) more)) (ap (run_turns s) (level_same places) ∙ run_stored s (at_places (enumerate_from 0 ts) places))
      ∙ run_levels_same (run_turns s (at_places (enumerate_from 0 ts) places)) more

  pub told_same : (s : MailStore) (plan : List (List ℕ)) → told_by_levels s (levels_at (enumerate_from 0 (map turn_of all)) plan) ≡ told_by_levels s (levels_at (enumerate_from 0 ts) plan)
  told_same s [] = refl
  told_same s (places ∷ more) =
      ap₂ (λ (a b : List (ℕ × Shown)). a ++ b) (ap (answers_on s) (level_same places) ∙ answers_stored s (at_places (enumerate_from 0 ts) places))
      (ap (λ (u : MailStore). told_by_levels u (levels_at (enumerate_from 0 (map turn_of all)) more)) (ap (run_turns s) (level_same places) ∙ run_stored s (at_places (enumerate_from 0 ts) places))
      ∙ told_same (run_turns s (at_places (enumerate_from 0 ts) places)) more)

  -- what is touched
  touches_turn : (all : List Resolved) → map touches_of all ≡ touches_by_turn (map turn_of all)
  touches_turn [] = refl
  touches_turn (r ∷ all) = ap (λ rest. touches_of r ∷ rest) (touches_turn all)

  touches_turns : (ts : List SoughtItem) → touches_by_turn (map stored_turn ts) ≡ touches_by_turn ts
  touches_turns [] = refl
  touches_turns (t ∷ ts) = ap₂ (λ (a : List Touch) (b : List (List Touch)). a ∷ b) (touches_stored t.0 t.1) (touches_turns ts)

  pub touches_same : map touches_of all ≡ touches_by_turn ts
  touches_same = touches_turn all ∙ ap touches_by_turn same ∙ touches_turns ts
