-- Orders of items that were resolved, and which of them may be performed in place of the timeline's.
use Rattle.std.specs.Prelude.{◌≡◌, ℕ, Bool, true, not, ◌&&◌, List, [], ◌∷◌, ◌++◌, ◌==◌, map, find, filter_map, IsTrue}
use Rattle.std.specs.List.{list_all}
use Rattle.verb_core.specs.declared.conf.House.{House}
use Rattle.verb_core.specs.declared.item.Item.{Item}
use Rattle.verb_core.specs.declared.item.Shown.{Shown}
use Rattle.verb_core.specs.Items.{IsWellFormed}
use Rattle.verb_core.specs.declared.item.Aim.{Aim}
use Rattle.verb_core.specs.Boxes.{has_row}
use Rattle.verb_core.specs.Aims.{Sought, sought_by, box_aimed}
use Rattle.verb_core.specs.Store.{MailStore}
use Rattle.verb_core.specs.Step.{Boxes, step, step_with}
use Rattle.touch_rules.specs.declared.touched.Touch.{Touch}
use Rattle.touch_rules.specs.Table.{touches_of}
use Rattle.touch_rules.specs.Commuting.{commute, are_independent}
use Rattle.touch_rules.specs.Swapping.{sets_conf, resolved, CanHave}

-- an item with its aims
abbrev pub SoughtItem : Type 0
SoughtItem = Sought × Item

-- the items of a timeline, each with the aims that it finds when its turn comes
abbrev pub turns : MailStore → List Item → List SoughtItem
turns s [] = []
turns s (i ∷ is) = (sought_by s i, i) ∷ turns (step s i).0 is

-- a turn beside its place in the timeline
abbrev pub Placed : Type 0
Placed = ℕ × SoughtItem

-- the store after turns, performed one after the other
abbrev pub run_turns : MailStore → List Placed → MailStore
run_turns s [] = s
run_turns s (p ∷ ps) = run_turns (step_with p.1.0 s p.1.1).0 ps

-- what each turn is answered, beside its place
abbrev pub answers_of_turns : MailStore → List Placed → List (ℕ × Shown)
answers_of_turns s [] = []
answers_of_turns s (p ∷ ps) = (p.0, (step_with p.1.0 s p.1.1).1) ∷ answers_of_turns (step_with p.1.0 s p.1.1).0 ps

-- whether two may be turned: they commute, and not both are acts on aliases or filters
abbrev pub may_turn : Placed → Placed → Bool
may_turn p q = commute (touches_of (resolved p.1.0 p.1.1)) (touches_of (resolved q.1.0 q.1.1)) && not (sets_conf p.1.1.deed && sets_conf q.1.1.deed)

-- whether two are independent
abbrev pub are_apart : Placed → Placed → Bool
are_apart p q = are_independent (touches_of (resolved p.1.0 p.1.1)) (touches_of (resolved q.1.0 q.1.1))

-- each is well formed in the house, with aims that its item can have
abbrev pub AllFit : House → List Placed → Type 0
AllFit house [] = Unit {0}
AllFit house (p ∷ ps) = (IsWellFormed house p.1.1 × CanHave p.1.0 p.1.1) × AllFit house ps

-- an order of these: its first is one of them, which may be turned with each that stands before it here; then an order of
-- the others
abbrev pub IsOrder : List Placed → List Placed → Type 0
IsOrder [] all = all ≡ []
IsOrder (p ∷ ps) all = (front : List Placed) × ((back : List Placed) × ((all ≡ front ++ p ∷ back) × (IsTrue (list_all (λ q. may_turn q p) front) × IsOrder ps (front ++ back))))

-- the items are well formed in the house
abbrev pub AreWellFormed : House → List Item → Type 0
AreWellFormed house [] = Unit {0}
AreWellFormed house (i ∷ is) = IsWellFormed house i × AreWellFormed house is

-- the turns at these places
abbrev pub at_places : List Placed → List ℕ → List Placed
at_places all places = filter_map (λ n. find (λ (p : Placed). p.0 == n) all) places

-- the turns of a plan, level by level
abbrev pub by_levels : List (List ℕ) → List Placed → List Placed
by_levels [] all = []
by_levels (places ∷ more) all = at_places all places ++ by_levels more all

-- what each turn touches
abbrev pub touches_by_turn : List SoughtItem → List (List Touch)
touches_by_turn ts = map (λ (t : SoughtItem). touches_of (resolved t.0 t.1)) ts

-- the aims of a turn are there in these mailboxes, and what its item looked for in vain is not
abbrev pub AimsHold : Boxes → Placed → Type 0
AimsHold boxes p = IsTrue (list_all (λ (a : Aim). has_row (box_aimed a) boxes) p.1.0.aims) × IsTrue (list_all (λ (a : Aim). not (has_row (box_aimed a) boxes)) p.1.0.missed)

-- the aims of each hold on the store of its turn
abbrev pub AllAimed : MailStore → List Placed → Type 0
AllAimed s [] = Unit {0}
AllAimed s (p ∷ ps) = AimsHold s.boxes p × AllAimed (step_with p.1.0 s p.1.1).0 ps

-- a plan's levels, each as its turns
abbrev pub levels_at : List Placed → List (List ℕ) → List (List Placed)
levels_at all levels = map (at_places all) levels

-- the store after levels, one after the other
abbrev pub run_levels : MailStore → List (List Placed) → MailStore
run_levels s [] = s
run_levels s (level ∷ more) = run_levels (run_turns s level) more

-- what each turn is answered, beside its place, where those of a level are all worked out on the store before the level
abbrev pub told_by_levels : MailStore → List (List Placed) → List (ℕ × Shown)
told_by_levels s [] = []
told_by_levels s (level ∷ more) = map (λ (p : Placed). (p.0, (step_with p.1.0 s p.1.1).1)) level ++ told_by_levels (run_turns s level) more

-- whether each is independent of those before it
abbrev pub all_apart : List Placed → Bool
all_apart [] = true
all_apart (p ∷ ps) = list_all (λ q. are_apart p q) ps && all_apart ps
