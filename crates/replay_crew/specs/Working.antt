-- What workers make of a level's items, and what is then done with it.
use Rattle.std.specs.Prelude.{◌≡◌, ℕ, ◌*◌, ◌<◌, List, [], ◌∷◌, length, map, take, drop, slice_index_or, slice_set, IsTrue, Result, Ok, Err, Vec}
use Rattle.std.specs.List.{AllByRecursion, enumerate_from}
use Rattle.std.specs.declared.alloc.Global.{Global}
use Rattle.std.specs.Int.{div_ceil}
use Rattle.undo_base.specs.declared.memory.NoMemory.{NoMemory}
use Rattle.verb_core.specs.declared.item.Resolved.{Resolved}
use Rattle.verb_core.specs.declared.item.Shown.{Shown}
use Rattle.verb_core.specs.Items.{IsWellFormed}
use Rattle.verb_core.specs.Step.{step_with}
use Rattle.verb_core.specs.Store.{MailStore}
use Rattle.box_store.specs.Effects.{IsAimed, IsEffect, applied}
use Rattle.touch_rules.specs.Swapping.{resolved}
use Rattle.replay_crew.specs.declared.made.Made.{Made}
use Rattle.replay_crew.specs.Orders.{Placed, AllFit, all_apart, at_places, run_turns}
use Rattle.replay_crew.specs.Resolving.{turn_of}

-- the turns at these places of items that were resolved
abbrev pub level_of : List Resolved → List ℕ → List Placed
level_of all places = at_places (enumerate_from 0 (map turn_of all)) places

-- the item at a place can be worked out on this store
abbrev pub CanMake : MailStore → List Resolved → ℕ → Type 0
CanMake s all place = (place < length all) × ((d : Resolved) → IsWellFormed s.house (slice_index_or all place d).item × IsAimed (slice_index_or all place d) s)

-- what the item at its place does, worked out on this store
abbrev pub IsMade : MailStore → List Resolved → Made → Type 0
IsMade s all made = (d : Resolved) → IsEffect made.effect (slice_index_or all made.place d) s

-- a store after effects, one after the other
abbrev pub applied_each : List Made → MailStore → MailStore
applied_each [] s = s
applied_each (made ∷ more) s = applied_each more (applied made.effect s)

-- what an item shows, beside its place
abbrev pub shown_at : Made → ℕ × Shown
shown_at made = (made.place, made.effect.shown)

-- with answers put at their places
abbrev pub put_each : List (ℕ × Shown) → List Shown → List Shown
put_each [] shows = shows
put_each (answer ∷ more) shows = put_each more (slice_set shows answer.0 answer.1)

-- what turns are answered on one store, each beside its place
abbrev pub answers_on : MailStore → List Placed → List (ℕ × Shown)
answers_on s level = map (λ (p : Placed). (p.0, (step_with p.1.0 s p.1.1).1)) level

-- places of items that can be worked out on one store and then performed one after the other: each is independent of those
-- before it, and its aims hold on the store
pub record IsLevel (s : MailStore) (all : List Resolved) (places : List ℕ) : Type 0 where
  pub within : AllByRecursion (λ (place : ℕ). place < length all) places
  pub fit : AllFit s.house (level_of all places)
  pub apart : IsTrue (all_apart (level_of all places))
  pub aimed : AllByRecursion (λ (p : Placed). IsAimed (resolved p.1.0 p.1.1) s) (level_of all places)

-- levels, each of which is such on the store that those before it leave
abbrev pub AreLevels : MailStore → List Resolved → List (List ℕ) → Type 0
AreLevels s all [] = Unit {0}
AreLevels s all (places ∷ more) = IsLevel s all places × AreLevels (run_turns s (level_of all places)) all more

-- how long a run of a level is: a sixteenth of the level's items, rounded up
abbrev pub run_length : ℕ → ℕ
run_length count = div_ceil count 16

-- the places of a run: so many, behind those of the runs before it; the last run may have fewer
abbrev pub run_at : List ℕ → ℕ → List ℕ
run_at places run = take (run_length (length places)) (drop (run * run_length (length places)) places)

-- what a run of a level makes: what the items at its places do
pub record IsRun (s : MailStore) (all : List Resolved) (places : List ℕ) (run : ℕ) (made : List Made) : Type 0 where
  pub places_are : map (λ (m : Made). m.place) made ≡ run_at places run
  pub made_are : AllByRecursion (IsMade s all) made

-- what a run made, where it did not want memory
abbrev pub made_in : Result (Vec Made Global) NoMemory → List Made
made_in (Ok made) = made.items
made_in (Err _) = []
