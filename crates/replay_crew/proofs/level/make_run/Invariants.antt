use Rattle.std.proofs.Common.{◌≡◌, map, take}
use Rattle.std.specs.List.{AllByRecursion}
use Rattle.replay_crew.specs.declared.made.Made.{Made}
use Rattle.replay_crew.specs.Working.{IsMade}
use Rattle.replay_crew.proofs.level.make_run.Given as goal

-- the first of them are made
abbrev pub invariant-loop-place : goal.invariant-loop-place
invariant-loop-place g l = record {
  places : map (λ (m : Made). m.place) l.made.items ≡ take l.place-index l.here;
  made : AllByRecursion (IsMade l.store.store l.items) l.made.items;
}
