use Rattle.std.proofs.Common.{◌≡◌, ◌+◌, length, map, drop}
use Rattle.std.specs.List.{enumerate_from}
use Rattle.verb_core.specs.Store.{IsValid}
use Rattle.replay_crew.specs.Orders.{levels_at, run_levels, told_by_levels}
use Rattle.replay_crew.specs.Resolving.{turn_of}
use Rattle.replay_crew.specs.Working.{AreLevels, put_each}
use Rattle.replay_crew.proofs.run.run_each_level.Given as goal

-- the levels that are left, performed on the store so far, are all of them performed on the store at first
abbrev pub invariant-loop-places : goal.invariant-loop-places
invariant-loop-places g l = record {
  valid : IsValid l.store.store;
  levels : AreLevels l.store.store l.items (drop l.places-index l.plan);
  store : run_levels l.store.store (levels_at (enumerate_from 0 (map turn_of l.items)) (drop l.places-index l.plan)) ≡ run_levels l.initial.store.store (levels_at (enumerate_from 0 (map turn_of l.items)) l.plan);
  shows : put_each (told_by_levels l.store.store (levels_at (enumerate_from 0 (map turn_of l.items)) (drop l.places-index l.plan))) l.shows.items ≡ put_each (told_by_levels l.initial.store.store (levels_at (enumerate_from 0 (map turn_of l.items)) l.plan)) l.initial.shows.items;
  steps : l.steps + length (told_by_levels l.store.store (levels_at (enumerate_from 0 (map turn_of l.items)) (drop l.places-index l.plan))) ≡ l.initial.steps + length (told_by_levels l.initial.store.store (levels_at (enumerate_from 0 (map turn_of l.items)) l.plan));
}
