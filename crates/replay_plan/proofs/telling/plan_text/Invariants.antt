use Rattle.std.proofs.Common.{◌≡◌, ◌++◌, ◌+◌, drop, IsTrue}
use Rattle.std.specs.List.{list_all}
use Rattle.replay_plan.specs.Lines.{are_places, lines_from}
use Rattle.replay_plan.proofs.telling.plan_text.Given as goal

-- the lines so far, and those of the levels that are left, are all
abbrev pub invariant-loop-places : goal.invariant-loop-places
invariant-loop-places l = record {
  count : l.level ≡ l.places-index + 1;
  places : IsTrue (list_all (are_places l.numbers) (drop l.places-index l.levels));
  lines : l.out ++ lines_from l.numbers l.level (drop l.places-index l.levels) ≡ lines_from l.numbers 1 l.levels;
}
