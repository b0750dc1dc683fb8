use Rattle.std.proofs.Common.{◌≡◌, ◌++◌, length}
use Rattle.std.specs.List.{AllByRecursion, flat_map}
use Rattle.std.specs.Result.{IsOk}
use Rattle.std.specs.Vec.Iter.{into_iter_items, into_iter_len}
use Rattle.replay_crew.specs.Working.{made_in}
use Rattle.replay_crew.proofs.level.joined.Given as goal

-- what is joined, and what is left, are all of it
abbrev pub invariant-loop-run : goal.invariant-loop-run
invariant-loop-run l = record {
  long : into_iter_len l.run-iterator ≡ length (into_iter_items l.run-iterator);
  made : l.made.items ++ flat_map made_in (into_iter_items l.run-iterator) ≡ flat_map made_in (into_iter_items l.initial.run-iterator);
  each : AllByRecursion IsOk (into_iter_items l.run-iterator) → AllByRecursion IsOk (into_iter_items l.initial.run-iterator);
}
