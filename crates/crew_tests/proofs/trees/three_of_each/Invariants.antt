use Rattle.std.specs.List.{AllByRecursion}
use Rattle.verb_core.specs.Items.{IsWellFormed}
use Rattle.crew_tests.proofs.trees.three_of_each.Given as goal

abbrev pub invariant-loop-place : goal.invariant-loop-place
invariant-loop-place l = AllByRecursion (IsWellFormed l.house) l.items.items
