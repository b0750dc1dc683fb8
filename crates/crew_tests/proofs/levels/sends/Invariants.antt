use Rattle.std.specs.List.{AllByRecursion}
use Rattle.verb_core.specs.Items.{IsWellFormed}
use Rattle.crew_tests.proofs.levels.sends.Given as goal

abbrev pub invariant-loop-user : goal.invariant-loop-user
invariant-loop-user l = AllByRecursion (IsWellFormed l.house) l.items.items
