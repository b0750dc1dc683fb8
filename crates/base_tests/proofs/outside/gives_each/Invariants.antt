use Rattle.std.proofs.Common.{◌≡◌, false}
use Rattle.base_tests.proofs.outside.gives_each.Given as goal

abbrev pub invariant-loop-row : goal.invariant-loop-row
invariant-loop-row g l = (g.S.Source.told l.source).ended ≡ false
