use Rattle.std.proofs.Common.{◌≡◌, take}
use Rattle.cycle_rules.specs.Cutting.{bodies_of}
use Rattle.time_desk.proofs.cut.named.Given as goal

abbrev pub invariant-loop-row : goal.invariant-loop-row
invariant-loop-row l = l.bodies.items ≡ bodies_of (take l.row-index l.rows)
