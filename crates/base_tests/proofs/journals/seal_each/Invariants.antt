use Rattle.std.proofs.Common.{◌<◌}
use Rattle.seal_log.specs.Log.{last_gate}
use Rattle.base_tests.proofs.journals.seal_each.Given as goal

abbrev pub invariant-loop-payload : goal.invariant-loop-payload
invariant-loop-payload g l = last_gate l.log < (g.D.Disk.told l.disk).size
