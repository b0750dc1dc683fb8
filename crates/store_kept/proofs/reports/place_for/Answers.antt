use Rattle.std.proofs.Common.{arith, length-take}
use Rattle.std.specs.List.{prefix_len}
use Rattle.store_kept.specs.Places.{stands_before}
use Rattle.store_kept.proofs.reports.place_for.Goals as goal

pub returns-clause-bound : goal.returns-clause-bound
returns-clause-bound c = omega (arith, c.count_before.ensures, length-take (prefix_len (stands_before c.args.key.now) c.args.reports.now) c.args.reports.now)
