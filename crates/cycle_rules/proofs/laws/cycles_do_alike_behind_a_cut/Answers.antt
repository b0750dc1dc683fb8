use Rattle.std.proofs.Common.{refl}
use Rattle.cycle_rules.proofs.Cutting.{cycled_alike, due_alike, points_alike}
use Rattle.cycle_rules.proofs.laws.cycles_do_alike_behind_a_cut.Goals as goal

pub returns : goal.returns
returns c = record {
  cycled = cycled_alike;
  due = λ s at ask place due there is. due_alike s at ask place due there is;
  numbers = λ s ask place point. refl;
  points = points_alike;
}
