use Rattle.std.proofs.Common.{◌≡◌, ◌==◌, ◌||◌, subst}
use Rattle.repair_desk.specs.Repairs.{is_among}
use Rattle.repair_desk.proofs.Looking.{one_more}
use Rattle.repair_desk.proofs.numbers.NumberSet.insert.Goals as goal

pub returns : goal.returns
returns c = λ n. subst (λ numbers. is_among c.insert.new.self.keys n ≡ (is_among numbers n || (n == c.args.number))) c.self.view_is (one_more c.args.number n c.self.inside.numbers.keys c.insert.new.self.keys (c.in_ok-insert.ensures.updates.0 n))
