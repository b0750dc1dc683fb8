use Rattle.std.proofs.Common.{◌≡◌, length}
use Rattle.house_text.specs.Beginning.{users_rise}
use Rattle.house_text.proofs.beginning.users_rise.Given as goal

abbrev pub invariant-loop-rest : goal.invariant-loop-rest
invariant-loop-rest l = users_rise l.rest ≡ users_rise l.users

abbrev pub decreases-loop-rest : goal.decreases-loop-rest
decreases-loop-rest l = length l.rest
