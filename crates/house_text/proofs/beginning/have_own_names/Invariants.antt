use Rattle.std.proofs.Common.{◌≡◌, length}
use Rattle.house_text.specs.Beginning.{have_own_names}
use Rattle.house_text.proofs.beginning.have_own_names.Given as goal

abbrev pub invariant-loop-rest : goal.invariant-loop-rest
invariant-loop-rest l = have_own_names l.rest ≡ have_own_names l.accounts

abbrev pub decreases-loop-rest : goal.decreases-loop-rest
decreases-loop-rest l = length l.rest
