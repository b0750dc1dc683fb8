use Rattle.std.proofs.Common.{◌≡◌, length}
use Rattle.house_text.specs.Beginning.{aliases_rise}
use Rattle.house_text.proofs.beginning.aliases_rise.Given as goal

abbrev pub invariant-loop-rest : goal.invariant-loop-rest
invariant-loop-rest l = aliases_rise l.rest ≡ aliases_rise l.aliases

abbrev pub decreases-loop-rest : goal.decreases-loop-rest
decreases-loop-rest l = length l.rest
