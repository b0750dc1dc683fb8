use Rattle.house_text.specs.Configuration.{domain_of}
use Rattle.house_text.proofs.Each.{ValuesSoFar}
use Rattle.house_text.proofs.house.domains_from.Given as goal

abbrev pub invariant-loop-value : goal.invariant-loop-value
invariant-loop-value l = ValuesSoFar domain_of l.domains l.value-index l.values
