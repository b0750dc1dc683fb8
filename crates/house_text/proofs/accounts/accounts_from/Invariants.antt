use Rattle.house_text.specs.Configuration.{account_of}
use Rattle.house_text.proofs.Each.{ValuesSoFar}
use Rattle.house_text.proofs.accounts.accounts_from.Given as goal

abbrev pub invariant-loop-value : goal.invariant-loop-value
invariant-loop-value l = ValuesSoFar account_of l.accounts l.value-index l.values
