use Rattle.time_desk.proofs.Others.{asks_none}
use Rattle.time_desk.proofs.standing.asked_in.Goals as goal

pub returns-in_default-clause-alone : goal.returns-in_default-clause-alone
returns-in_default-clause-alone c = λ none. asks_none c.args.what.now (λ number at ask is. c.in_default.not-Cycle number at ask is) (λ number at key of is. c.in_default.not-Withdraw number at key of is)
