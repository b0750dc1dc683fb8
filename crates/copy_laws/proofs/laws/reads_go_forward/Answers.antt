use Rattle.copy_laws.proofs.Forward.{keeps_behind, keeps_gates}
use Rattle.copy_laws.proofs.laws.reads_go_forward.Goals as goal

pub returns-clause-behind : goal.returns-clause-behind
returns-clause-behind c = λ first added sealing earlier later early late. keeps_behind c.one_reading.ensures.payloads first added sealing earlier later early late

pub returns-clause-gates : goal.returns-clause-gates
returns-clause-gates c = λ first sealing earlier later early late gates. keeps_gates c.one_reading.ensures.payloads first sealing earlier later early late gates
