use Rattle.time_desk.proofs.Others.{heads_none}
use Rattle.time_desk.proofs.lying.follow_head.Goals as goal

pub returns-in_default-clause-entered : goal.returns-in_default-clause-entered
returns-in_default-clause-entered c =
    heads_none c.args.desk.now.kept c.args.head.what c.args.head.text c.requires.head.empty (λ i is. c.in_default.not-Verb i is) (λ number at act is. c.in_default.not-Operator number at act is)
