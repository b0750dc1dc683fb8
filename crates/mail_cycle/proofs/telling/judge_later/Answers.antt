use Rattle.mail_cycle.proofs.Parts.{judged_is}
use Rattle.mail_cycle.proofs.telling.judge_later.Goals as goal

pub returns : goal.returns
returns c =
    judged_is _ c.args.due.now.repair.drops _ _ _ _ c.args.shows.now _ _ c.in_ok-drops.ensures c.shown.ensures c.acts.ensures c.behind-now.ensures c.judge.ensures
