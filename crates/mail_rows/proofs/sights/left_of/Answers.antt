use Rattle.std.proofs.Common.{◌∙◌}
use Rattle.std.proofs.lemmas.Result.{IfOk-weaker}
use Rattle.mail_rows.proofs.KeysSeen.{left_is}
use Rattle.mail_rows.proofs.sights.left_of.Goals as goal

pub returns : goal.returns
returns c = IfOk-weaker c.there_in.result _ _ (λ r e. e ∙ left_is c.in_ok-index.index c.args.keys.now c.args.entries.now c.in_ok-index.ensures) c.there_in.ensures
