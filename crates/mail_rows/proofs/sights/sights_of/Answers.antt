use Rattle.std.proofs.Common.{◌∙◌}
use Rattle.std.proofs.lemmas.Result.{IfOk-weaker}
use Rattle.mail_rows.proofs.KeysSeen.{sights_are}
use Rattle.mail_rows.proofs.sights.sights_of.Goals as goal

pub returns : goal.returns
returns c = IfOk-weaker c.sights_in.result _ _ (λ r e. e ∙ sights_are c.in_ok-index.index c.args.keys.now c.args.entries.now c.in_ok-index.ensures) c.sights_in.ensures
