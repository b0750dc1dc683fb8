use Rattle.std.proofs.lemmas.Result.{on_ok_weaker}
use Rattle.mail_proxy.proofs.Rounds.{followed}
use Rattle.mail_proxy.proofs.generating.push_reading.Goals as goal

pub returns : goal.returns
returns c =
    on_ok_weaker c.push_line-3.result
    (λ last. followed _ _ _ _ _ c.in_ok-push_joined.ensures (followed _ _ _ _ _ c.in_ok-push_line.ensures (followed _ _ _ _ _ c.in_ok-push_line-2.ensures last))) c.push_line-3.ensures
