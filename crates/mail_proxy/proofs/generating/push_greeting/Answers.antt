use Rattle.std.proofs.lemmas.Result.{on_ok_weaker}
use Rattle.mail_proxy.proofs.Rounds.{followed}
use Rattle.mail_proxy.proofs.generating.push_greeting.Goals as goal

pub returns : goal.returns
returns c = on_ok_weaker c.push_line.result (λ last. followed _ _ _ _ _ c.in_ok-push_joined.ensures last) c.push_line.ensures
