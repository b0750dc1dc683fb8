use Rattle.std.proofs.Common.{◌∙◌, append_assoc}
use Rattle.std.proofs.lemmas.Result.{IfOk-weaker}
use Rattle.pop_session.proofs.answer.total.Goals as goal

pub returns : goal.returns
returns c = IfOk-weaker c.of.result _ _ (λ text e. simp append_assoc (e ∙ c.as_bytes.ensures.value ∙ c.in_ok-text.ensures.ok)) c.of.ensures
