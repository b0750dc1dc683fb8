use Rattle.std.proofs.Common.{◌∙◌}
use Rattle.std.proofs.lemmas.Result.{IfOk-weaker}
use Rattle.smtp_session.proofs.answer.write_answer.Goals as goal

pub returns-in-NoMemory : goal.returns-in-NoMemory
returns-in-NoMemory c =
    rw c.in-NoMemory.is (IfOk-weaker c.of-in-NoMemory.result _ _ (λ text e. e ∙ c.memory_text.ensures c.args.host.now) c.of-in-NoMemory.ensures)
