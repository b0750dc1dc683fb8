use Rattle.std.proofs.Common.{ap, ◌∙◌}
use Rattle.std.proofs.lemmas.Result.{IfOk-weaker}
use Rattle.pop_session.specs.declared.dialog.Stage.{Stage}
use Rattle.pop_session.specs.Dialog as spec
use Rattle.pop_session.proofs.transaction.mark.Goals as goal

pub returns-in-Transaction-clause-ok : goal.returns-in-Transaction-clause-ok
returns-in-Transaction-clause-ok c =
    IfOk-weaker c.mark_one.result _ _ (λ out marks.
    ap (λ (stage : Stage). spec.mark c.args.number stage (record { stage = stage; awaits = c.args.dialog.now.awaits })) c.in-Transaction.is ∙ marks c.in-Transaction.user c.args.dialog.now.awaits) c.mark_one.ensures.ok
