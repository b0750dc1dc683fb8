use Rattle.std.proofs.Common.{◌≡◌, ◌∙◌, IfOk, ap, subst}
use Rattle.serde_json.specs.Written.{compact_text}
use Rattle.mail_desk.specs.Counting.{counts_of}
use Rattle.console_replies.specs.declared.bodies.StatusCounts.{StatusCounts}
use Rattle.console_replies.specs.Bodies.{status_data}
use Rattle.console_session.specs.Answers.{counted_as}
use Rattle.console_session.proofs.routes.tell_status.Goals as goal

pub returns : goal.returns
returns g c =
    let kept = c.args.desk.now.kept in
    c.tell.ensures (status_data (counted_as (counts_of kept)))
    (subst (λ (n : StatusCounts). IfOk c.status_json-body.result (λ text. text ≡ compact_text (status_data n))) (c.counted.ensures ∙ ap counted_as c.counts.ensures) c.status_json-body.ensures)
