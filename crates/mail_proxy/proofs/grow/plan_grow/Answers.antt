use Rattle.std.proofs.Common.{ap}
use Rattle.mail_proxy.specs.declared.plan.Plan.{Plan}
use Rattle.mail_proxy.specs.Plans.{output_of}
use Rattle.mail_proxy.proofs.Served.{out_of_memory_before}
use Rattle.mail_proxy.proofs.grow.plan_grow.Goals as goal

pub returns-in-Err : goal.returns-in-Err
returns-in-Err g c =
    let plan = c.only_line.result in
    out_of_memory_before c.runs_keep_mail.ensures c.args.rounds plan.status (output_of plan) (ap (λ (p : Plan). p.status) c.only_line.ensures) (ap output_of c.only_line.ensures)
