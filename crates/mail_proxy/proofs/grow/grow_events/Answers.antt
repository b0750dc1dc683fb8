use Rattle.std.proofs.Common.{ap, ◌∙◌, Err}
use Rattle.desk_journal.specs.declared.fault.MakeFault.{MakeFault}
use Rattle.mail_proxy.specs.Init.{made_line, made_status}
use Rattle.mail_proxy.specs.Plans.{output_of}
use Rattle.mail_proxy.proofs.Served.{grows_over, out_of_memory_before}
use Rattle.mail_proxy.proofs.grow.grow_events.Goals as goal

pub returns-in-Ok : goal.returns-in-Ok
returns-in-Ok g c =
    let desk = c.in-Ok.desk in
    let plan = c.serve_generated-plan.result in
    grows_over _ c.runs_keep_mail.ensures c.args.rounds c.args.events desk c.serve_generated-plan.new.desk plan.status (output_of plan) c.requires c.in-Ok.ensures.kept c.in-Ok.ensures.reliable
    c.in-Ok.ensures.holds
    c.serve_generated-plan.ensures

pub returns-in-Err : goal.returns-in-Err
returns-in-Err g c =
    let plan = c.unmade.result in
    out_of_memory_before c.runs_keep_mail.ensures c.args.rounds plan.status (output_of plan)
    (c.unmade.ensures.status ∙ ap (λ (f : MakeFault). made_status (Err f)) c.in-Err.ensures.memory) (c.unmade.ensures.output ∙ ap (λ (f : MakeFault). made_line (Err f)) c.in-Err.ensures.memory)
