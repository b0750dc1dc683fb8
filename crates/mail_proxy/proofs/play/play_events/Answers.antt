use Rattle.std.proofs.Common.{ap, ◌∙◌, Err}
use Rattle.desk_journal.specs.declared.fault.MakeFault.{MakeFault}
use Rattle.mail_proxy.specs.Init.{made_line, made_status}
use Rattle.mail_proxy.specs.Plans.{output_of}
use Rattle.mail_proxy.proofs.Served.{plays_over, out_of_memory_at_first}
use Rattle.mail_proxy.proofs.play.play_events.Goals as goal

pub returns-in-Err : goal.returns-in-Err
returns-in-Err g c =
    let plan = c.unmade.result in
    out_of_memory_at_first c.runs_keep_mail.ensures c.args.events plan.status (output_of plan)
    (c.unmade.ensures.status ∙ ap (λ (f : MakeFault). made_status (Err f)) c.in-Err.ensures.memory) (c.unmade.ensures.output ∙ ap (λ (f : MakeFault). made_line (Err f)) c.in-Err.ensures.memory)

pub returns-in-Ok : goal.returns-in-Ok
returns-in-Ok g c =
    let plan = c.serve_script-plan.result in
    plays_over _ c.runs_keep_mail.ensures c.args.events c.in-Ok.desk c.serve_script-plan.new.desk plan.status (output_of plan) c.in-Ok.ensures.kept c.in-Ok.ensures.reliable c.in-Ok.ensures.holds c.serve_script-plan.ensures
