use Rattle.std.proofs.Common.{◌++◌, ℕ, List, ap, subst, sym, ◌∙◌, Result}
use Rattle.mail_desk.specs.declared.counts.Counts.{Counts}
use Rattle.mail_loop.specs.declared.serve.ServeFault.{ServeFault}
use Rattle.mail_proxy.specs.Check.{TellsText}
use Rattle.mail_proxy.specs.Growing.{TellsGrown, grown_text}
use Rattle.mail_proxy.specs.Lines.{line_text}
use Rattle.mail_proxy.specs.Plans.{output_of}
use Rattle.mail_proxy.proofs.Served.{generated_over}
use Rattle.mail_proxy.proofs.grow.serve_generated.Goals as goal

pub returns-in-Ok : goal.returns-in-Ok
returns-in-Ok g c =
    let (steps, notes, over, (added, seals, counted), through) = c.serve_events-ended.ensures.serves in
    let last = c.serve_events-ended.new.desk in
    let plan = c.plan_grown.result in
    generated_over g.D.Disk.told c.args.rounds c.args.events c.args.desk.now last _ _ c.serve_events-ended.result c.outcome_over.result steps notes added plan.status (output_of plan) over seals counted.reads
    c.new-link.ensures.coming c.new-link.ensures.reliable c.new-link.ensures.out_of_memory c.outcome_over.ensures c.requires c.serve_events-ended.ensures.closed
    (subst (λ (o : Result (Unit {0}) ServeFault). TellsGrown c.args.rounds o last.kept plan.status (output_of plan)) (sym c.in-Ok.is)
    (subst (λ (n : Counts). TellsText (grown_text c.args.rounds n) plan.status (output_of plan)) c.counts.ensures c.plan_grown.ensures))
    (λ holds. record { runs = c.serve_events-ended.ensures.runs holds; uids = c.serve_events-ended.ensures.uids holds })

pub returns-in-Err : goal.returns-in-Err
returns-in-Err g c =
    let (steps, notes, over, (added, seals, counted), through) = c.serve_events-ended.ensures.serves in
    let last = c.serve_events-ended.new.desk in
    let plan = c.plan_of.result in
    generated_over g.D.Disk.told c.args.rounds c.args.events c.args.desk.now last _ _ c.serve_events-ended.result c.outcome_over.result steps notes added plan.status (output_of plan) over seals counted.reads
    c.new-link.ensures.coming c.new-link.ensures.reliable c.new-link.ensures.out_of_memory c.outcome_over.ensures c.requires c.serve_events-ended.ensures.closed
    (subst (λ (o : Result (Unit {0}) ServeFault). TellsGrown c.args.rounds o last.kept plan.status (output_of plan)) (sym c.in-Err.is)
    (c.plan_of.ensures.status, ap (λ (l : List ℕ). l ++ line_text plan.last) (c.plan_of.ensures.body ∙ c.new.ensures) ∙ c.plan_of.ensures.last))
    (λ holds. record { runs = c.serve_events-ended.ensures.runs holds; uids = c.serve_events-ended.ensures.uids holds })
