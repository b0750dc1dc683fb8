use Rattle.std.proofs.Common.{subst, sym, inl, inr, refl}
use Rattle.mail_proxy.specs.Promises.{IsLasting}
use Rattle.mail_proxy.proofs.Journals.{lasting}
use Rattle.mail_proxy.proofs.serve.plan_serve.Goals as goal

pub returns-in-Ok : goal.returns-in-Ok
returns-in-Ok g c =
    let told = g.D.Disk.told in
    let first = c.in-Ok.desk in
    let last = c.serve_link-plan.new.desk in
    let run = c.serve_link-plan.ensures in
    inr (
      first,
      c.in-Ok.ensures.started,
      (
        last,
        run,
        c.into_disk.ensures,
        λ honest.
            subst (λ (d : g.row.D.Denot). IsLasting told run.steps run.outcome first last run.desk (told c.args.disk) (told d)) (sym c.into_disk.ensures)
            (lasting told g.met.D.Disk.tells_truth c.answered_is_kept.ensures.kept c.desks_run.ensures.run c.runs_keep_mail.ensures c.args.disk run.steps run.outcome first last run.desk
            c.in-Ok.ensures.started c.in-Ok.ensures.texts honest),
      ),
    )

pub returns-in-Err : goal.returns-in-Err
returns-in-Err g c = inl ((c.in-Err.fault, c.in-Err.ensures.refused, c.unopened.ensures.status, c.unopened.ensures.output), refl)
