use Rattle.std.proofs.Common.{subst, sym, inl, inr, Ok, Err}
use Rattle.mail_proxy.specs.Check.{IsOnlyRead}
use Rattle.mail_proxy.proofs.Checking.{no_disk_fault, only_read, opened_well}
use Rattle.mail_proxy.proofs.check.plan_check.Goals as goal

pub returns-in-Ok : goal.returns-in-Ok
returns-in-Ok g c =
    let told = g.D.Disk.told in
    let desk = c.in-Ok.desk in
    let status = c.plan_counts-plan.result.status in (
      inr (desk, c.in-Ok.ensures.started, (c.plan_counts-plan.ensures, c.into_disk.ensures)),
      λ honest. subst (λ (d : g.row.D.Denot). IsOnlyRead status (told c.args.disk) (told d)) (sym c.into_disk.ensures)
          (only_read told g.met.D.Disk.tells_truth c.args.disk desk.disk (Ok (desk.kept, desk.gate)) status c.in-Ok.ensures.started (λ other. opened_well (desk.kept, desk.gate)) honest),
    )

pub returns-in-Err : goal.returns-in-Err
returns-in-Err g c = (
  inl (c.in-Err.fault, c.in-Err.ensures.refused, c.unopened.ensures.status, c.unopened.ensures.output),
  only_read g.D.Disk.told g.met.D.Disk.tells_truth c.args.disk c.in-Err.disk (Err c.in-Err.fault) c.unopened.result.status c.in-Err.ensures.refused
      (no_disk_fault c.unopened.result.status c.in-Err.fault c.unopened.ensures.status),
)
