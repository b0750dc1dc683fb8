use Rattle.std.proofs.Common.{Ok, Err, inl, inr, subst, sym}
use Rattle.mail_proxy.specs.Check.{IsOnlyRead}
use Rattle.mail_proxy.specs.Plans.{output_of}
use Rattle.mail_proxy.proofs.Audits.{lie_there, of_these}
use Rattle.mail_proxy.proofs.Checking.{no_disk_fault, only_read, only_read_on}
use Rattle.mail_proxy.proofs.audit.plan_audit.Goals as goal

pub returns-in-Ok : goal.returns-in-Ok
returns-in-Ok g c =
    let told = g.D.Disk.told in
    let desk = c.in-Ok.desk in
    let new = c.audit_desk-plan.new.desk in
    let plan = c.audit_desk-plan.result in
    let started = c.in-Ok.ensures.started in
    let still = c.audit_desk-plan.ensures.still in (
      inr (
        desk,
        started,
        (
          new,
          still,
          c.into_disk.ensures,
          of_these told c.args.disk desk new plan.status (output_of plan) (lie_there told c.one_reading.ensures.payloads c.args.disk desk started) c.audit_desk-plan.ensures.audits,
        ),
      ),
      λ honest. subst (λ (d : g.row.D.Denot). IsOnlyRead plan.status (told c.args.disk) (told d)) (sym c.into_disk.ensures)
          (only_read_on told g.met.D.Disk.tells_truth c.args.disk desk new plan.status started still honest),
    )

pub returns-in-Err : goal.returns-in-Err
returns-in-Err g c = (
  inl (c.in-Err.fault, c.in-Err.ensures.refused, c.unopened.ensures.status, c.unopened.ensures.output),
  only_read g.D.Disk.told g.met.D.Disk.tells_truth c.args.disk c.in-Err.disk (Err c.in-Err.fault) c.unopened.result.status c.in-Err.ensures.refused
      (no_disk_fault c.unopened.result.status c.in-Err.fault c.unopened.ensures.status),
)
