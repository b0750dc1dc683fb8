use Rattle.std.proofs.Common.{Ok, Err, inl, inr, refl, subst, sym}
use Rattle.desk_journal.specs.Stored.{HoldsTexts}
use Rattle.mail_proxy.specs.Check.{IsOnlyRead}
use Rattle.mail_proxy.specs.Plans.{output_of}
use Rattle.mail_proxy.specs.Texts.{ending}
use Rattle.mail_proxy.proofs.Checking.{no_disk_fault, only_read, only_read_on}
use Rattle.mail_proxy.proofs.Cuts.{cut_weaker}
use Rattle.mail_proxy.proofs.cut.cut_to.Goals as goal

pub returns-in-Ok : goal.returns-in-Ok
returns-in-Ok g c =
    let told = g.D.Disk.told in
    let desk = c.in-Ok.desk in
    let new = c.cut_desk-status.new.desk in
    let started = c.in-Ok.ensures.started in
    let still = c.cut_desk-status.ensures.still in
    let (planned, output, cuts, shows) = c.cut_desk-status.ensures.cuts in
    let known = cut_weaker told (HoldsTexts told desk) (told c.args.disk).honest c.in-Ok.ensures.texts c.args.point desk new planned output c.cut_desk-status.result
    (g.W.Sink.told c.args.out.now) (g.W.Sink.told c.cut_desk-status.new.out) cuts in (
      ending planned output c.into_disk.result,
      (
        inr (desk, started, (new, still, c.into_disk.ensures, known)),
        λ honest. subst (λ (d : g.row.D.Denot). IsOnlyRead planned (told c.args.disk) (told d)) (sym c.into_disk.ensures)
            (only_read_on told g.met.D.Disk.tells_truth c.args.disk desk new planned started still honest),
      ),
      shows,
      refl,
    )

pub returns-in-Err : goal.returns-in-Err
returns-in-Err g c =
    let plan = c.unopened.result in (
      ending plan.status (output_of plan) c.in-Err.disk,
      (
        inl (c.in-Err.fault, c.in-Err.ensures.refused, c.unopened.ensures.status, c.unopened.ensures.output),
        only_read g.D.Disk.told g.met.D.Disk.tells_truth c.args.disk c.in-Err.disk (Err c.in-Err.fault) plan.status c.in-Err.ensures.refused
            (no_disk_fault plan.status c.in-Err.fault c.unopened.ensures.status),
      ),
      c.show.ensures,
      refl,
    )
