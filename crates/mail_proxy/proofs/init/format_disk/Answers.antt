use Rattle.std.proofs.Common.{Ok, ap, subst, sym}
use Rattle.mail_proxy.specs.declared.plan.Plan.{Plan}
use Rattle.mail_proxy.specs.Plans.{output_of}
use Rattle.desk_journal.specs.Making.{Makes}
use Rattle.mail_proxy.proofs.init.format_disk.Goals as goal

pub returns-in-Ok : goal.returns-in-Ok
returns-in-Ok g c =
    let told = g.D.Disk.told in
    let desk = c.in-Ok.desk in (
      Ok (desk.kept, desk.gate),
      subst (λ (d : g.row.D.Denot). Makes c.args.house c.args.conf (told c.args.disk) (told d) (Ok (desk.kept, desk.gate))) (sym c.into_disk.ensures) c.in-Ok.ensures.made,
      ap (λ (p : Plan). p.status) c.only_line.ensures,
      ap output_of c.only_line.ensures,
    )
