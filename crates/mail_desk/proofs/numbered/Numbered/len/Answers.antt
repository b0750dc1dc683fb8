use Rattle.std.proofs.Common.{length, ap, arith}
use Rattle.mail_desk.specs.Places.{Placed}
use Rattle.mail_desk.proofs.Timelines.{few}
use Rattle.mail_desk.proofs.numbered.Numbered.len.Goals as goal

pub returns : goal.returns
returns c =
    let same = ap (λ (p : Placed). length p.items) c.self.view_is in
    let fits = few c.args.next c.args.self.now.items c.requires.apart c.requires.below in
    record { value = omega (arith, c.len.ensures, c.self.inside.items.ok.0, same); few = omega (arith, c.len.ensures, c.self.inside.items.ok.0, same, fits) }
