use Rattle.std.proofs.Common.{◌≡◌, false, subst}
use Rattle.std.specs.Prelude.{IfOk}
use Rattle.desk_journal.specs.Lasting.{Lasting, lasting}
use Rattle.desk_journal.specs.Stored.{HoldsTexts}
use Rattle.desk_journal.specs.Telling.{HoldsHeld}
use Rattle.mail_cycle.proofs.Parted.{if_ok}
use Rattle.time_desk.specs.Cutting.{Cuts}
use Rattle.time_desk.specs.Replaying.{rests_on_disk}
use Rattle.time_desk.proofs.Delivering.{held_or}
use Rattle.time_desk.proofs.desk.Desk.cut_parts.Goals as goal

pub returns-clause-parts : goal.returns-clause-parts
returns-clause-parts g c =
    let desk = c.self.inside.desk in
    let journal = c.self.inside.journal in
    subst (λ (l : Lasting g.row.D.Denot). IfOk c.cut_in.result (Cuts l.kept c.args.point (HoldsTexts g.D.Disk.told l))) c.self.view_is
    (if_ok c.cut_in.result (Cuts desk.kept c.args.point (HoldsHeld (g.D.Disk.told journal.disk) desk)) (Cuts desk.kept c.args.point (HoldsTexts g.D.Disk.told (lasting desk journal)))
    (λ parts cuts. (cuts.0, cuts.1, λ told. cuts.2 (held_or g.D.Disk.told desk journal (rests_on_disk desk.kept cuts.0 ≡ false) told)))
    c.cut_in.ensures.parts)
