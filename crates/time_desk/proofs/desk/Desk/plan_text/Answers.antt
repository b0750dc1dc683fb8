use Rattle.std.proofs.Common.{◌≡◌, false, subst}
use Rattle.std.specs.Prelude.{IfOk}
use Rattle.desk_journal.specs.Lasting.{Lasting, lasting}
use Rattle.desk_journal.specs.Stored.{HoldsTexts}
use Rattle.desk_journal.specs.Telling.{HoldsHeld}
use Rattle.mail_cycle.proofs.Parted.{if_ok}
use Rattle.time_desk.specs.Planning.{Plans}
use Rattle.time_desk.specs.Replaying.{reads_behind}
use Rattle.time_desk.proofs.Delivering.{held_or}
use Rattle.time_desk.proofs.desk.Desk.plan_text.Goals as goal

pub returns-clause-text : goal.returns-clause-text
returns-clause-text g c =
    let desk = c.self.inside.desk in
    let journal = c.self.inside.journal in
    subst (λ (l : Lasting g.row.D.Denot). IfOk c.plan_in.result (Plans l.kept c.args.point (HoldsTexts g.D.Disk.told l))) c.self.view_is
    (if_ok c.plan_in.result (Plans desk.kept c.args.point (HoldsHeld (g.D.Disk.told journal.disk) desk)) (Plans desk.kept c.args.point (HoldsTexts g.D.Disk.told (lasting desk journal)))
    (λ text plans. (plans.0, plans.1, λ holds. plans.2 (held_or g.D.Disk.told desk journal (reads_behind desk.kept plans.0 ≡ false) holds)))
    c.plan_in.ensures.text)
