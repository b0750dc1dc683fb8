use Rattle.std.proofs.Common.{length, refl, subst}
use Rattle.mail_cycle.specs.Permanence.{UidsStay}
use Rattle.desk_journal.specs.Lasting.{Lasting, lasting}
use Rattle.time_desk.proofs.Lasts.{stay_kept, snapshots_last}
use Rattle.time_desk.proofs.desk.Desk.snapshot.Goals as goal

pub returns-then-is_closed-clause-uids : goal.returns-then-is_closed-clause-uids
returns-then-is_closed-clause-uids g c = stay_kept _ _ refl

pub returns-clause-uids : goal.returns-clause-uids
returns-clause-uids g c =
    let tried = c.snapshot_open in
    let inside = c.self.inside in
    subst (λ (l : Lasting g.row.D.Denot). UidsStay l.kept tried.new.desk.kept) c.self.view_is
    (snapshots_last g.D.Disk.told tried.result (lasting inside.desk inside.journal) (lasting tried.new.desk tried.new.journal) (length inside.desk.kept.timeline) tried.ensures.ok tried.ensures.err)
