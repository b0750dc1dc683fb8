use Rattle.std.proofs.Common.{IfErr, refl, subst, sym}
use Rattle.verb_bytes.specs.declared.journal.JournalRecord.TheVariants.{Operator}
use Rattle.mail_cycle.specs.Permanence.{UidsStay}
use Rattle.desk_journal.specs.Lasting.{Lasting, lasting}
use Rattle.desk_journal.specs.Submitting.{ActWants}
use Rattle.time_desk.proofs.Lasts.{IsNamed, calls_last, stay_kept}
use Rattle.time_desk.proofs.desk.Desk.act.Goals as goal

pub returns-then-is_closed-clause-uids : goal.returns-then-is_closed-clause-uids
returns-then-is_closed-clause-uids g c = stay_kept _ _ refl

-- what was sealed lets UIDs last
pub returns-clause-uids : goal.returns-clause-uids
returns-clause-uids g c =
    let tried = c.act_open in
    let inside = c.self.inside in
    let named = subst (λ (l : Lasting g.row.D.Denot). IsNamed l.kept) (sym c.self.view_is) (c.stands.ensures.valid, c.stands.ensures.named) in
    subst (λ (l : Lasting g.row.D.Denot). UidsStay l.kept tried.new.desk.kept) c.self.view_is
    (calls_last g.D.Disk.told tried.result (Operator inside.desk.kept.next c.args.at c.args.act) (lasting inside.desk inside.journal) (lasting tried.new.desk tried.new.journal) refl
    named tried.ensures.ok tried.ensures.same)

pub returns-clause-wants : goal.returns-clause-wants
returns-clause-wants g c =
    let tried = c.act_open in
    subst (λ (l : Lasting g.row.D.Denot). IfErr tried.result (λ fault. ActWants g.D.Disk.told l.disk tried.new.journal.disk fault)) c.self.view_is tried.ensures.wants
