use Rattle.std.proofs.Common.{◌≡◌, IfErr, IfOk, Ok, refl, subst, sym}
use Rattle.verb_core.specs.Live.{live}
use Rattle.verb_bytes.specs.declared.journal.JournalRecord.TheVariants.{Verb}
use Rattle.store_kept.specs.Kept.{store_of}
use Rattle.mail_cycle.specs.Permanence.{UidsStay}
use Rattle.mail_desk.specs.Desk.{submitted}
use Rattle.desk_journal.specs.Lasting.{Lasting, lasting}
use Rattle.desk_journal.specs.Submitting.{SubmitWants, SubmitsNone, WritesNone}
use Rattle.time_desk.proofs.Lasts.{IsNamed, call_lasts, stay_kept}
use Rattle.time_desk.proofs.desk.Desk.submit.Goals as goal

pub returns-clause-ok : goal.returns-clause-ok
returns-clause-ok g c =
    let tried = c.submit_open in
    subst (λ (l : Lasting g.row.D.Denot). IfOk tried.result (λ item. submitted l.kept c.args.at c.args.by c.args.ask ≡ record { outcome = Ok item; kept = tried.new.desk.kept }))
    c.self.view_is tried.ensures.ok

pub returns-clause-why : goal.returns-clause-why
returns-clause-why g c =
    let tried = c.submit_open in
    subst (λ (l : Lasting g.row.D.Denot). IfErr tried.result (λ fault. SubmitsNone g.D.Disk.told (live (store_of l.kept) l.kept.next c.args.at c.args.by c.args.ask l.kept.deep) l (lasting tried.new.desk tried.new.journal) fault))
    c.self.view_is tried.ensures.why

pub returns-clause-writes_none : goal.returns-clause-writes_none
returns-clause-writes_none g c =
    let tried = c.submit_open in
    subst (λ (l : Lasting g.row.D.Denot). WritesNone tried.result l (lasting tried.new.desk tried.new.journal)) c.self.view_is tried.ensures.writes_none

pub returns-then-is_closed-clause-uids : goal.returns-then-is_closed-clause-uids
returns-then-is_closed-clause-uids g c = stay_kept _ _ refl

-- what was sealed lets UIDs last
pub returns-clause-uids : goal.returns-clause-uids
returns-clause-uids g c =
    let tried = c.submit_open in
    let named = subst (λ (l : Lasting g.row.D.Denot). IsNamed l.kept) (sym c.self.view_is) (c.stands.ensures.valid, c.stands.ensures.named) in
    subst (λ (l : Lasting g.row.D.Denot). UidsStay l.kept tried.new.desk.kept) c.self.view_is
    (call_lasts g.D.Disk.told tried.result (λ item. Verb item) (lasting c.self.inside.desk c.self.inside.journal) (lasting tried.new.desk tried.new.journal) (λ item. refl)
    named tried.ensures.sealed tried.ensures.err)

pub returns-clause-wants : goal.returns-clause-wants
returns-clause-wants g c =
    let tried = c.submit_open in
    subst (λ (l : Lasting g.row.D.Denot). IfErr tried.result (λ fault. SubmitWants g.D.Disk.told l.disk tried.new.journal.disk fault)) c.self.view_is tried.ensures.wants
