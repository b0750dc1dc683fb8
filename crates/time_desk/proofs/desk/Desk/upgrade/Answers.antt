use Rattle.std.proofs.Common.{◌≡◌, ◌∙◌, true, inl, OnOk, refl, subst, sym}
use Rattle.mail_cycle.specs.Permanence.{UidsStay}
use Rattle.store_kept.specs.Kept.{upgraded}
use Rattle.desk_journal.specs.Lasting.{Lasting, lasting}
use Rattle.desk_journal.specs.Submitting.{UpgradesOnce}
use Rattle.desk_journal.proofs.Upgrading.{upgraded_again, upgraded_once}
use Rattle.time_desk.proofs.Lasts.{stay_kept, upgrades_last}
use Rattle.time_desk.proofs.desk.Desk.upgrade.Goals as goal

-- where names may have superiors already nothing changes
pub returns-then-deep-clause-ok : goal.returns-then-deep-clause-ok
returns-then-deep-clause-ok g c = inl (subst (λ (l : Lasting g.row.D.Denot). l.kept.deep ≡ true) c.self.view_is (sym c.deep.ensures ∙ c.if-deep.true), refl)

pub returns-then-deep-clause-kept : goal.returns-then-deep-clause-kept
returns-then-deep-clause-kept g c =
    subst (λ (l : Lasting g.row.D.Denot). l.kept ≡ upgraded l.kept) c.self.view_is (upgraded_again c.self.inside.desk.kept (sym c.deep.ensures ∙ c.if-deep.true))

pub returns-then-deep-clause-uids : goal.returns-then-deep-clause-uids
returns-then-deep-clause-uids g c = stay_kept _ _ refl

pub returns-then-is_closed-clause-uids : goal.returns-then-is_closed-clause-uids
returns-then-is_closed-clause-uids g c = stay_kept _ _ refl

-- else a record was sealed
pub returns-clause-ok : goal.returns-clause-ok
returns-clause-ok g c =
    let tried = c.upgrade_open in
    let inside = c.self.inside in
    subst (λ (l : Lasting g.row.D.Denot). OnOk tried.result (UpgradesOnce g.D.Disk.told c.args.at l (lasting tried.new.desk tried.new.journal))) c.self.view_is
    (upgraded_once g.D.Disk.told tried.result c.args.at (lasting inside.desk inside.journal) (lasting tried.new.desk tried.new.journal) (sym c.deep.ensures ∙ c.if-deep.false) tried.ensures.ok)

pub returns-clause-uids : goal.returns-clause-uids
returns-clause-uids g c =
    let tried = c.upgrade_open in
    let inside = c.self.inside in
    subst (λ (l : Lasting g.row.D.Denot). UidsStay l.kept tried.new.desk.kept) c.self.view_is
    (upgrades_last tried.result inside.desk.kept tried.new.desk.kept tried.ensures.kept tried.ensures.err)
