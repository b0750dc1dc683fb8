use Rattle.std.proofs.Common.{◌≡◌, Some, sym, subst, ◌∙◌}
use Rattle.store_kept.specs.Texts.{text_kept}
use Rattle.store_kept.proofs.Coming.{with_first}
use Rattle.mail_desk.specs.Held.{Held}
use Rattle.mail_desk.proofs.BodyTexts.{memory_told}
use Rattle.mail_desk.proofs.desk.Desk.notice.Goals as goal

pub returns-clause-told : goal.returns-clause-told
returns-clause-told c text is =
    let d = c.self.inside in
    subst (λ (h : Held). text_kept h.kept c.args.body ≡ Some text) c.self.view_is
    (with_first d.base.texts d.timeline.items c.args.body text (memory_told c.first.result d.timeline.items c.self.invariant.desk.apart c.args.body text (sym c.find_notice.ensures ∙ is)))
