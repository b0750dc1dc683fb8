use Rattle.std.proofs.Common.{subst}
use Rattle.verb_core.specs.Items.{IsTimeline}
use Rattle.mail_desk.specs.Held.{Held}
use Rattle.mail_desk.proofs.Timelines.{is_timeline}
use Rattle.mail_desk.proofs.desk.Desk.stands.Goals as goal

pub returns-clause-timeline : goal.returns-clause-timeline
returns-clause-timeline c =
    let desk = c.self.invariant.desk in
    subst (λ (h : Held). IsTimeline h.kept.house h.kept.timeline) c.self.view_is (is_timeline c.self.inside.base.house c.self.inside.timeline.items desk.formed desk.apart)
