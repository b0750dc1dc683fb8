use Rattle.std.proofs.Common.{◌≡◌, ℕ, IfOk, subst}
use Rattle.repair_desk.specs.Repairs.{is_among}
use Rattle.mail_cycle.specs.Tasks.{Task}
use Rattle.mail_cycle.proofs.due.Due.drops.Goals as goal

pub returns : goal.returns
returns c =
    subst (λ (t : Task). IfOk c.drops.result (λ set. (n : ℕ) → is_among set n ≡ is_among t.repair.drops n)) c.self.view_is
    (c.drops.ensures c.self.inside.before c.self.inside.at c.self.inside.place)
