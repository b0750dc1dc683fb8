use Rattle.std.proofs.Common.{ap}
use Rattle.store_kept.specs.Kept.{upgraded}
use Rattle.mail_desk.specs.Held.{Held}
use Rattle.mail_desk.proofs.Desks.{upgraded_holds}
use Rattle.mail_desk.proofs.desk.Desk.upgrade.Goals as goal

pub invariant_of-self : goal.invariant_of-self
invariant_of-self c = record { desk = upgraded_holds _ c.self.invariant.desk; sizes = c.self.invariant.sizes }

pub returns-clause-kept : goal.returns-clause-kept
returns-clause-kept c = ap (λ (h : Held). upgraded h.kept) c.self.view_is
