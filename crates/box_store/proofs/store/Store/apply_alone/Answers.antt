use Rattle.box_store.proofs.WorkLaws.{rising_worked}
use Rattle.box_store.proofs.store.Store.apply_alone.Goals as goal

pub invariant_of-self : goal.invariant_of-self
invariant_of-self c = rw c.work_on.ensures (rising_worked c.args.effect.work c.self.inside.rows.items c.self.invariant)

pub invariant_of-self-else-is_some : goal.invariant_of-self-else-is_some
invariant_of-self-else-is_some c = rw c.work_on.ensures (rising_worked c.args.effect.work c.self.inside.rows.items c.self.invariant)
