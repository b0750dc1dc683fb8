use Rattle.std.proofs.Common.{◌∙◌, arith}
use Rattle.verb_core.specs.Store.{has_fixed}
use Rattle.box_store.proofs.Making.{users_all}
use Rattle.box_store.proofs.rows.have_fixed.Goals as goal

-- all users were seen
pub returns : goal.returns
returns c = c.loop-place.invariant ∙ users_all (has_fixed c.args.rows.now) c.args.house.now c.loop-place.place (omega arith)
