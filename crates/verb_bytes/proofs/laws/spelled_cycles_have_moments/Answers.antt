use Rattle.verb_bytes.proofs.Forms.{cycle_moment}
use Rattle.verb_bytes.proofs.laws.spelled_cycles_have_moments.Goals as goal

pub returns : goal.returns
returns c = cycle_moment
