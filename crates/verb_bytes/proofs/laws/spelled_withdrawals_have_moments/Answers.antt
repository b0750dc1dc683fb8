use Rattle.verb_bytes.proofs.Forms.{withdraw_moment}
use Rattle.verb_bytes.proofs.laws.spelled_withdrawals_have_moments.Goals as goal

pub returns : goal.returns
returns c = withdraw_moment
