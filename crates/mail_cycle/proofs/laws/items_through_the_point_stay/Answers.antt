use Rattle.mail_cycle.proofs.Made.{through_stays}
use Rattle.mail_cycle.proofs.laws.items_through_the_point_stay.Goals as goal

pub returns : goal.returns
returns c = through_stays
