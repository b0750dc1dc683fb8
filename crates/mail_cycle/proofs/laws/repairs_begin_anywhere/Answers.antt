use Rattle.mail_cycle.proofs.Made.{left_front, reached_alike, reworked_alike}
use Rattle.mail_cycle.proofs.laws.repairs_begin_anywhere.Goals as goal

pub returns : goal.returns
returns c = record { front = left_front; alike = reworked_alike; store = reached_alike }
