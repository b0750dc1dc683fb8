use Rattle.privacy_laws.proofs.Quiet.{nothing_told, seat_stays}
use Rattle.privacy_laws.proofs.others.others_tell_nothing.Goals as goal

pub returns-clause-told : goal.returns-clause-told
returns-clause-told c s step conn apart none = nothing_told s step conn apart none

pub returns-clause-stays : goal.returns-clause-stays
returns-clause-stays c s step conn apart none = seat_stays s step conn apart none
