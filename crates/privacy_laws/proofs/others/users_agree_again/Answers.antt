use Rattle.privacy_laws.proofs.Beside.{agree_itself, agree_own}
use Rattle.privacy_laws.proofs.others.users_agree_again.Goals as goal

pub returns-clause-itself : goal.returns-clause-itself
returns-clause-itself c house u k desk is known = agree_itself house u k desk is known

pub returns-clause-own : goal.returns-clause-own
returns-clause-own c house u k l i j agree can own = agree_own house u k l i j agree can own
