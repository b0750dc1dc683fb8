use Rattle.mail_loop.proofs.Taken.{none_if_refused, taken_if_done}
use Rattle.mail_loop.proofs.laws.asks_take_away.Goals as goal

pub returns-clause-done : goal.returns-clause-done
returns-clause-done c kept at by ask item valid users is = taken_if_done kept at by ask item valid users is

pub returns-clause-refused : goal.returns-clause-refused
returns-clause-refused c kept at by ask why is = none_if_refused kept at by ask why is
