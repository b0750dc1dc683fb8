use Rattle.mail_cycle.proofs.Lasting.{stay_cycled, stay_itself, stay_marked, stay_on, stay_performed, stay_upgraded}
use Rattle.mail_cycle.proofs.laws.texts_stay.Goals as goal

pub returns : goal.returns
returns c = record { itself = stay_itself; followed = stay_on; item = stay_performed; cycle = stay_cycled; upgrade = stay_upgraded; marks = stay_marked }
