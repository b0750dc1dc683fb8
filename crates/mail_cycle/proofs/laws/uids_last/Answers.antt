use Rattle.mail_cycle.proofs.Lasting.{lasts_cycled, lasts_itself, lasts_marked, lasts_on, lasts_performed, lasts_upgraded, lasts_withdrawn}
use Rattle.mail_cycle.proofs.laws.uids_last.Goals as goal

pub returns : goal.returns
returns c = record { itself = lasts_itself; followed = lasts_on; item = lasts_performed; cycle = lasts_cycled; withdrawal = lasts_withdrawn; upgrade = lasts_upgraded; marks = lasts_marked }
