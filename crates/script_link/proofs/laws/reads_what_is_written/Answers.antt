use Rattle.script_link.proofs.Written.{written_back}
use Rattle.script_link.proofs.laws.reads_what_is_written.Goals as goal

pub returns : goal.returns
returns c = written_back
