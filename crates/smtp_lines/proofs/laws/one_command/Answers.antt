use Rattle.smtp_lines.proofs.Reading.{reads_by_grammar}
use Rattle.smtp_lines.proofs.laws.one_command.Goals as goal

pub returns : goal.returns
returns c = reads_by_grammar
