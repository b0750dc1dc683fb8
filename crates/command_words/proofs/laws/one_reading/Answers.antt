use Rattle.command_words.proofs.Sayings.{read_is_said, said_is_read}
use Rattle.command_words.proofs.laws.one_reading.Goals as goal

pub returns : goal.returns
returns c = λ words command. (read_is_said words command, said_is_read words command)
