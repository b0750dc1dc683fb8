use Rattle.std.proofs.Common.{◌∙◌}
use Rattle.desk_journal.proofs.Telling.{noted_is}
use Rattle.desk_journal.proofs.read_texts.note_in.Goals as goal

pub returns : goal.returns
returns c = λ gate can. c.note.ensures.value ∙ noted_is c.args.desk.now c.args.body gate can
