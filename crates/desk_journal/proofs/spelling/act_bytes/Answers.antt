use Rattle.verb_bytes.specs.declared.journal.JournalRecord.TheVariants.{Operator}
use Rattle.desk_journal.proofs.spelling.act_bytes.Goals as goal

pub returns-clause-spelled : goal.returns-clause-spelled
returns-clause-spelled c = c.written.ensures.spelled (Operator c.args.number c.args.at c.args.act.now) c.spell_act.ensures

pub returns-clause-bytes : goal.returns-clause-bytes
returns-clause-bytes c = c.written.ensures.bytes (Operator c.args.number c.args.at c.args.act.now) c.spell_act.ensures
