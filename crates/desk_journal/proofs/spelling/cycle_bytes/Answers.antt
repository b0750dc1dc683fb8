use Rattle.verb_bytes.specs.declared.journal.JournalRecord.TheVariants.{Cycle}
use Rattle.desk_journal.proofs.spelling.cycle_bytes.Goals as goal

pub returns-clause-spelled : goal.returns-clause-spelled
returns-clause-spelled c = c.written.ensures.spelled (Cycle c.args.number c.args.at c.args.ask.now) c.spell_cycle.ensures

pub returns-clause-bytes : goal.returns-clause-bytes
returns-clause-bytes c = c.written.ensures.bytes (Cycle c.args.number c.args.at c.args.ask.now) c.spell_cycle.ensures
