use Rattle.verb_bytes.specs.declared.journal.JournalRecord.TheVariants.{Upgrade}
use Rattle.desk_journal.proofs.spelling.upgrade_bytes.Goals as goal

pub returns-clause-spelled : goal.returns-clause-spelled
returns-clause-spelled c = c.written.ensures.spelled (Upgrade c.args.at) c.spell_upgrade.ensures

pub returns-clause-bytes : goal.returns-clause-bytes
returns-clause-bytes c = c.written.ensures.bytes (Upgrade c.args.at) c.spell_upgrade.ensures
