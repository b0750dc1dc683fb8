use Rattle.verb_bytes.specs.declared.journal.JournalRecord.TheVariants.{Withdraw}
use Rattle.desk_journal.proofs.spelling.withdraw_bytes.Goals as goal

pub returns-clause-spelled : goal.returns-clause-spelled
returns-clause-spelled c = c.written.ensures.spelled (Withdraw c.args.number c.args.at c.args.key.now c.args.of) c.spell_withdraw.ensures

pub returns-clause-bytes : goal.returns-clause-bytes
returns-clause-bytes c = c.written.ensures.bytes (Withdraw c.args.number c.args.at c.args.key.now c.args.of) c.spell_withdraw.ensures
