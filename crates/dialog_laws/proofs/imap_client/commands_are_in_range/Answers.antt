use Rattle.dialog_laws.proofs.Spoken.{command_spoken, said_short}
use Rattle.dialog_laws.proofs.imap_client.commands_are_in_range.Goals as goal

pub returns-clause-short : goal.returns-clause-short
returns-clause-short c = said_short c.one_reading.ensures.reading

pub returns-clause-spoken : goal.returns-clause-spoken
returns-clause-spoken c = command_spoken
