use Rattle.dialog_laws.proofs.Reading.{heard_asks, heard_reading, left_reading, opening_reading, settled_reading, turn_asks, turn_reading}
use Rattle.dialog_laws.proofs.imap_client.imap_dialogs_have_names.Goals as goal

pub returns-clause-opening : goal.returns-clause-opening
returns-clause-opening c = opening_reading

pub returns-clause-turn : goal.returns-clause-turn
returns-clause-turn c = turn_reading

pub returns-clause-unserved : goal.returns-clause-unserved
returns-clause-unserved c = left_reading

pub returns-clause-heard : goal.returns-clause-heard
returns-clause-heard c = heard_reading

pub returns-clause-settled : goal.returns-clause-settled
returns-clause-settled c = settled_reading

pub returns-clause-asks : goal.returns-clause-asks
returns-clause-asks c = turn_asks

pub returns-clause-asks_then : goal.returns-clause-asks_then
returns-clause-asks_then c = heard_asks
