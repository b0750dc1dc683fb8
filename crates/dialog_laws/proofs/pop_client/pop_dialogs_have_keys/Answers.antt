use Rattle.dialog_laws.proofs.Fetched.{heard_asks, heard_fetching, opening_fetching, settled_asks, settled_fetching, turn_asks, turn_fetching}
use Rattle.dialog_laws.proofs.pop_client.pop_dialogs_have_keys.Goals as goal

pub returns-clause-opening : goal.returns-clause-opening
returns-clause-opening c = opening_fetching

pub returns-clause-turn : goal.returns-clause-turn
returns-clause-turn c = turn_fetching

pub returns-clause-heard : goal.returns-clause-heard
returns-clause-heard c = heard_fetching

pub returns-clause-settled : goal.returns-clause-settled
returns-clause-settled c = settled_fetching

pub returns-clause-asks : goal.returns-clause-asks
returns-clause-asks c = turn_asks

pub returns-clause-asks_then : goal.returns-clause-asks_then
returns-clause-asks_then c = heard_asks

pub returns-clause-asks_further : goal.returns-clause-asks_further
returns-clause-asks_further c = settled_asks
