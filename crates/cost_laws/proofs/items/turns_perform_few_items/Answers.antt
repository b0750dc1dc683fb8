use Rattle.cost_laws.proofs.Turns.{imap_one, pop_two, smtp_one}
use Rattle.cost_laws.proofs.items.turns_perform_few_items.Goals as goal

pub returns-clause-smtp : goal.returns-clause-smtp
returns-clause-smtp c = smtp_one

pub returns-clause-imap : goal.returns-clause-imap
returns-clause-imap c = imap_one

pub returns-clause-pop : goal.returns-clause-pop
returns-clause-pop c = pop_two
