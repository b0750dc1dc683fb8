use Rattle.cycle_rules.proofs.CutTexts.{cut_again, cut_run, store_text}
use Rattle.cycle_rules.proofs.laws.cuts_keep_the_store.Goals as goal

pub returns-clause-store : goal.returns-clause-store
returns-clause-store c = cut_run

pub returns-clause-texts : goal.returns-clause-texts
returns-clause-texts c = λ s place base timeline runs. store_text c.mail_is_kept.ensures c.steps_keep_validity.ensures.step s place base timeline runs

pub returns-clause-again : goal.returns-clause-again
returns-clause-again c = cut_again c.mail_is_kept.ensures c.steps_keep_validity.ensures.step
