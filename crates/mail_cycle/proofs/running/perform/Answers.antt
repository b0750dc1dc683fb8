use Rattle.replay_crew.proofs.Heard.{valid_heard}
use Rattle.mail_cycle.proofs.Heard.{text_done, text_shown}
use Rattle.mail_cycle.proofs.running.perform.Goals as goal

pub returns-clause-store : goal.returns-clause-store
returns-clause-store g c = text_done c.args.store.now.store c.perform.new.self.store c.args.item.now _ c.args.text.now c.perform.result c.item.ensures c.perform.ensures.store

pub returns-clause-valid : goal.returns-clause-valid
returns-clause-valid g c =
    valid_heard c.steps_keep_validity.ensures.step c.args.store.now.store c.perform.new.self.store c.args.item.now _ c.args.text.now c.perform.result c.requires.valid c.requires.formed c.item.ensures
    c.perform.ensures.store

pub returns-clause-shown : goal.returns-clause-shown
returns-clause-shown g c = text_shown c.args.store.now.store c.args.item.now _ c.args.text.now c.perform.result c.item.ensures c.perform.ensures.shown

pub returns-clause-steps : goal.returns-clause-steps
returns-clause-steps g c = c.perform.ensures.step

pub returns-clause-no_step : goal.returns-clause-no_step
returns-clause-no_step g c = c.perform.ensures.no_step
