use Rattle.std.proofs.Common.{◌∙◌, ap}
use Rattle.verb_core.specs.declared.item.Shown.{Shown}
use Rattle.verb_core.specs.Store.{MailStore}
use Rattle.box_store.proofs.Aimed.{own_step}
use Rattle.box_store.proofs.store.Store.perform.Goals as goal

pub returns-clause-shown : goal.returns-clause-shown
returns-clause-shown g c = c.apply.ensures.shown ∙ c.in_ok-effect.ensures.shown

pub returns-clause-own_shown : goal.returns-clause-own_shown
returns-clause-own_shown g c = λ own.
    c.apply.ensures.shown ∙ c.in_ok-effect.ensures.shown ∙ ap (λ (r : MailStore × Shown). r.1) (own_step c.args.self.now.store c.args.item.now c.args.text.now own)
