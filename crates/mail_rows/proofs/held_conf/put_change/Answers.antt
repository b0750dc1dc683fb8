use Rattle.std.proofs.Common.{◌∙◌, List, subst, sym}
use Rattle.verb_core.specs.declared.conf.Filter.{Filter}
use Rattle.mail_rows.specs.Confs.{IsOrder, changed}
use Rattle.mail_rows.proofs.FilterOrder.{order_with}
use Rattle.mail_rows.proofs.held_conf.put_change.Goals as goal

pub returns-in-SetFilter-clause-order : goal.returns-in-SetFilter-clause-order
returns-in-SetFilter-clause-order c =
    subst (λ (filters : List Filter). IsOrder c.args.order.now.items filters) (sym c.set_filter.ensures.filters)
    (order_with c.args.order.now.items c.in-SetFilter.filter c.args.conf.now.filters c.requires.order)

pub returns-in-SetAlias-clause-conf : goal.returns-in-SetAlias-clause-conf
returns-in-SetAlias-clause-conf c =
    (λ j. record { aliases = c.set_alias.ensures.aliases j; filters = c.args.conf.now.filters }) ∙ (λ j. changed (sym c.in-SetAlias.is j) c.args.conf.now)

pub returns-in-SetAlias-clause-order : goal.returns-in-SetAlias-clause-order
returns-in-SetAlias-clause-order c = c.requires.order

pub returns-in-DropAlias-clause-order : goal.returns-in-DropAlias-clause-order
returns-in-DropAlias-clause-order c = c.requires.order

pub returns-in-Nothing-clause-order : goal.returns-in-Nothing-clause-order
returns-in-Nothing-clause-order c = c.requires.order
