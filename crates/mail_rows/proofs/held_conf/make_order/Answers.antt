use Rattle.std.proofs.Common.{List, subst}
use Rattle.verb_core.specs.declared.conf.Filter.{Filter}
use Rattle.mail_rows.specs.Confs.{IsOrder}
use Rattle.mail_rows.proofs.held_conf.make_order.Goals as goal

pub returns-in-SetFilter : goal.returns-in-SetFilter
returns-in-SetFilter c = subst (λ (filters : List Filter). IsOrder c.note_all.new.order.items filters) c.as_slice.ensures c.note_all.ensures

pub returns-in-DropFilter : goal.returns-in-DropFilter
returns-in-DropFilter c = subst (λ (filters : List Filter). IsOrder c.note_all-in-DropFilter.new.order.items filters) c.as_slice-in-DropFilter.ensures c.note_all-in-DropFilter.ensures

pub returns-in-SetAlias : goal.returns-in-SetAlias
returns-in-SetAlias c = c.requires

pub returns-in-DropAlias : goal.returns-in-DropAlias
returns-in-DropAlias c = c.requires

pub returns-in-Nothing : goal.returns-in-Nothing
returns-in-Nothing c = c.requires
