use Rattle.std.proofs.Common.{◌∙◌, List, ap, length, sym, take_while}
use Rattle.verb_core.specs.declared.conf.Alias.{Alias}
use Rattle.mail_rows.specs.Confs.{stands_before, stands_here}
use Rattle.mail_rows.proofs.AliasOrder.{alias_gone, none_gone}
use Rattle.mail_rows.proofs.conf_change.drop_alias_there.Goals as goal

pub returns-then-is_here : goal.returns-then-is_here
returns-then-is_here c =
    c.remove.ensures.items
    ∙ alias_gone c.args.local.now c.args.list.now.items c.requires c.halved_place-place.result
    (c.halved_place-place.ensures ∙ ap (λ (all : List Alias). length (take_while (stands_before c.args.local.now) all)) c.as_slice.ensures.value)
    (ap (stands_here c.args.local.now c.halved_place-place.result) (sym c.as_slice-2.ensures.value) ∙ sym c.is_here.ensures ∙ c.if-is_here.true)

pub returns-else-is_here : goal.returns-else-is_here
returns-else-is_here c =
    none_gone c.args.local.now c.args.list.now.items c.requires c.halved_place-place.result
    (c.halved_place-place.ensures ∙ ap (λ (all : List Alias). length (take_while (stands_before c.args.local.now) all)) c.as_slice.ensures.value)
    (ap (stands_here c.args.local.now c.halved_place-place.result) (sym c.as_slice-2.ensures.value) ∙ sym c.is_here.ensures ∙ c.if-is_here.false)
