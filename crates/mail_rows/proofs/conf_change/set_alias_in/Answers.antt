use Rattle.std.proofs.Common.{◌∙◌, List, ap, length, sym, take_while}
use Rattle.verb_core.specs.declared.conf.Alias.{Alias}
use Rattle.mail_rows.specs.Confs.{stands_before, stands_here}
use Rattle.mail_rows.proofs.ConfLaws.{alias_replaced, alias_added}
use Rattle.mail_rows.proofs.conf_change.set_alias_in.Goals as goal

pub returns-then-is_here : goal.returns-then-is_here
returns-then-is_here c =
    alias_replaced c.args.alias c.args.list.now.items c.alias_place-place.result
    (c.alias_place-place.ensures ∙ ap (λ (all : List Alias). length (take_while (stands_before c.args.alias.local) all)) c.as_slice.ensures.value)
    (ap (stands_here c.args.alias.local c.alias_place-place.result) (sym c.as_slice-2.ensures.value) ∙ sym c.is_here.ensures ∙ c.if-is_here.true)

pub returns-else-is_here : goal.returns-else-is_here
returns-else-is_here c =
    c.insert_within.ensures.items
    ∙ alias_added c.args.alias c.args.list.now.items c.alias_place-place.result
    (c.alias_place-place.ensures ∙ ap (λ (all : List Alias). length (take_while (stands_before c.args.alias.local) all)) c.as_slice.ensures.value)
    (ap (stands_here c.args.alias.local c.alias_place-place.result) (sym c.as_slice-2.ensures.value) ∙ sym c.is_here.ensures ∙ c.if-is_here.false)
