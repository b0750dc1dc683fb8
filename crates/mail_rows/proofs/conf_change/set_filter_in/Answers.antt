use Rattle.std.proofs.Common.{◌∙◌, List, ap, length, take_while, arith}
use Rattle.verb_core.specs.declared.conf.Filter.{Filter}
use Rattle.mail_rows.specs.Confs.{has_other_id}
use Rattle.mail_rows.proofs.ConfLaws.{filter_replaced, filter_added}
use Rattle.mail_rows.proofs.conf_change.set_filter_in.Goals as goal

pub returns-then-place-len : goal.returns-then-place-len
returns-then-place-len c =
    filter_replaced c.args.filter c.args.list.now.items c.filter_place-place.result
    (c.filter_place-place.ensures ∙ ap (λ (all : List Filter). length (take_while (has_other_id c.args.filter.id) all)) c.as_slice.ensures.value)
    (omega (arith, c.if-place-len.true, c.len.ensures, c.args.list.now.ok.0))

pub returns-else-place-len : goal.returns-else-place-len
returns-else-place-len c =
    c.insert_within.ensures.items
    ∙ filter_added c.args.filter c.args.list.now.items c.filter_place-place.result
    (c.filter_place-place.ensures ∙ ap (λ (all : List Filter). length (take_while (has_other_id c.args.filter.id) all)) c.as_slice.ensures.value)
    (omega (arith, c.if-place-len.false, c.len.ensures, c.args.list.now.ok.0))
