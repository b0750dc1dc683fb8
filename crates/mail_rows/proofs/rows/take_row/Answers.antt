use Rattle.std.proofs.Common.{◌∙◌, List, Some, sym, ap, subst}
use Rattle.verb_core.specs.declared.mailbox.BoxId.{BoxId}
use Rattle.verb_core.specs.declared.mailbox.Mailbox.{Mailbox}
use Rattle.verb_core.specs.Boxes.{box_of}
use Rattle.mail_rows.specs.Places.{IsPlace, IsGap}
use Rattle.mail_rows.proofs.PlaceLaws.{row_placed, drop_placed, row_missing, drop_missing}
use Rattle.mail_rows.proofs.rows.take_row.Goals as goal

pub returns-in-Ok-clause-row : goal.returns-in-Ok-clause-row
returns-in-Ok-clause-row c =
    ap (λ (r : BoxId × Mailbox). Some r.1) c.remove-mailbox.ensures.value
    ∙ sym (row_placed (box_of c.args.user c.args.name.now) c.args.rows.now.items c.in-Ok.place
    (subst (λ (rs : List (BoxId × Mailbox)). IsPlace (box_of c.args.user c.args.name.now) rs c.in-Ok.place) c.as_slice.ensures.value c.in-Ok.ensures.found) c.remove-mailbox.result)

pub returns-in-Ok-clause-rows : goal.returns-in-Ok-clause-rows
returns-in-Ok-clause-rows c =
    c.remove-mailbox.ensures.items
    ∙ drop_placed (box_of c.args.user c.args.name.now) c.args.rows.now.items c.in-Ok.place
    (subst (λ (rs : List (BoxId × Mailbox)). IsPlace (box_of c.args.user c.args.name.now) rs c.in-Ok.place) c.as_slice.ensures.value c.in-Ok.ensures.found) c.requires

pub returns-in-Err-clause-row : goal.returns-in-Err-clause-row
returns-in-Err-clause-row c =
    sym (row_missing (box_of c.args.user c.args.name.now) c.args.rows.now.items c.in-Err.field-0
    (subst (λ (rs : List (BoxId × Mailbox)). IsGap (box_of c.args.user c.args.name.now) rs c.in-Err.field-0) c.as_slice.ensures.value c.in-Err.ensures.missing) c.requires)

pub returns-in-Err-clause-rows : goal.returns-in-Err-clause-rows
returns-in-Err-clause-rows c =
    drop_missing (box_of c.args.user c.args.name.now) c.args.rows.now.items c.in-Err.field-0
    (subst (λ (rs : List (BoxId × Mailbox)). IsGap (box_of c.args.user c.args.name.now) rs c.in-Err.field-0) c.as_slice.ensures.value c.in-Err.ensures.missing) c.requires
