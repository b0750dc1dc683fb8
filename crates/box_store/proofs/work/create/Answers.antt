use Rattle.std.proofs.Common.{◌∙◌, ap, []}
use Rattle.verb_core.specs.declared.mailbox.Mailbox.{Mailbox}
use Rattle.verb_core.specs.Boxes.{add_row}
use Rattle.mail_rows.proofs.PlaceLaws.{placed, gapped, row_placed, row_missing}
use Rattle.box_store.proofs.WorkLaws.{created_there, created_new}
use Rattle.box_store.proofs.work.create.Goals as goal

pub returns-in-Ok-clause-rows : goal.returns-in-Ok-clause-rows
returns-in-Ok-clause-rows c =
    created_there c.args.mailbox _ c.args.rows.now.items
    (row_placed c.args.mailbox c.args.rows.now.items c.in-Ok.field-0
    (placed c.args.mailbox.user c.bytes.result.now c.args.mailbox.name c.as_slice.result.now c.args.rows.now.items c.in-Ok.field-0 c.bytes.ensures.value c.as_slice.ensures.value c.in-Ok.ensures.found)
    (c.args.mailbox, record { next = 0; entries = [] }))

pub insert_row-requires-clause-gap : goal.insert_row-requires-clause-gap
insert_row-requires-clause-gap c =
    gapped c.args.mailbox.user c.bytes.result.now c.args.mailbox.name c.as_slice.result.now c.args.rows.now.items c.in-Err.place c.bytes.ensures.value c.as_slice.ensures.value c.in-Err.ensures.missing

pub returns-in-Err-clause-rows : goal.returns-in-Err-clause-rows
returns-in-Err-clause-rows c =
    c.insert_row.ensures.rows
    ∙ ap (λ (m : Mailbox). add_row c.args.mailbox m c.args.rows.now.items) c.no_mail.ensures
    ∙ created_new c.args.mailbox c.args.rows.now.items
    (row_missing c.args.mailbox c.args.rows.now.items c.in-Err.place
    (gapped c.args.mailbox.user c.bytes.result.now c.args.mailbox.name c.as_slice.result.now c.args.rows.now.items c.in-Err.place c.bytes.ensures.value c.as_slice.ensures.value c.in-Err.ensures.missing) c.requires.rising)
