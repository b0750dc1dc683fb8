use Rattle.std.proofs.Common.{◌∙◌, refl, sym, Some}
use Rattle.verb_core.specs.Boxes.{box_of}
use Rattle.verb_core.specs.Mailboxes.{emptied}
use Rattle.mail_rows.proofs.PlaceLaws.{placed, gapped, row_read, row_changed, row_missing, change_missing}
use Rattle.box_store.proofs.work.empty_row.Goals as goal

pub returns-in-Ok-clause-row : goal.returns-in-Ok-clause-row
returns-in-Ok-clause-row c =
    (λ j. Some (record { next = c.index_mut.result.now.1.next; entries = c.take_entries-entries.ensures.list j }))
    ∙ sym (row_read (box_of c.args.user c.args.name.now) c.args.rows.now.items c.in-Ok.at c.index_mut.result.now
    (placed c.args.user c.args.name.now c.args.name.now c.as_slice.result.now c.args.rows.now.items c.in-Ok.at refl c.as_slice.ensures.value c.in-Ok.ensures.found) c.index_mut.ensures.value)

pub returns-in-Ok-clause-rows : goal.returns-in-Ok-clause-rows
returns-in-Ok-clause-rows c =
    row_changed (box_of c.args.user c.args.name.now) c.args.rows.now.items c.in-Ok.at emptied c.index_mut.result.now c.take_entries-entries.new.mailbox
    (placed c.args.user c.args.name.now c.args.name.now c.as_slice.result.now c.args.rows.now.items c.in-Ok.at refl c.as_slice.ensures.value c.in-Ok.ensures.found)
    c.requires c.index_mut.ensures.value c.take_entries-entries.ensures.mailbox

pub returns-in-Err-clause-row : goal.returns-in-Err-clause-row
returns-in-Err-clause-row c =
    sym (row_missing (box_of c.args.user c.args.name.now) c.args.rows.now.items c.in-Err.field-0
    (gapped c.args.user c.args.name.now c.args.name.now c.as_slice.result.now c.args.rows.now.items c.in-Err.field-0 refl c.as_slice.ensures.value c.in-Err.ensures.missing) c.requires)

pub returns-in-Err-clause-rows : goal.returns-in-Err-clause-rows
returns-in-Err-clause-rows c =
    change_missing (box_of c.args.user c.args.name.now) c.args.rows.now.items c.in-Err.field-0
    (gapped c.args.user c.args.name.now c.args.name.now c.as_slice.result.now c.args.rows.now.items c.in-Err.field-0 refl c.as_slice.ensures.value c.in-Err.ensures.missing)
    emptied c.requires
