use Rattle.std.proofs.Common.{refl, sym}
use Rattle.verb_core.specs.Boxes.{box_of}
use Rattle.mail_rows.proofs.PlaceLaws.{placed, gapped, row_placed, row_missing}
use Rattle.mail_rows.proofs.lookup.search_mailbox.Goals as goal

pub returns-in-Ok : goal.returns-in-Ok
returns-in-Ok c =
    sym (row_placed (box_of c.args.user c.args.name.now) c.args.rows.now c.in-Ok.place
    (placed c.args.user c.bytes.result.now c.args.name.now c.args.rows.now c.args.rows.now c.in-Ok.place c.bytes.ensures.value refl c.in-Ok.ensures.found) c.index-rows-place.result)

pub returns-in-Err : goal.returns-in-Err
returns-in-Err c =
    sym (row_missing (box_of c.args.user c.args.name.now) c.args.rows.now c.in-Err.field-0
    (gapped c.args.user c.bytes.result.now c.args.name.now c.args.rows.now c.args.rows.now c.in-Err.field-0 c.bytes.ensures.value refl c.in-Err.ensures.missing) c.requires)
