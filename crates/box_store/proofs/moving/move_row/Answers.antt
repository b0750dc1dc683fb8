use Rattle.verb_core.specs.Boxes.{box_of}
use Rattle.mail_rows.proofs.PlaceLaws.{gapped, row_missing}
use Rattle.box_store.proofs.RowMoves.{stays_put}
use Rattle.box_store.proofs.moving.move_row.Goals as goal

pub returns-in-Err : goal.returns-in-Err
returns-in-Err c =
    stays_put c.args.user c.args.moved c.args.rows.now.items
    (row_missing (box_of c.args.user c.args.moved.from) c.args.rows.now.items c.in-Err.field-0
    (gapped c.args.user c.bytes.result.now c.args.moved.from c.as_slice.result.now c.args.rows.now.items c.in-Err.field-0 c.bytes.ensures.value c.as_slice.ensures.value c.in-Err.ensures.missing) c.requires)
