use Rattle.std.proofs.Common.{[], is_some, ap, sym}
use Rattle.verb_core.specs.Boxes.{box_of}
use Rattle.verb_core.specs.Mailboxes.{no_mail}
use Rattle.mail_rows.proofs.PlaceLaws.{row_placed, row_missing}
use Rattle.box_store.proofs.rows.has_row.Goals as goal

pub returns-in-Ok : goal.returns-in-Ok
returns-in-Ok c = sym (ap is_some (row_placed (box_of c.args.user c.args.name.now) c.args.rows.now c.in-Ok.field-0 c.in-Ok.ensures.found (box_of c.args.user [], no_mail)))

pub returns-in-Err : goal.returns-in-Err
returns-in-Err c = sym (ap is_some (row_missing (box_of c.args.user c.args.name.now) c.args.rows.now c.in-Err.field-0 c.in-Err.ensures.missing c.requires))
