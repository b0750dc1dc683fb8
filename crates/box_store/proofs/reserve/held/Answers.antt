use Rattle.std.proofs.Common.{◌∙◌, [], Option, option_map, unwrap_or, length, sym, ap}
use Rattle.verb_core.specs.declared.mailbox.Mailbox.{Mailbox}
use Rattle.verb_core.specs.Boxes.{box_of}
use Rattle.mail_rows.proofs.PlaceLaws.{row_placed, row_missing}
use Rattle.box_store.proofs.reserve.held.Goals as goal

pub returns-in-Ok : goal.returns-in-Ok
returns-in-Ok c =
    c.len.ensures
    ∙ ap (λ (o : Option Mailbox). length (unwrap_or (option_map (λ (m : Mailbox). m.entries) o) [])) (sym (row_placed (box_of c.args.user c.args.name.now) c.args.rows.now c.in-Ok.at c.in-Ok.ensures.found c.index-rows-at.result))

pub returns-in-Err : goal.returns-in-Err
returns-in-Err c =
    ap (λ (o : Option Mailbox). length (unwrap_or (option_map (λ (m : Mailbox). m.entries) o) [])) (sym (row_missing (box_of c.args.user c.args.name.now) c.args.rows.now c.in-Err.field-0 c.in-Err.ensures.missing c.requires))
