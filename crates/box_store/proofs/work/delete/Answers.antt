use Rattle.std.proofs.Common.{◌∙◌, sym, List, ap₂}
use Rattle.verb_core.specs.declared.mailbox.Entry.{Entry}
use Rattle.verb_core.specs.Names.{lost_found}
use Rattle.verb_core.specs.Mailboxes.{put_all}
use Rattle.verb_core.specs.Boxes.{box_of, change_row}
use Rattle.verb_core.specs.Step.{Boxes}
use Rattle.verb_core.proofs.Moves.{rising-left}
use Rattle.box_store.proofs.WorkLaws.{spared_saved, deleted_none, deleted_some}
use Rattle.box_store.proofs.work.delete.Goals as goal

pub put_into-requires-clause-rising : goal.put_into-requires-clause-rising
put_into-requires-clause-rising c = rw c.leave.ensures.rows (rising-left c.args.user c.args.name.now c.args.rows.now.items c.requires.rising)

pub put_into-requires-clause-spare : goal.put_into-requires-clause-spare
put_into-requires-clause-spare c =
    rw (c.leave.ensures.rows, c.as_slice.ensures.value, c.without-saved.ensures)
    (spared_saved (box_of c.args.user lost_found) c.args.user c.args.name.now c.args.keys.now c.in-Some.mailbox c.args.spares.now c.args.rows.now.items (sym c.in-Some.ensures.row) c.requires.spare)

pub returns-in-None : goal.returns-in-None
returns-in-None c =
    c.leave.ensures.rows
    ∙ deleted_none c.args.user c.args.name.now c.args.keys.now c.args.rows.now.items (sym c.is_fixed.ensures ∙ c.if-is_fixed.false) (sym c.in-None.ensures.row)

pub returns-in-Some : goal.returns-in-Some
returns-in-Some c =
    c.put_into.ensures.rows
    ∙ ap₂ (λ (es : List Entry) (rs : Boxes). change_row (box_of c.args.user lost_found) (put_all es) rs) (c.as_slice.ensures.value ∙ c.without-saved.ensures) c.leave.ensures.rows
    ∙ deleted_some c.args.user c.args.name.now c.args.keys.now c.in-Some.mailbox c.args.rows.now.items (sym c.is_fixed.ensures ∙ c.if-is_fixed.false) (sym c.in-Some.ensures.row)
