use Rattle.std.proofs.Common.{◌∙◌, sym}
use Rattle.verb_core.specs.Boxes.{box_of}
use Rattle.box_store.proofs.WorkLaws.{rising_leave, spared_left, merged_none}
use Rattle.box_store.proofs.work.merge.Goals as goal

pub put_into-requires-clause-rising : goal.put_into-requires-clause-rising
put_into-requires-clause-rising c = rw c.leave.ensures.rows (rising_leave c.args.user c.args.source.now c.args.rows.now.items c.requires.rising)

pub put_into-requires-clause-spare : goal.put_into-requires-clause-spare
put_into-requires-clause-spare c =
    rw (c.leave.ensures.rows, c.as_slice.ensures)
    (spared_left (box_of c.args.user c.args.target.now) c.args.user c.args.source.now c.in-Some.mailbox c.args.spares.now c.args.rows.now.items (sym c.in-Some.ensures.row) c.requires.spare)

pub returns-in-None : goal.returns-in-None
returns-in-None c = c.leave.ensures.rows ∙ merged_none c.args.user c.args.source.now c.args.target.now c.args.rows.now.items (sym c.in-None.ensures.row)
