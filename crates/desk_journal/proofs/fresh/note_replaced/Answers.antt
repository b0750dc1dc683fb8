use Rattle.desk_journal.proofs.Spots.{row_noted}
use Rattle.desk_journal.proofs.fresh.note_replaced.Goals as goal

pub loop-row-preserved : goal.loop-row-preserved
loop-row-preserved c = λ bytes all.
    row_noted c.args.cycle c.args.replaces.now c.loop-row.row-index c.row-item.result c.args.place bytes c.loop-row.rest.now c.in_ok-rest.rest.now c.loop-row.shelf.notes c.note_first.new.shelf.notes
    c.loop-row-test.true c.row-item.is c.in_ok-rest.ensures (c.loop-row.invariant bytes all)
