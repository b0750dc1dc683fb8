use Rattle.std.proofs.Common.{◌≡◌, ◌-◌, suc, arith}
use Rattle.mail_rows.proofs.Patterns.{passed_more, handed_more}
use Rattle.mail_rows.proofs.pattern.pass.Goals as goal

pub loop-place-preserved : goal.loop-place-preserved
loop-place-preserved c =
    let one : c.loop-place.place ≡ suc (c.loop-place.place - 1) = omega (arith, c.loop-place-test.true) in
    record {
      within = omega (arith, c.loop-place.invariant.within);
      cells = passed_more c.args.byte c.args.at_end c.args.cells.now c.loop-place.cells c.loop-place.place (c.loop-place.place - 1) one _ c.loop-place.later c.loop-place.invariant.within c.loop-place.invariant.cells c.loop-place.invariant.later c.pass_cell-later.new.cell c.pass_cell-later.ensures.cell;
      later = handed_more c.args.byte c.args.at_end c.args.cells.now c.loop-place.cells c.loop-place.place (c.loop-place.place - 1) one _ c.loop-place.later c.loop-place.invariant.within c.loop-place.invariant.cells c.loop-place.invariant.later c.pass_cell-later.result c.pass_cell-later.ensures.value;
    }
