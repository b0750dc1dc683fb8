use Rattle.std.proofs.Common.{◌≡◌, ◌-◌, ◌∙◌, suc, refl, arith}
use Rattle.mail_rows.proofs.Patterns.{first_cells, first_end, cells_more, end_more, whole}
use Rattle.mail_rows.proofs.pattern.is_match.Goals as goal

pub loop-place-init : goal.loop-place-init
loop-place-init c = record {
  within = omega arith;
  cells = λ letters is. first_cells c.args.pattern.now c.args.cells.now letters is;
  at_end = first_end c.args.pattern.now;
}

pub loop-place-preserved : goal.loop-place-preserved
loop-place-preserved c =
    let one : c.loop-place.place ≡ suc (c.loop-place.place - 1) = omega (arith, c.loop-place-test.true) in
    record {
      within = omega (arith, c.loop-place.invariant.within);
      cells = λ letters is. cells_more c.args.pattern.now c.loop-place.place (c.loop-place.place - 1) _ one c.loop-place.invariant.within refl c.loop-place.cells c.pass.new.cells c.loop-place.at_end letters (c.loop-place.invariant.cells letters is) c.loop-place.invariant.at_end c.pass.ensures;
      at_end = c.passes_end-at_end.ensures ∙ end_more c.args.pattern.now c.loop-place.place (c.loop-place.place - 1) _ one c.loop-place.invariant.within refl c.loop-place.at_end _ c.loop-place.invariant.at_end refl;
    }

pub returns : goal.returns
returns c = λ letters is. whole c.args.pattern.now c.loop-place.place c.loop-place.cells c.loop-place.at_end c.matches_whole.result letters (omega (arith, c.loop-place-test.false)) (c.loop-place.invariant.cells letters is) c.loop-place.invariant.at_end c.matches_whole.ensures
