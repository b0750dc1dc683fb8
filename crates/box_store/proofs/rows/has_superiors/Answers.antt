use Rattle.std.proofs.Common.{◌∙◌, ◌&&◌, List, ℕ, true, cond, get_or, ap, sym, take, arith}
use Rattle.std.specs.List.{list_all}
use Rattle.verb_core.specs.Boxes.{box_of, has_row}
use Rattle.verb_core.specs.Names.{is_slash, superiors}
use Rattle.box_store.proofs.Making.{one_above}
use Rattle.box_store.proofs.rows.has_superiors.Goals as goal

pub loop-place-preserved : goal.loop-place-preserved
loop-place-preserved c =
    let p : List ℕ → _ = λ superior. has_row (box_of c.args.user superior) c.args.rows.now in
    let name = c.args.name.now in
    let place = c.loop-place.place in
    record {
      behind = omega (arith, c.loop-place.invariant.behind);
      all =
          c.both-all.ensures
          ∙ (λ j. c.loop-place.invariant.all j && c.has_superior-here.ensures j)
          ∙ ap (λ (front : List ℕ). list_all p (superiors (take c.loop-place.place c.args.name.now)) && cond (is_slash (get_or c.args.name.now c.loop-place.place 0)) (has_row (box_of c.args.user front) c.args.rows.now) true) c.before-in-loop-place.ensures
          ∙ sym (one_above p c.args.name.now c.loop-place.place 0 c.loop-place.invariant.behind (omega (arith, c.loop-place-test.true, c.loop-place.auto.place-end)));
    }
