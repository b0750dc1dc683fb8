use Rattle.std.proofs.Common.{◌∙◌, ◌++◌, ◌+◌, ◌≡◌, List, ℕ, ap, sym, arith, zip, length, length-append, ◌∷◌, []}
use Rattle.replay_plan.specs.Placing.{Placed, levels_behind, level_behind, highest}
use Rattle.replay_plan.proofs.Least.{zip_none, levels_step}
use Rattle.replay_plan.proofs.Kept.{start_tells, start_knows, start_leads, bound_low, level_is, level_low, few_next, tells_next, knows_next}
use Rattle.replay_plan.proofs.planning.each_level.Goals as goal

pub loop-place-init : goal.loop-place-init
loop-place-init c = record {
  count = ap length c.new-levels.ensures.items;
  all =
      ap (λ (ns : List ℕ). ns ++ levels_behind (zip c.args.all.now ns) c.args.all.now) c.new-levels.ensures.items
      ∙ ap (λ (ps : List Placed). levels_behind ps c.args.all.now) (zip_none c.args.all.now);
  few = let e : highest c.new-levels.result.items ≡ 0 = ap highest c.new-levels.ensures.items in omega (arith, e);
  tells = start_tells c.args.all.now c.new-levels.result.items c.new-last.result c.new-levels.ensures.items c.new-last.ensures;
  knows = start_knows c.args.all.now c.new-levels.result.items c.new-next.result c.new-levels.ensures.items c.new-next.ensures;
  leads = start_leads _ c.new-next.result c.new-next.ensures;
}

pub level_of-requires-clause-few : goal.level_of-requires-clause-few
level_of-requires-clause-few c =
    let low = bound_low c.args.all.now c.loop-place.levels.items c.loop-place.place c.loop-place.last c.loop-place.next c.as_slice-touches.result.now
    c.loop-place.invariant.count c.loop-place-test.true c.loop-place.invariant.few c.loop-place.invariant.tells c.loop-place.invariant.knows in
    omega (arith, low, c.loop-place-test.true)

pub take_item-requires-clause-below : goal.take_item-requires-clause-below
take_item-requires-clause-below c =
    let low = level_low c.args.all.now c.loop-place.levels.items c.loop-place.place c.loop-place.last c.loop-place.next c.as_slice-touches.result.now
    c.loop-place.invariant.count c.loop-place-test.true c.loop-place.invariant.few c.loop-place.invariant.tells c.loop-place.invariant.knows c.in_ok-level.level c.in_ok-level.ensures.level in
    omega (arith, low, c.loop-place-test.true)

pub loop-place-preserved : goal.loop-place-preserved
loop-place-preserved c =
    let is = c.as_slice-touches.ensures ∙ c.index-all-place.is in
    let behind = level_is c.args.all.now c.loop-place.levels.items c.loop-place.place c.loop-place.last c.loop-place.next c.as_slice-touches.result.now
    c.loop-place.invariant.count c.loop-place-test.true c.loop-place.invariant.few c.loop-place.invariant.tells c.loop-place.invariant.knows c.in_ok-level.level c.in_ok-level.ensures.level in
    let low = level_low c.args.all.now c.loop-place.levels.items c.loop-place.place c.loop-place.last c.loop-place.next c.as_slice-touches.result.now
    c.loop-place.invariant.count c.loop-place-test.true c.loop-place.invariant.few c.loop-place.invariant.tells c.loop-place.invariant.knows c.in_ok-level.level c.in_ok-level.ensures.level in
    record {
      count = ap length c.in_ok-push.ensures.items ∙ length-append c.loop-place.levels.items (c.in_ok-level.level ∷ []) ∙ ap (λ n. n + 1) c.loop-place.invariant.count;
      all =
          levels_step c.args.all.now c.loop-place.levels.items c.push.new.self.items c.loop-place.place c.in_ok-level.level c.index-all-place.result
          (sym c.loop-place.invariant.count) c.loop-place-test.true (behind ∙ ap (level_behind (zip c.args.all.now c.loop-place.levels.items)) is) c.in_ok-push.ensures.items
          ∙ c.loop-place.invariant.all;
      few = few_next c.args.all.now c.loop-place.levels.items c.loop-place.place c.loop-place.last c.loop-place.next c.as_slice-touches.result.now
          c.loop-place.invariant.count c.loop-place-test.true c.loop-place.invariant.few c.loop-place.invariant.tells c.loop-place.invariant.knows c.in_ok-level.level c.push.new.self.items c.index-all-place.result is c.in_ok-push.ensures.items low;
      tells = tells_next c.args.all.now c.loop-place.levels.items c.loop-place.place c.loop-place.last c.loop-place.next c.as_slice-touches.result.now
          c.loop-place.invariant.count c.loop-place-test.true c.loop-place.invariant.few c.loop-place.invariant.tells c.loop-place.invariant.knows c.in_ok-level.level c.push.new.self.items c.index-all-place.result is c.in_ok-push.ensures.items
          c.raise_item.new.last c.in_ok-raise_item.ensures;
      knows = knows_next c.args.all.now c.loop-place.levels.items c.loop-place.place c.loop-place.last c.loop-place.next c.as_slice-touches.result.now
          c.loop-place.invariant.count c.loop-place-test.true c.loop-place.invariant.few c.loop-place.invariant.tells c.loop-place.invariant.knows c.in_ok-level.level c.push.new.self.items c.index-all-place.result is c.in_ok-push.ensures.items
          c.level_of.new.next c.take_item.new.next c.in_ok-level.ensures.same c.in_ok-take_item.ensures.taken;
      leads = c.in_ok-take_item.ensures.leads;
    }
