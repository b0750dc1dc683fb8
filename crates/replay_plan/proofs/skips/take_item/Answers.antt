use Rattle.std.proofs.Common.{◌∙◌, ◌∷◌, ◌||◌, [], ap, nat_lt}
use Rattle.replay_plan.specs.declared.slots.Part.TheVariants.{Level}
use Rattle.replay_plan.specs.Slots.{is_at, level_at}
use Rattle.replay_plan.proofs.Steps.{taken_next}
use Rattle.replay_plan.proofs.skips.take_item.Goals as goal

pub loop-touch-preserved : goal.loop-touch-preserved
loop-touch-preserved c = record {
  leads = c.in_ok-take_touch.ensures.leads;
  taken = λ spot.
      taken_next (λ a. is_at (Level c.args.level ∷ []) a spot) c.args.touches.now c.loop-touch.touch-index c.touch-item.result _ (nat_lt 0 (level_at c.loop-touch.next spot)) _ c.loop-touch-test.true
      (c.in_ok-take_touch.ensures.taken spot ∙ ap (λ a. is_at (Level c.args.level ∷ []) a spot || nat_lt 0 (level_at c.loop-touch.next spot)) c.touch-item.is) (c.loop-touch.invariant.taken spot);
}
