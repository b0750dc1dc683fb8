use Rattle.std.proofs.Common.{◌∙◌, ◌<◌, ◌≤◌, arith}
use Rattle.replay_plan.specs.declared.slots.Part.TheVariants.{Level}
use Rattle.replay_plan.specs.Slots.{spot_on}
use Rattle.replay_plan.proofs.Steps.{led_over, led_within, led_smaller, led_first}
use Rattle.replay_plan.proofs.skips.first_free.Goals as goal

pub loop-further-smaller : goal.loop-further-smaller
loop-further-smaller c = led_smaller c.args.end c.loop-further.next (spot_on c.args.touch.now c.args.written (Level 0)) c.loop-further.free c.loop-further.further c.loop-further.invariant.leads c.loop-further.invariant.further c.loop-further-test.true

pub loop-further-preserved : goal.loop-further-preserved
loop-further-preserved c =
    let over : c.loop-further.free < c.loop-further.further = led_over c.args.end c.loop-further.next (spot_on c.args.touch.now c.args.written (Level 0)) c.loop-further.free c.loop-further.further c.loop-further.invariant.leads c.loop-further.invariant.further c.loop-further-test.true in
    let most : c.loop-further.further ≤ c.args.end = led_within c.args.end c.loop-further.next (spot_on c.args.touch.now c.args.written (Level 0)) c.loop-further.free c.loop-further.further c.loop-further.invariant.leads c.loop-further.invariant.further c.loop-further-test.true in
    record {
      same = λ s. c.in_ok-shorten.ensures.same s ∙ c.loop-further.invariant.same s;
      leads = c.in_ok-shorten.ensures.leads;
      further = c.look-further-in-loop-further.ensures;
      from = omega (arith, over, c.loop-further.invariant.from);
      within = omega (arith, most);
      first = led_first c.args.end c.loop-further.next (spot_on c.args.touch.now c.args.written (Level 0)) c.loop-further.free c.loop-further.further c.loop-further.invariant.leads c.loop-further.invariant.further c.loop-further-test.true
          c.args.next.now c.args.level c.loop-further.invariant.same c.loop-further.invariant.first;
    }
