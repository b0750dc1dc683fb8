use Rattle.std.proofs.Common.{◌∙◌, cond, ap, arith}
use Rattle.replay_plan.specs.declared.slots.Part.TheVariants.{Level}
use Rattle.replay_plan.specs.Slots.{spot_on, same_spot, level_at}
use Rattle.replay_plan.proofs.Steps.{shorter_leads, shorter_same}
use Rattle.replay_plan.proofs.skips.shorten.Goals as goal

pub returns-in_ok-set-clause-same : goal.returns-in_ok-set-clause-same
returns-in_ok-set-clause-same c =
    shorter_same c.args.end c.args.next.now c.set.new.self (spot_on c.args.touch.now c.args.written (Level 0)) c.args.level c.args.further c.look-beyond.result
    c.requires.leads c.requires.further c.requires.taken c.look-beyond.ensures (omega (arith, c.if-beyond-gt0.true))
    (λ s. c.in_ok-set.ensures s ∙ ap (λ t. cond (same_spot s t) c.look-beyond.result (level_at c.args.next.now s)) (c.slot_on-slot.ensures c.args.written))

pub returns-in_ok-set-clause-leads : goal.returns-in_ok-set-clause-leads
returns-in_ok-set-clause-leads c =
    shorter_leads c.args.end c.args.next.now c.set.new.self (spot_on c.args.touch.now c.args.written (Level 0)) c.args.level c.args.further c.look-beyond.result
    c.requires.leads c.requires.further c.requires.taken c.look-beyond.ensures (omega (arith, c.if-beyond-gt0.true))
    (λ s. c.in_ok-set.ensures s ∙ ap (λ t. cond (same_spot s t) c.look-beyond.result (level_at c.args.next.now s)) (c.slot_on-slot.ensures c.args.written))
