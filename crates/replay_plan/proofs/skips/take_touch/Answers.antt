use Rattle.std.proofs.Common.{◌≡◌, ◌∙◌, ◌∷◌, ◌+◌, [], ap, cond, max}
use Rattle.replay_plan.specs.declared.slots.Part.TheVariants.{Level}
use Rattle.replay_plan.specs.Slots.{Spot, is_at, level_at}
use Rattle.replay_plan.proofs.Steps.{raised_here, taken_leads, taken_now}
use Rattle.replay_plan.proofs.skips.take_touch.Goals as goal

pub returns-clause-taken : goal.returns-clause-taken
returns-clause-taken c =
    taken_now c.args.end c.args.next.now c.raise.new.self c.args.touch.now c.args.level c.requires.leads c.requires.below
    (λ s. c.in_ok-raise.ensures s ∙ ap (λ b. max (cond b (c.args.level + 1) 0) (level_at c.args.next.now s)) (raised_here c.args.touch.now s (Level c.args.level) c.writes.result _ c.writes.ensures (c.slot_on-slot.ensures s.written)))

pub returns-clause-leads : goal.returns-clause-leads
returns-clause-leads c =
    taken_leads c.args.end c.args.next.now c.raise.new.self c.args.touch.now c.args.level c.requires.leads c.requires.below
    (λ s. c.in_ok-raise.ensures s ∙ ap (λ b. max (cond b (c.args.level + 1) 0) (level_at c.args.next.now s)) (raised_here c.args.touch.now s (Level c.args.level) c.writes.result _ c.writes.ensures (c.slot_on-slot.ensures s.written)))
