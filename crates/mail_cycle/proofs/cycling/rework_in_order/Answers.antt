use Rattle.std.proofs.Common.{◌∙◌, arith, refl}
use Rattle.std.proofs.lemmas.Result.{err_from_is_err_and}
use Rattle.verb_core.specs.declared.bodies.BodiesFault.TheVariants.{NoMemory}
use Rattle.replay_crew.proofs.Heard.{stays_on}
use Rattle.mail_cycle.specs.declared.cycling.AtPoint.{AtPoint}
use Rattle.mail_cycle.specs.declared.running.Replayed.{Replayed}
use Rattle.mail_cycle.specs.declared.settling.Rewound.{Rewound}
use Rattle.mail_cycle.proofs.Made.{house_replayed, long_replayed}
use Rattle.mail_cycle.proofs.Reworked.{counts_later, replayed, rest_there, reworks_none, reworks_ok}
use Rattle.mail_cycle.proofs.cycling.rework_in_order.Goals as goal

pub settled-requires-clause-house : goal.settled-requires-clause-house
settled-requires-clause-house g c =
    let old = g.B.Bodies.told c.args.bodies.now in
    let mid = g.B.Bodies.told c.at_point.new.bodies in
    let due = c.args.due.now in
    let there = c.in_ok-there.ensures in
    let done = c.in-Ok.ensures in
    house_replayed due c.stands.ensures.task c.args.first c.requires.begins old mid c.in_ok-there.there there.there c.in-Ok.later
    (replayed ⊥ due c.stands.ensures.task c.args.first c.requires.begins old mid mid c.in_ok-there.there there.there there.stays c.in-Ok.later done.heard done.same done.store done.valid done.shows)

pub settled-requires-clause-long : goal.settled-requires-clause-long
settled-requires-clause-long g c =
    let old = g.B.Bodies.told c.args.bodies.now in
    let mid = g.B.Bodies.told c.at_point.new.bodies in
    let due = c.args.due.now in
    let there = c.in_ok-there.ensures in
    let done = c.in-Ok.ensures in
    long_replayed due c.stands.ensures.task c.args.first c.requires.begins old mid c.in_ok-there.there there.there c.in-Ok.later
    (replayed ⊥ due c.stands.ensures.task c.args.first c.requires.begins old mid mid c.in_ok-there.there there.there there.stays c.in-Ok.later done.heard done.same done.store done.valid done.shows)

pub returns-in-Ok-settled : goal.returns-in-Ok-settled
returns-in-Ok-settled g c =
    let old = g.B.Bodies.told c.args.bodies.now in
    let mid = g.B.Bodies.told c.at_point.new.bodies in
    let new = g.B.Bodies.told c.replay_in_order.new.bodies in
    let due = c.args.due.now in
    let task = c.stands.ensures.task in
    let begins = c.requires.begins in
    let there = c.in_ok-there.ensures in
    let done = c.in-Ok.ensures in
    let settles = c.in-Ok-settled.ensures.settles in
    reworks_ok (g.B.Bodies.leads c.args.bodies.now c.replay_in_order.new.bodies) due task c.args.first begins old mid new c.in_ok-there.there there.there c.in-Ok.later
    (replayed ⊥ due task c.args.first begins old mid new c.in_ok-there.there there.there there.stays c.in-Ok.later done.heard done.same done.store done.valid done.shows)
    c.in-Ok-settled.made c.args.steps.now c.at_point.new.steps c.replay_in_order.new.steps c.settled.new.steps settles.from settles.made there.steps done.steps c.in-Ok-settled.ensures.steps done.reads there.reads
    (stays_on old mid new there.stays done.stays) (g.met.B.Bodies.leads_on _ _ _ there.leads done.leads)

-- where a read fails or memory is wanting, no item was performed twice
pub returns-in_err-there : goal.returns-in_err-there
returns-in_err-there g c =
    let old = g.B.Bodies.told c.args.bodies.now in
    let mid = g.B.Bodies.told c.at_point.new.bodies in
    let p = err_from_is_err_and c.from_residual.result c.from_residual.ensures.1 in
    let there = c.in_err-there.ensures in
    reworks_none (g.B.Bodies.leads c.args.bodies.now c.at_point.new.bodies) c.args.due.now c.stands.ensures.task c.args.first c.requires.begins old old mid c.args.steps.now c.at_point.new.steps c.from_residual.result p.0 c.in_err-there.field-0.0 p.1 p.2
    (omega (arith, c.requires.begins.few, there.most))
    (counts_later AtPoint Rewound old old mid c.in_err-there.field-0.0 refl there.reads) there.stays there.leads

pub returns-in-Err : goal.returns-in-Err
returns-in-Err g c =
    let old = g.B.Bodies.told c.args.bodies.now in
    let mid = g.B.Bodies.told c.at_point.new.bodies in
    let new = g.B.Bodies.told c.replay_in_order.new.bodies in
    let due = c.args.due.now in
    let task = c.stands.ensures.task in
    let begins = c.requires.begins in
    let there = c.in_ok-there.ensures in
    let done = c.in-Err.ensures in
    let rest = rest_there ⊥ due task c.args.first begins old mid new c.in_ok-there.there there.there in
    reworks_none (g.B.Bodies.leads c.args.bodies.now c.replay_in_order.new.bodies) due task c.args.first begins old mid new c.args.steps.now c.replay_in_order.new.steps _ c.in-Err.fault c.in-Err.fault refl refl
    (omega (arith, task.long, rest, begins.few, there.steps, done.most))
    (counts_later Replayed Rewound old mid new c.in-Err.fault there.reads done.reads) (stays_on old mid new there.stays done.stays) (g.met.B.Bodies.leads_on _ _ _ there.leads done.leads)

pub returns-in-Err-settled : goal.returns-in-Err-settled
returns-in-Err-settled g c =
    let old = g.B.Bodies.told c.args.bodies.now in
    let mid = g.B.Bodies.told c.at_point.new.bodies in
    let new = g.B.Bodies.told c.replay_in_order.new.bodies in
    let due = c.args.due.now in
    let task = c.stands.ensures.task in
    let begins = c.requires.begins in
    let there = c.in_ok-there.ensures in
    let done = c.in-Ok.ensures in
    let rest = rest_there ⊥ due task c.args.first begins old mid new c.in_ok-there.there there.there in
    reworks_none (g.B.Bodies.leads c.args.bodies.now c.replay_in_order.new.bodies) due task c.args.first begins old mid new c.args.steps.now c.settled.new.steps _ NoMemory NoMemory refl refl
    (omega (arith, task.long, rest, begins.few, there.steps, done.steps, c.in-Err-settled.ensures.most))
    (done.reads ∙ there.reads) (stays_on old mid new there.stays done.stays) (g.met.B.Bodies.leads_on _ _ _ there.leads done.leads)
