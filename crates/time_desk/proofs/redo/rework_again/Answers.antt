use Rattle.std.proofs.Common.{◌≡◌, Err, Ok, ap, refl}
use Rattle.std.specs.Prelude.{Result}
use Rattle.std.proofs.lemmas.Result.{err_from_is_err_and}
use Rattle.mail_cycle.specs.Refusing.{refused_by}
use Rattle.mail_cycle.specs.declared.refused.CycleRefused.{CycleRefused}
use Rattle.mail_cycle.specs.declared.settling.Rewound.{Rewound}
use Rattle.time_desk.specs.Requests.{RedoesAloneFor}
use Rattle.time_desk.proofs.Requests.{alone, broken, redone, task_can, undue}
use Rattle.time_desk.proofs.Rewinding.{refused_alike}
use Rattle.time_desk.proofs.redo.rework_again.Goals as goal

pub again-requires-clause-can : goal.again-requires-clause-can
again-requires-clause-can g c =
    task_can g.D.Disk.told c.args.desk.now c.args.past.now.end c.args.at c.args.asked.now c.in_ok-due.due c.cycles_leave_states.ensures.goes c.withdrawals_leave_states.ensures.goes c.in_ok-due.ensures.task c.requires.known
    c.stands.ensures.timeline c.stands.ensures.below c.stands.ensures.undone c.requires.noted.noted

pub returns-clause-redoes : goal.returns-clause-redoes
returns-clause-redoes g c =
    let desk = c.args.desk.now in
    let done = c.in_ok-made.ensures in
    alone g.D.Disk.told desk c.args.at c.args.asked.now c.args.past.now.disk c.again.new.past.disk (c.again.new.past ≡ c.args.past.now) _ _ (Ok c.in_ok-made.made)
    (redone g.D.Disk.told desk c.args.at c.args.asked.now c.in_ok-due.due c.args.past.now c.again.new.past (c.again.new.past ≡ c.args.past.now) _ _ c.in_ok-made.made
    c.cycles_can_be_withdrawn.ensures.items c.stands.ensures.base c.stands.ensures.timeline c.stands.ensures.below c.in_ok-due.ensures.task done.2)

-- it was not worked out
pub returns-in_err-made-clause-redoes : goal.returns-in_err-made-clause-redoes
returns-in_err-made-clause-redoes g c =
    let p = err_from_is_err_and c.from_residual-in_err-made.result c.from_residual-in_err-made.ensures.1 in
    let desk = c.args.desk.now in
    let done = c.in_err-made.ensures in
    refused_alike (λ (r : Result Rewound CycleRefused). RedoesAloneFor g.D.Disk.told desk c.args.at c.args.asked.now c.args.past.now.disk c.again.new.past.disk r) c.from_residual-in_err-made.result p.0 _ p.1 p.2
    (alone g.D.Disk.told desk c.args.at c.args.asked.now c.args.past.now.disk c.again.new.past.disk (c.again.new.past ≡ c.args.past.now) _ _ (Err (refused_by c.in_err-made.field-0.0))
    (broken g.D.Disk.told desk c.args.at c.args.asked.now c.in_ok-due.due c.args.past.now c.again.new.past (c.again.new.past ≡ c.args.past.now) _ _ c.in_err-made.field-0.0 c.stands.ensures.undone c.in_ok-due.ensures.task done.2))

-- none is due
pub returns-in_err-due-clause-redoes : goal.returns-in_err-due-clause-redoes
returns-in_err-due-clause-redoes g c =
    let p = err_from_is_err_and c.from_residual.result c.from_residual.ensures.1 in
    let desk = c.args.desk.now in
    refused_alike (λ (r : Result Rewound CycleRefused). RedoesAloneFor g.D.Disk.told desk c.args.at c.args.asked.now c.args.past.now.disk c.args.past.now.disk r) c.from_residual.result p.0 c.in_err-due.field-0.0 p.1 p.2
    (alone g.D.Disk.told desk c.args.at c.args.asked.now c.args.past.now.disk c.args.past.now.disk (c.args.past.now ≡ c.args.past.now) 0 0 (Err c.in_err-due.field-0.0)
    (undue g.D.Disk.told desk c.args.at c.args.asked.now c.args.past.now.disk (c.args.past.now ≡ c.args.past.now) 0 c.in_err-due.field-0.0 c.in_err-due.ensures.refused (λ same. c.in_err-due.ensures.unread (ap Err same)) refl))
