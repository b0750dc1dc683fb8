use Rattle.std.proofs.Common.{◌≡◌, Err, Ok, ap, refl, subst, sym}
use Rattle.std.specs.Prelude.{Result}
use Rattle.std.proofs.lemmas.Result.{err_from_is_err_and}
use Rattle.mail_cycle.specs.Refusing.{refused_by}
use Rattle.mail_cycle.specs.declared.refused.CycleRefused.{CycleRefused}
use Rattle.mail_cycle.specs.declared.settling.Rewound.{Rewound}
use Rattle.desk_journal.specs.Lasting.{JournalTold, journal_of}
use Rattle.desk_journal.specs.Stored.{TextsNoted}
use Rattle.time_desk.specs.Requests.{RedoesFor}
use Rattle.time_desk.proofs.Requests.{broken, redone, task_can, through, undue}
use Rattle.time_desk.proofs.Rewinding.{refused_alike}
use Rattle.time_desk.proofs.redo.rework.Goals as goal

pub rewound-requires-clause-can : goal.rewound-requires-clause-can
rewound-requires-clause-can g c = λ lifetimes lives.
    task_can g.D.Disk.told c.args.desk.now c.journal.inside.past.end c.args.at c.args.asked.now c.in_ok-due.due c.cycles_leave_states.ensures.goes c.withdrawals_leave_states.ensures.goes c.in_ok-due.ensures.task c.requires.known
    c.stands.ensures.timeline c.stands.ensures.below c.stands.ensures.undone (subst (λ (j : JournalTold g.row.D.Denot). TextsNoted j.gate c.args.desk.now.notes c.args.desk.now.kept) (sym c.journal.view_is) c.requires.noted.noted)

pub returns-clause-redoes : goal.returns-clause-redoes
returns-clause-redoes g c =
    let desk = c.args.desk.now in
    let past = c.journal.inside.past in
    through g.D.Disk.told desk c.args.at c.args.asked.now c.args.journal.now past c.rewound.new.past c.journal.inside.log c.args.steps.now c.rewound.new.steps (Ok c.in_ok-made.made) c.journal.view_is
    (redone g.D.Disk.told desk c.args.at c.args.asked.now c.in_ok-due.due past c.rewound.new.past (c.rewound.new.past ≡ past) c.args.steps.now c.rewound.new.steps c.in_ok-made.made
    c.cycles_can_be_withdrawn.ensures.items c.stands.ensures.base c.stands.ensures.timeline c.stands.ensures.below c.in_ok-due.ensures.task c.in_ok-made.ensures)

-- it was not worked out
pub returns-in_err-made-clause-redoes : goal.returns-in_err-made-clause-redoes
returns-in_err-made-clause-redoes g c =
    let p = err_from_is_err_and c.from_residual-in_err-made.result c.from_residual-in_err-made.ensures.1 in
    let desk = c.args.desk.now in
    let past = c.journal.inside.past in
    let fault = c.in_err-made.field-0.0 in
    refused_alike (λ (r : Result Rewound CycleRefused). RedoesFor g.D.Disk.told desk c.args.at c.args.asked.now c.args.journal.now.disk c.rewound.new.past.disk (journal_of c.rewound.new.past c.journal.inside.log ≡ c.args.journal.now) c.args.steps.now c.rewound.new.steps r)
    c.from_residual-in_err-made.result p.0 (refused_by fault) p.1 p.2
    (through g.D.Disk.told desk c.args.at c.args.asked.now c.args.journal.now past c.rewound.new.past c.journal.inside.log c.args.steps.now c.rewound.new.steps (Err (refused_by fault)) c.journal.view_is
    (broken g.D.Disk.told desk c.args.at c.args.asked.now c.in_ok-due.due past c.rewound.new.past (c.rewound.new.past ≡ past) c.args.steps.now c.rewound.new.steps fault c.stands.ensures.undone c.in_ok-due.ensures.task c.in_err-made.ensures))

-- none is due
pub returns-in_err-due-clause-redoes : goal.returns-in_err-due-clause-redoes
returns-in_err-due-clause-redoes g c =
    let p = err_from_is_err_and c.from_residual.result c.from_residual.ensures.1 in
    let desk = c.args.desk.now in
    let journal = c.args.journal.now in
    refused_alike (λ (r : Result Rewound CycleRefused). RedoesFor g.D.Disk.told desk c.args.at c.args.asked.now journal.disk journal.disk (journal ≡ journal) c.args.steps.now c.args.steps.now r) c.from_residual.result p.0 c.in_err-due.field-0.0 p.1 p.2
    (undue g.D.Disk.told desk c.args.at c.args.asked.now journal.disk (journal ≡ journal) c.args.steps.now c.in_err-due.field-0.0 c.in_err-due.ensures.refused (λ same. c.in_err-due.ensures.unread (ap Err same)) refl)
