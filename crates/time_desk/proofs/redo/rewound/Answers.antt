use Rattle.std.proofs.Common.{rules, ◌≡◌, ◌∙◌, ◌≤◌, Err, ap, length, refl, subst, true}
use Rattle.std.proofs.lemmas.Result.{err_from_is_err_and}
use Rattle.cycle_rules.specs.Repairing.{leaves_numbers_for}
use Rattle.verb_core.specs.declared.bodies.BodiesFault.{BodiesFault}
use Rattle.verb_core.specs.declared.bodies.BodiesFault.TheVariants as bodies_faults
use Rattle.replay_crew.specs.Hearing.{TellsOf}
use Rattle.store_kept.specs.Kept.{Kept}
use Rattle.mail_cycle.specs.declared.beginning.Beginning.{Beginning}
use Rattle.mail_cycle.specs.declared.settling.Rewound.{Rewound}
use Rattle.desk_journal.specs.Lasting.{PastTold}
use Rattle.time_desk.specs.Cycling.{Reworks}
use Rattle.time_desk.specs.Replaying.{delivered_told}
use Rattle.time_desk.proofs.Delivering.{tells_delivered}
use Rattle.time_desk.proofs.Rewinding.{cause_of, reworks, reworks_none}
use Rattle.time_desk.proofs.Telling.{all_dropped, tells_items}
use Rattle.time_desk.proofs.redo.rewound.Goals as goal

pub rework_by_levels-requires-clause-texts : goal.rework_by_levels-requires-clause-texts
rework_by_levels-requires-clause-texts g c = λ lifetimes lives.
    let r = c.of-reading.ensures in
    let items = c.args.due.now.repair.items in
    all_dropped (TellsOf (delivered_told g.D.Disk.told c.of-reading.result items)) c.in_ok-first.first.count items
    (tells_delivered g.D.Disk.told c.of-reading.result items c.requires.can.goes.timeline.apart
    (tells_items g.D.Disk.told c.of-reading.result c.prepared.new.past c.args.desk.now c.args.past.now.end c.args.due.now.texts items 0
    r.past.1 r.desk (r.replaces ∙ c.in-Ok.ensures.texts ∙ c.texts.ensures) (r.cycle ∙ c.next.ensures) r.failed c.prepared.ensures.still.end c.requires.can.tells))

pub returns-in-Ok : goal.returns-in-Ok
returns-in-Ok g c =
    let r = c.of-reading.ensures in
    let done = c.rework_by_levels.ensures in
    let kept = c.args.desk.now.kept in
    let due = c.args.due.now in
    let first = c.in_ok-first.first in
    let stands = c.stands.ensures in
    let task = c.stands-2.ensures.task in
    let place = subst (λ (k : Kept). due.repair.place ≤ length k.timeline) c.requires.can.kept task.place in
    let left = subst (λ (k : Kept). leaves_numbers_for k due.repair.acts ≡ true) c.requires.can.kept task.numbers in
    subst (λ (p : PastTold g.row.D.Denot). Reworks g.D.Disk.told c.args.desk.now due c.args.past.now p c.args.steps.now c.rework_by_levels.new.steps c.rework_by_levels.result) (search rules)
    (reworks g.D.Disk.told c.args.desk.now due task c.args.past.now c.requires.can first c.in_ok-first.ensures.serves
    c.prepared.new.past c.of-reading.result c.rework_by_levels.new.bodies.reading c.rework_by_levels.new.bodies.due.now.repair.items c.args.steps.now c.rework_by_levels.new.steps c.rework_by_levels.result
    c.bodies_have_texts.ensures.behind stands.base
    (λ heard all. c.repairs_leave_states.ensures.from kept due.at due.repair first.store.store first.count heard c.requires.can.goes stands.fresh c.in_ok-first.ensures.serves.few all left)
    (λ heard same. c.repairs_begin_anywhere.ensures.front kept due.at due.repair first.store.store first.count heard c.in_ok-first.ensures.serves.few place same)
    c.in_ok-first.ensures.newest c.in_ok-first.ensures.first c.prepared.ensures.still c.in_ok-first.ensures.cause r.past.1 r.desk r.failed (r.cycle ∙ c.next.ensures) (r.replaces ∙ c.in-Ok.ensures.texts ∙ c.texts.ensures) done.leads done.reads done.made done.steps done.most)

-- before it nothing was performed
pub returns-in_err-first : goal.returns-in_err-first
returns-in_err-first g c =
    let p = err_from_is_err_and c.from_residual.result c.from_residual.ensures.1 in
    let told = g.D.Disk.told in
    reworks_none told c.args.desk.now c.args.due.now c.args.past.now c.prepared.new.past c.args.steps.now c.from_residual.result p.0 c.in_err-first.field-0.0 p.1 p.2
    (cause_of Beginning Rewound (told c.args.past.now.disk) (told c.prepared.new.past.disk) c.in_err-first.field-0.0 c.in_err-first.ensures.cause)
    (λ failed. c.in_err-first.ensures.due (ap (λ (f : BodiesFault). Err f) failed)) c.prepared.ensures.still

pub returns-in-Err : goal.returns-in-Err
returns-in-Err g c =
    reworks_none g.D.Disk.told c.args.desk.now c.args.due.now c.args.past.now c.prepared.new.past c.args.steps.now (Err c.in-Err.fault) c.in-Err.fault bodies_faults.NoMemory refl c.in-Err.ensures.memory
    c.in_ok-first.ensures.cause (λ failed. absurd (cc failed)) c.prepared.ensures.still
