use Rattle.std.proofs.Common.{rules, ◌≡◌, false, None, subst, sym}
use Rattle.std.specs.Prelude.{Result}
use Rattle.std.proofs.lemmas.Result.{err_from_is_err_and}
use Rattle.paradox.specs.declared.reports.Report.{Report}
use Rattle.store_kept.specs.Kept.{report_of}
use Rattle.desk_journal.specs.Lasting.{lasting}
use Rattle.desk_journal.specs.Telling.{HoldsHeld}
use Rattle.time_desk.specs.declared.fault.CycleFault.{CycleFault}
use Rattle.time_desk.specs.Replaying.{ToldOr}
use Rattle.time_desk.specs.Requests.{Answered, key_of, reads_of}
use Rattle.time_desk.proofs.Answering.{answered_made, answered_none, fit_for, made_for, unread_for}
use Rattle.time_desk.proofs.doing.does.Goals as goal

-- it was not worked out, or none is due
pub returns-in_err-made-clause-answered : goal.returns-in_err-made-clause-answered
returns-in_err-made-clause-answered g c =
    let p = err_from_is_err_and c.from_residual-in_err-made.result c.from_residual-in_err-made.ensures.1 in
    let told = c.in_err-made.ensures in
    let anew : report_of c.args.desk.now.kept.reports (key_of c.args.asked.now) ≡ None = search rules in
    let open_ : c.args.journal.now.closed ≡ false = search rules in
    subst (λ (r : Result Report CycleFault). Answered g.D.Disk.told c.args.at c.args.asked.now (lasting c.args.desk.now c.args.journal.now) (lasting c.args.desk.now c.rework.new.journal) c.args.steps.now c.rework.new.steps r) (sym p.1)
    (answered_none g.D.Disk.told c.args.at c.args.asked.now c.args.desk.now c.args.journal.now c.rework.new.journal c.args.steps.now c.rework.new.steps c.in_err-made.field-0.0 p.0 anew open_ told.still told.redoes p.2)

pub put-requires-clause-fit : goal.put-requires-clause-fit
put-requires-clause-fit g c =
    fit_for g.D.Disk.told c.args.desk.now c.args.at c.args.journal.now.disk c.rework.new.journal.disk (c.rework.new.journal ≡ c.args.journal.now) c.args.steps.now c.rework.new.steps c.in_ok-made.made c.args.asked.now c.in_ok-made.ensures.redoes

pub returns-clause-answered : goal.returns-clause-answered
returns-clause-answered g c =
    let told = c.in_ok-made.ensures in
    let put = c.put.ensures in
    let anew : report_of c.args.desk.now.kept.reports (key_of c.args.asked.now) ≡ None = search rules in
    answered_made g.D.Disk.told c.args.at c.args.asked.now c.args.desk.now c.put.new.desk c.args.journal.now c.rework.new.journal c.put.new.journal c.args.steps.now c.rework.new.steps c.in_ok-made.made c.put.result anew c.stands.ensures.undone told.still told.redoes
    put.done put.why put.timeline put.err put.notes put.marks put.reads put.finds_memory put.wants

pub returns-clause-noted : goal.returns-clause-noted
returns-clause-noted g c =
    c.put.ensures.noted
    (unread_for c.args.desk.now.kept c.args.at c.args.asked.now (ToldOr (HoldsHeld (g.D.Disk.told c.args.journal.now.disk) c.args.desk.now) (reads_of c.args.desk.now.kept c.args.at c.args.asked.now)) c.in_ok-made.made
    (made_for g.D.Disk.told c.args.desk.now c.args.at c.args.journal.now.disk c.rework.new.journal.disk (c.rework.new.journal ≡ c.args.journal.now) c.args.steps.now c.rework.new.steps c.in_ok-made.made c.args.asked.now c.in_ok-made.ensures.redoes))
