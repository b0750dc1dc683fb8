use Rattle.std.proofs.Common.{◌≡◌, ◌∙◌, Bool, length, subst, sym, ℕ}
use Rattle.verb_bytes.specs.Spelling.{record_bytes}
use Rattle.seal_log.specs.Journal.{LiesAt}
use Rattle.desk_journal.specs.Records.{after_record}
use Rattle.desk_journal.specs.Stored.{MarkedBefore}
use Rattle.desk_journal.proofs.Marking.{marked_front}
use Rattle.time_desk.specs.Requests.{record_of}
use Rattle.time_desk.specs.Standing.{Performs}
use Rattle.time_desk.proofs.Redoing.{fit_alone, has_moment, has_next, knows_them, redo_follows, redone_is, redone_lies, redone_marks, redone_noted, undone_alone}
use Rattle.time_desk.proofs.Standings.{both_told, if_ok, when_stood}
use Rattle.time_desk.proofs.standing.redo.Goals as goal

pub rework_again-requires-clause-moment : goal.rework_again-requires-clause-moment
rework_again-requires-clause-moment g c = has_moment _ c.spelled_cycles_have_moments.ensures c.spelled_withdrawals_have_moments.ensures c.args.number c.args.at c.args.asked.now c.requires.spelled

pub rework_again-requires-clause-known : goal.rework_again-requires-clause-known
rework_again-requires-clause-known g c = knows_them c.args.desk.now.kept c.args.number c.args.asked.now c.if-not-can_redo.ensures

pub put_in_place-requires-clause-fit : goal.put_in_place-requires-clause-fit
put_in_place-requires-clause-fit g c = fit_alone g.D.Disk.told c.args.desk.now c.args.at c.args.past.now.disk c.rework_again.new.past.disk c.in-Ok.made c.args.asked.now c.in-Ok.ensures.redoes

pub put_in_place-requires-clause-undone : goal.put_in_place-requires-clause-undone
put_in_place-requires-clause-undone g c = undone_alone g.D.Disk.told c.args.desk.now c.args.at c.args.past.now.disk c.rework_again.new.past.disk c.in-Ok.made c.args.asked.now c.in-Ok.ensures.redoes

pub returns-in-Ok-clause-performed : goal.returns-in-Ok-clause-performed
returns-in-Ok-clause-performed g c payloads texts =
    let kept = c.args.desk.now.kept in
    let asked = c.args.asked.now in
    let follows = redo_follows kept c.args.number c.args.at asked c.requires.spelled c.if-not-can_redo.ensures c.key.result.now c.key.ensures c.if-not-is_new.ensures in
    if_ok c.put_in_place.result _ _
    (λ stood put. subst (λ (b : Bool). Performs (after_record kept (record_of c.args.number c.args.at asked)) b c.put_in_place.new.desk.kept) (sym put.0)
    (follows ∙ redone_is g.D.Disk.told c.args.desk.now c.put_in_place.new.desk c.args.at c.args.past.now.disk c.rework_again.new.past.disk c.in-Ok.made asked payloads texts c.in-Ok.ensures.redoes put.1))
    c.put_in_place.ensures.kept

pub returns-in-Ok-clause-texts : goal.returns-in-Ok-clause-texts
returns-in-Ok-clause-texts g c payloads texts lies =
    let asked = c.args.asked.now in
    let next = has_next c.args.desk.now.kept c.args.number asked c.if-not-can_redo.ensures in
    when_stood _ _ _ c.put_in_place.result
    (λ put notes sizes. redone_lies g.D.Disk.told c.args.desk.now c.put_in_place.new.desk c.args.at c.args.past.now.disk c.rework_again.new.past.disk c.in-Ok.made c.args.place c.stands.ensures.sizes c.stands.ensures.base c.stands.ensures.timeline.apart
    c.stands.ensures.below c.stands.ensures.undone asked payloads texts c.in-Ok.ensures.redoes (subst (λ (n : ℕ). LiesAt payloads c.args.place.gate c.args.place.length (record_bytes (record_of n c.args.at asked))) next lies) put notes)
    c.put_in_place.ensures.kept (c.put_in_place.ensures.notes c.args.at) c.put_in_place.ensures.sizes

pub returns-in-Ok-clause-marks : goal.returns-in-Ok-clause-marks
returns-in-Ok-clause-marks g c payloads texts =
    when_stood _ _ _ c.put_in_place.result
    (λ put marks sizes. redone_marks g.D.Disk.told c.args.desk.now c.put_in_place.new.desk c.args.at c.args.past.now.disk c.rework_again.new.past.disk c.in-Ok.made c.args.asked.now payloads texts c.in-Ok.ensures.redoes put marks)
    c.put_in_place.ensures.kept c.put_in_place.ensures.marks c.put_in_place.ensures.sizes

pub returns-in-Ok-clause-noted : goal.returns-in-Ok-clause-noted
returns-in-Ok-clause-noted g c =
    let asked = c.args.asked.now in
    let next = has_next c.args.desk.now.kept c.args.number asked c.if-not-can_redo.ensures in
    both_told c.args.past.now.end c.put_in_place.new.desk c.put_in_place.result
    (when_stood _ _ _ c.put_in_place.result
    (λ put notes sizes. redone_noted g.D.Disk.told c.args.desk.now c.put_in_place.new.desk c.args.at c.args.past.now.disk c.rework_again.new.past.disk c.in-Ok.made c.args.place c.stands.ensures.sizes c.stands.ensures.base c.stands.ensures.timeline.apart
    c.stands.ensures.below c.stands.ensures.undone asked c.args.past.now.end c.in-Ok.ensures.redoes c.requires.place (subst (λ (n : ℕ). c.args.place.length ≡ length (record_bytes (record_of n c.args.at asked))) next c.requires.long) put notes sizes
    c.requires.noted.noted)
    c.put_in_place.ensures.kept (c.put_in_place.ensures.notes c.args.at) c.put_in_place.ensures.sizes)
    (when_stood _ _ _ c.put_in_place.result
    (λ put marks sizes. subst (MarkedBefore c.args.past.now.end) (sym marks) (marked_front c.args.past.now.end c.in-Ok.made.place c.args.desk.now.marks c.requires.noted.marked))
    c.put_in_place.ensures.kept c.put_in_place.ensures.marks c.put_in_place.ensures.sizes)
