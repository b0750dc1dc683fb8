use Rattle.std.proofs.Common.{◌≡◌, ◌∙◌, ◌≤◌, List, Option, None, Some, Result, Ok, Err, ap, inl, nat_le, subst, sym}
use Rattle.std.specs.List.{AllByRecursion}
use Rattle.mail_cycle.specs.declared.beginning.Beginning.{Beginning}
use Rattle.seal_log.specs.declared.fault.ReadFault.{ReadFault}
use Rattle.shelf.specs.Marks.{marks_at_or_before}
use Rattle.store_kept.specs.Kept.{not_behind}
use Rattle.time_desk.specs.Serving.{CanServe, FindsNewest, IsLastToServe, NoneServes}
use Rattle.desk_journal.specs.Stored.{MarkLies, MarkedBefore, MarksLie}
use Rattle.desk_journal.proofs.Marking.{marked_front, marks_passed}
use Rattle.time_desk.proofs.Servings.{Mark, all_before, begins_first, both_ok, found_newest, found_none, marked_due, serves_first, some_has, unmarked_none}
use Rattle.time_desk.proofs.beginning.beginning.Goals as goal

pub newest-requires : goal.newest-requires
newest-requires g c = record { marked = subst (MarkedBefore c.args.past.now.end) (sym c.marks_at_or_before-marks.ensures.marks) (marked_front c.args.past.now.end c.position_of.result c.args.desk.now.marks c.requires.marked) }

pub returns-in-Ok-Some-clause-serves : goal.returns-in-Ok-Some-clause-serves
returns-in-Ok-Some-clause-serves g c =
    let desk = c.args.desk.now in
    let ms_are : c.marks_at_or_before-marks.result.now ≡ marks_at_or_before c.args.place desk.marks = c.marks_at_or_before-marks.ensures.marks ∙ ap (λ n. marks_at_or_before n desk.marks) c.position_of.ensures in
    record {
      few = some_has (λ (b : Beginning). b.count ≤ c.args.place) c.in-Ok-Some.field-0 c.in-Ok-Some.first c.in-Ok-Some.field-0-is
          (c.in-Ok-Some.ensures.few c.args.place (subst (AllByRecursion (λ (m : Mark). m.0 ≤ c.args.place)) (sym ms_are) (all_before c.args.place desk.marks)));
      serves = some_has (λ (b : Beginning). CanServe desk.kept b.count b.store.store) c.in-Ok-Some.field-0 c.in-Ok-Some.first c.in-Ok-Some.field-0-is c.in-Ok-Some.ensures.serves;
    }

pub returns-in-Ok-Some-clause-newest : goal.returns-in-Ok-Some-clause-newest
returns-in-Ok-Some-clause-newest g c = λ holds.
    let desk = c.args.desk.now in
    let ms_are : c.marks_at_or_before-marks.result.now ≡ marks_at_or_before c.args.place desk.marks = c.marks_at_or_before-marks.ensures.marks ∙ ap (λ n. marks_at_or_before n desk.marks) c.position_of.ensures in
    found_newest desk.kept c.args.place desk.marks c.marks_at_or_before-marks.result.now c.stands.ensures.places ms_are c.in-Ok-Some.field-0 c.in-Ok-Some.first c.in-Ok-Some.field-0-is
    (c.in-Ok-Some.ensures.newest holds.0 holds.1.held
    (subst (MarksLie holds.0 desk.kept) (sym ms_are) (marks_passed (MarkLies holds.0 desk.kept) (MarkLies holds.0 desk.kept) (λ (m : Mark). nat_le m.0 c.args.place) (λ m e h. h) desk.marks holds.1.marks)))

pub returns-in-Ok-None-clause-serves : goal.returns-in-Ok-None-clause-serves
returns-in-Ok-None-clause-serves g c = serves_first c.args.desk.now.kept c.args.place c.at_first.result c.at_first.ensures.count c.at_first.ensures.serves

pub returns-in-Ok-None-clause-newest : goal.returns-in-Ok-None-clause-newest
returns-in-Ok-None-clause-newest g c = λ holds.
    let desk = c.args.desk.now in
    let ms_are : c.marks_at_or_before-marks.result.now ≡ marks_at_or_before c.args.place desk.marks = c.marks_at_or_before-marks.ensures.marks ∙ ap (λ n. marks_at_or_before n desk.marks) c.position_of.ensures in
    found_none desk.kept c.args.place desk.marks c.marks_at_or_before-marks.result.now c.stands.ensures.places ms_are c.in-Ok-None.field-0 c.in-Ok-None.field-0-is
    (c.in-Ok-None.ensures.newest holds.0 holds.1.held
    (subst (MarksLie holds.0 desk.kept) (sym ms_are) (marks_passed (MarkLies holds.0 desk.kept) (MarkLies holds.0 desk.kept) (λ (m : Mark). nat_le m.0 c.args.place) (λ m e h. h) desk.marks holds.1.marks)))
    c.at_first.result c.at_first.ensures.count c.at_first.ensures.store

pub returns-in-Ok-Some-clause-passes : goal.returns-in-Ok-Some-clause-passes
returns-in-Ok-Some-clause-passes g c = λ honest.
    let desk = c.args.desk.now in
    let disk = g.D.Disk.told c.args.past.now.disk in
    let ms_are : c.marks_at_or_before-marks.result.now ≡ marks_at_or_before c.args.place desk.marks = c.marks_at_or_before-marks.ensures.marks ∙ ap (λ n. marks_at_or_before n desk.marks) c.position_of.ensures in
    inl (subst (λ (ms : List Mark). IsLastToServe disk desk.kept ms c.in-Ok-Some.first) ms_are
    (subst (FindsNewest disk desk.kept c.marks_at_or_before-marks.result.now) c.in-Ok-Some.field-0-is (c.in-Ok-Some.ensures.passes honest)))

pub returns-in-Ok-None-clause-passes : goal.returns-in-Ok-None-clause-passes
returns-in-Ok-None-clause-passes g c = λ honest.
    let desk = c.args.desk.now in
    let disk = g.D.Disk.told c.args.past.now.disk in
    let ms_are : c.marks_at_or_before-marks.result.now ≡ marks_at_or_before c.args.place desk.marks = c.marks_at_or_before-marks.ensures.marks ∙ ap (λ n. marks_at_or_before n desk.marks) c.position_of.ensures in
    begins_first disk desk c.args.place c.at_first.result
    (subst (NoneServes disk desk.kept) ms_are (subst (FindsNewest disk desk.kept c.marks_at_or_before-marks.result.now) c.in-Ok-None.field-0-is (c.in-Ok-None.ensures.passes honest)))
    c.at_first.ensures.count c.at_first.ensures.store

-- where none is marked at or before the place none is looked at
pub returns-in-Ok-Some-clause-first : goal.returns-in-Ok-Some-clause-first
returns-in-Ok-Some-clause-first g c = λ none.
    let found : ◌≡◌ {A = Result (Option Beginning) ReadFault} (Ok (Some c.in-Ok-Some.first)) (Ok None) =
    ap Ok (sym c.in-Ok-Some.field-0-is) ∙ sym c.in-Ok-Some.is ∙ c.newest.ensures.none (unmarked_none c.args.desk.now.kept c.args.place c.marks_at_or_before-marks.result.now (c.marks_at_or_before-marks.ensures.places ∙ ap (λ n. not_behind n c.args.desk.now.kept.marks.places) c.position_of.ensures) none) in
    absurd (cc found)

pub returns-in-Ok-None-clause-first : goal.returns-in-Ok-None-clause-first
returns-in-Ok-None-clause-first g c = λ none. both_ok c.at_first.result (λ (first : Beginning). first.count ≡ 0) (λ (first : Beginning). first.store.store ≡ c.args.desk.now.kept.base) c.at_first.ensures.count c.at_first.ensures.store

pub returns-in-Err-clause-due : goal.returns-in-Err-clause-due
returns-in-Err-clause-due g c = λ failed.
    marked_due c.args.desk.now.kept c.args.place c.marks_at_or_before-marks.result.now (c.marks_at_or_before-marks.ensures.places ∙ ap (λ n. not_behind n c.args.desk.now.kept.marks.places) c.position_of.ensures)
    (λ none. let found : ◌≡◌ {A = Result (Option Beginning) ReadFault} (Err c.in-Err.fault) (Ok None) = sym c.in-Err.is ∙ c.newest.ensures.none none in cc found)
