use Rattle.std.proofs.Common.{◌≡◌, IfOk, length, subst, sym}
use Rattle.verb_bytes.specs.declared.journal.JournalRecord.{JournalRecord}
use Rattle.verb_bytes.specs.Spelling.{HasSpelling, record_bytes}
use Rattle.seal_log.specs.Journal.{LiesAt}
use Rattle.desk_journal.specs.Records.{after_record}
use Rattle.time_desk.specs.Standing.{Performs}
use Rattle.time_desk.proofs.Redoing.{both_kept, handed_on}
use Rattle.time_desk.proofs.Standings.{if_ok}
use Rattle.time_desk.proofs.standing.follow.Goals as goal

pub redo-stood-requires-clause-spelled : goal.redo-stood-requires-clause-spelled
redo-stood-requires-clause-spelled g c = subst HasSpelling c.in-Some.ensures.asked c.requires.spelled

pub redo-stood-requires-clause-long : goal.redo-stood-requires-clause-long
redo-stood-requires-clause-long g c = subst (λ (w : JournalRecord). c.args.place.length ≡ length (record_bytes w)) c.in-Some.ensures.asked c.requires.long

pub returns-in-Some-clause-performed : goal.returns-in-Some-clause-performed
returns-in-Some-clause-performed g c payloads texts =
    subst (λ (w : JournalRecord). IfOk c.redo-stood.result (λ stood. Performs (after_record c.args.desk.now.kept w) stood c.redo-stood.new.desk.kept)) (sym c.in-Some.ensures.asked) (c.redo-stood.ensures.performed payloads texts)

pub returns-in-Some-clause-texts : goal.returns-in-Some-clause-texts
returns-in-Some-clause-texts g c payloads texts lies =
    c.redo-stood.ensures.texts payloads texts (subst (λ (w : JournalRecord). LiesAt payloads c.args.place.gate c.args.place.length (record_bytes w)) c.in-Some.ensures.asked lies)

pub returns-in-Some-clause-marks : goal.returns-in-Some-clause-marks
returns-in-Some-clause-marks g c payloads texts lies = c.redo-stood.ensures.marks payloads texts

pub returns-in-None-clause-performed : goal.returns-in-None-clause-performed
returns-in-None-clause-performed g c payloads texts =
    handed_on _ c.enter_alone.result c.without_reads.result c.without_reads.ensures.same c.enter_alone.ensures.entered

pub returns-in-None-clause-texts : goal.returns-in-None-clause-texts
returns-in-None-clause-texts g c payloads texts lies =
    if_ok c.without_reads.result _ _ (λ stood notes e. (notes e).lie payloads lies texts.lie)
    (handed_on _ c.enter_alone.result c.without_reads.result c.without_reads.ensures.same c.enter_alone.ensures.noted)

pub returns-in-None-clause-marks : goal.returns-in-None-clause-marks
returns-in-None-clause-marks g c payloads texts lies =
    if_ok c.without_reads.result _ _ (λ stood marks e. (marks e).lie payloads lies texts.runs texts.marks)
    (handed_on _ c.enter_alone.result c.without_reads.result c.without_reads.ensures.same c.enter_alone.ensures.marked)

pub returns-in-None-clause-noted : goal.returns-in-None-clause-noted
returns-in-None-clause-noted g c =
    both_kept c.end.result c.args.past.now.end c.args.desk.now c.enter_alone.new.desk (record_bytes c.args.what) c.args.place c.enter_alone.result c.without_reads.result c.without_reads.ensures.same c.end.ensures c.requires.noted
    c.enter_alone.ensures.noted c.enter_alone.ensures.marked
