use Rattle.std.proofs.Common.{◌≡◌, ℕ, true, sym, subst}
use Rattle.std.specs.Prelude.{IfOk}
use Rattle.verb_bytes.specs.declared.journal.JournalRecord.{JournalRecord}
use Rattle.verb_bytes.specs.declared.journal.JournalRecord.TheVariants.{Snapshot, Verb}
use Rattle.verb_bytes.specs.Spelling.{record_bytes}
use Rattle.seal_log.specs.Journal.{LiesAt}
use Rattle.desk_journal.specs.Stored.{IsStored, KeepsMarks}
use Rattle.time_desk.specs.Auditing.{Judges}
use Rattle.time_desk.proofs.Holding.{noted_alike}
use Rattle.time_desk.proofs.Judging.{both_kept, judged_by, others_true, passed, still_noted}
use Rattle.time_desk.proofs.Standings.{if_ok}
use Rattle.time_desk.proofs.audit.judge_record.Goals as goal

pub returns-in-Verb-clause-judged : goal.returns-in-Verb-clause-judged
returns-in-Verb-clause-judged g c payloads texts =
    subst (λ (w : JournalRecord). IfOk c.without_reads.result (λ truth. Judges c.args.desk.now.kept w truth c.judge_item.new.desk.kept)) (sym c.in-Verb.is)
    (passed _ c.judge_item.result c.without_reads.result c.without_reads.ensures.same c.judge_item.ensures.judged)

pub returns-in-Verb-clause-texts : goal.returns-in-Verb-clause-texts
returns-in-Verb-clause-texts g c payloads texts lies =
    if_ok c.without_reads.result _ _
    (λ stood notes e. (notes e).lie payloads (subst (λ (w : JournalRecord). LiesAt payloads c.args.place.gate c.args.place.length (record_bytes w)) c.in-Verb.is lies) texts.lie)
    (passed _ c.judge_item.result c.without_reads.result c.without_reads.ensures.same c.judge_item.ensures.noted)

pub returns-in-Verb-clause-marks : goal.returns-in-Verb-clause-marks
returns-in-Verb-clause-marks g c payloads texts lies =
    if_ok c.without_reads.result _ _
    (λ stood marks e. (marks e).lie payloads (subst (λ (w : JournalRecord). LiesAt payloads c.args.place.gate c.args.place.length (record_bytes w)) c.in-Verb.is lies) texts.runs texts.marks)
    (passed _ c.judge_item.result c.without_reads.result c.without_reads.ensures.same c.judge_item.ensures.marked)

pub returns-in-Verb-clause-noted : goal.returns-in-Verb-clause-noted
returns-in-Verb-clause-noted g c =
    both_kept c.end.result c.args.past.now.end c.args.desk.now c.judge_item.new.desk (record_bytes (Verb c.in-Verb.item)) c.args.place c.without_reads.result c.end.ensures c.requires.noted
    (passed _ c.judge_item.result c.without_reads.result c.without_reads.ensures.same c.judge_item.ensures.noted)
    (passed _ c.judge_item.result c.without_reads.result c.without_reads.ensures.same c.judge_item.ensures.marked)

pub returns-in-Snapshot-clause-judged : goal.returns-in-Snapshot-clause-judged
returns-in-Snapshot-clause-judged g c payloads texts =
    subst (λ (w : JournalRecord). IfOk c.without_reads-in-Snapshot.result (λ truth. Judges c.args.desk.now.kept w truth c.snapshot_is_true.new.desk.kept)) (sym c.in-Snapshot.is)
    (passed _ c.snapshot_is_true.result c.without_reads-in-Snapshot.result c.without_reads-in-Snapshot.ensures.same c.snapshot_is_true.ensures.judged)

pub returns-in-Snapshot-clause-texts : goal.returns-in-Snapshot-clause-texts
returns-in-Snapshot-clause-texts g c payloads texts lies =
    if_ok c.without_reads-in-Snapshot.result _ _
    (λ stood still e. noted_alike (IsStored payloads) c.args.desk.now c.snapshot_is_true.new.desk (still e) texts.lie)
    (passed _ c.snapshot_is_true.result c.without_reads-in-Snapshot.result c.without_reads-in-Snapshot.ensures.same c.snapshot_is_true.ensures.still)

pub returns-in-Snapshot-clause-marks : goal.returns-in-Snapshot-clause-marks
returns-in-Snapshot-clause-marks g c payloads texts lies =
    if_ok c.without_reads-in-Snapshot.result _ _
    (λ stood marks e. (marks e).lie payloads (subst (λ (w : JournalRecord). LiesAt payloads c.args.place.gate c.args.place.length (record_bytes w)) c.in-Snapshot.is lies) texts.runs texts.marks)
    (passed _ c.snapshot_is_true.result c.without_reads-in-Snapshot.result c.without_reads-in-Snapshot.ensures.same c.snapshot_is_true.ensures.marked)

pub returns-in-Snapshot-clause-noted : goal.returns-in-Snapshot-clause-noted
returns-in-Snapshot-clause-noted g c =
    still_noted c.args.past.now.end c.args.desk.now c.snapshot_is_true.new.desk (record_bytes (Snapshot c.in-Snapshot.items c.in-Snapshot.conf c.in-Snapshot.rows)) c.args.place c.without_reads-in-Snapshot.result c.requires.noted
    (passed _ c.snapshot_is_true.result c.without_reads-in-Snapshot.result c.without_reads-in-Snapshot.ensures.same c.snapshot_is_true.ensures.still)
    (subst (λ (n : ℕ). IfOk c.without_reads-in-Snapshot.result (λ stood. stood ≡ true → KeepsMarks n c.args.place (record_bytes (Snapshot c.in-Snapshot.items c.in-Snapshot.conf c.in-Snapshot.rows)) c.args.desk.now c.snapshot_is_true.new.desk)) c.end-in-Snapshot.ensures
    (passed _ c.snapshot_is_true.result c.without_reads-in-Snapshot.result c.without_reads-in-Snapshot.ensures.same c.snapshot_is_true.ensures.marked))

pub returns-in_default-clause-judged : goal.returns-in_default-clause-judged
returns-in_default-clause-judged g c payloads texts =
    if_ok c.follow.result _ _
    (λ stood done. judged_by c.args.desk.now.kept c.args.what stood c.follow.new.desk.kept
    (others_true c.args.desk.now.kept c.args.what (λ i is. c.in_default.not-Verb i is) (λ items conf rows is. c.in_default.not-Snapshot items conf rows is)) done)
    (c.follow.ensures.performed payloads texts)
