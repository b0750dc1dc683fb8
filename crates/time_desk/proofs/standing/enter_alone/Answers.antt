use Rattle.std.proofs.Common.{◌≡◌, IfOk, subst, sym, true}
use Rattle.verb_bytes.specs.declared.journal.JournalRecord.{JournalRecord}
use Rattle.verb_bytes.specs.Spelling.{record_bytes}
use Rattle.desk_journal.specs.Records.{after_record}
use Rattle.desk_journal.specs.Stored.{KeepsMarks, NotesTexts}
use Rattle.time_desk.specs.Standing.{Performs}
use Rattle.time_desk.proofs.Others.{stands_not}
use Rattle.time_desk.proofs.Redoing.{marks_alike, notes_alike}
use Rattle.time_desk.proofs.Standings.{if_ok}
use Rattle.time_desk.proofs.standing.enter_alone.Goals as goal

pub returns-in-Verb-clause-entered : goal.returns-in-Verb-clause-entered
returns-in-Verb-clause-entered c = subst (λ (w : JournalRecord). IfOk c.enter_verb.result (λ stood. Performs (after_record c.args.desk.now.kept w) stood c.enter_verb.new.desk.kept)) (sym c.in-Verb.is) c.enter_verb.ensures.entered

pub returns-in-Verb-clause-noted : goal.returns-in-Verb-clause-noted
returns-in-Verb-clause-noted c = subst (λ (w : JournalRecord). IfOk c.enter_verb.result (λ stood. stood ≡ true → NotesTexts c.args.end c.args.place (record_bytes w) c.args.desk.now c.enter_verb.new.desk)) (sym c.in-Verb.is) c.enter_verb.ensures.noted

pub returns-in-Verb-clause-marked : goal.returns-in-Verb-clause-marked
returns-in-Verb-clause-marked c = subst (λ (w : JournalRecord). IfOk c.enter_verb.result (λ stood. stood ≡ true → KeepsMarks c.args.end c.args.place (record_bytes w) c.args.desk.now c.enter_verb.new.desk)) (sym c.in-Verb.is) c.enter_verb.ensures.marked

pub returns-in-Operator-clause-entered : goal.returns-in-Operator-clause-entered
returns-in-Operator-clause-entered c = subst (λ (w : JournalRecord). IfOk c.enter_act.result (λ stood. Performs (after_record c.args.desk.now.kept w) stood c.enter_act.new.desk.kept)) (sym c.in-Operator.is) c.enter_act.ensures.entered

pub returns-in-Operator-clause-noted : goal.returns-in-Operator-clause-noted
returns-in-Operator-clause-noted c = subst (λ (w : JournalRecord). IfOk c.enter_act.result (λ stood. stood ≡ true → NotesTexts c.args.end c.args.place (record_bytes w) c.args.desk.now c.enter_act.new.desk)) (sym c.in-Operator.is) c.enter_act.ensures.noted

pub returns-in-Operator-clause-marked : goal.returns-in-Operator-clause-marked
returns-in-Operator-clause-marked c = subst (λ (w : JournalRecord). IfOk c.enter_act.result (λ stood. stood ≡ true → KeepsMarks c.args.end c.args.place (record_bytes w) c.args.desk.now c.enter_act.new.desk)) (sym c.in-Operator.is) c.enter_act.ensures.marked

pub returns-in-Snapshot-clause-entered : goal.returns-in-Snapshot-clause-entered
returns-in-Snapshot-clause-entered c = subst (λ (w : JournalRecord). IfOk c.enter_snapshot.result (λ stood. Performs (after_record c.args.desk.now.kept w) stood c.enter_snapshot.new.desk.kept)) (sym c.in-Snapshot.is) c.enter_snapshot.ensures.entered

pub returns-in-Snapshot-clause-noted : goal.returns-in-Snapshot-clause-noted
returns-in-Snapshot-clause-noted c = if_ok c.enter_snapshot.result _ _ (λ stood still e. notes_alike c.args.end c.args.place (record_bytes c.args.what) c.args.desk.now c.enter_snapshot.new.desk (still e)) c.enter_snapshot.ensures.still

pub returns-in-Snapshot-clause-marked : goal.returns-in-Snapshot-clause-marked
returns-in-Snapshot-clause-marked c = subst (λ (w : JournalRecord). IfOk c.enter_snapshot.result (λ stood. stood ≡ true → KeepsMarks c.args.end c.args.place (record_bytes w) c.args.desk.now c.enter_snapshot.new.desk)) (sym c.in-Snapshot.is) c.enter_snapshot.ensures.marked

pub returns-in-Upgrade-clause-entered : goal.returns-in-Upgrade-clause-entered
returns-in-Upgrade-clause-entered c = subst (λ (w : JournalRecord). Performs (after_record c.args.desk.now.kept w) c.enter_upgrade.result c.enter_upgrade.new.desk.kept) (sym c.in-Upgrade.is) c.enter_upgrade.ensures.entered

pub returns-in-Upgrade-clause-noted : goal.returns-in-Upgrade-clause-noted
returns-in-Upgrade-clause-noted c = λ e.
    let done = c.enter_upgrade.ensures in
    notes_alike c.args.end c.args.place (record_bytes c.args.what) c.args.desk.now c.enter_upgrade.new.desk (record { notes = done.notes; items = done.asked; texts = done.texts; first = done.first })

pub returns-in-Upgrade-clause-marked : goal.returns-in-Upgrade-clause-marked
returns-in-Upgrade-clause-marked c = λ e.
    let done = c.enter_upgrade.ensures in
    marks_alike c.args.end c.args.place (record_bytes c.args.what) c.args.desk.now c.enter_upgrade.new.desk done.marks done.base done.timeline

pub returns-in_default-clause-entered : goal.returns-in_default-clause-entered
returns-in_default-clause-entered c =
    stands_not c.args.desk.now.kept c.args.what c.requires.alone (λ i is. c.in_default.not-Verb i is) (λ number at act is. c.in_default.not-Operator number at act is) (λ items conf rows is. c.in_default.not-Snapshot items conf rows is)
    (λ at is. c.in_default.not-Upgrade at is)
