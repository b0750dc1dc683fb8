use Rattle.std.proofs.Common.{◌≡◌, ◌∙◌, List, ℕ, Option, Some, None, sym, subst}
use Rattle.std.specs.Prelude.{IfOk}
use Rattle.undo_outside.specs.Disk.{DiskTold}
use Rattle.seal_log.specs.Journal.{LiesAt}
use Rattle.seal_log.specs.Settled.{ReadsAlone}
use Rattle.verb_bytes.specs.declared.journal.JournalRecord.{JournalRecord}
use Rattle.verb_bytes.specs.Spelling.{record_bytes}
use Rattle.mail_desk.specs.Held.{Held}
use Rattle.desk_journal.specs.Stored.{TextsHeld}
use Rattle.desk_journal.proofs.Staying.{holds_on}
use Rattle.time_desk.specs.Auditing.{Judges}
use Rattle.time_desk.proofs.audit.judge.Goals as goal

-- what is held stays held while the disk is read
texts_on : (old new : DiskTold) (payloads : List (List ℕ)) (held : Held) → ReadsAlone old new → TextsHeld old payloads held.kept held.notes held.marks → TextsHeld new payloads held.kept held.notes held.marks
texts_on old new payloads held reads texts = record {
  held = holds_on old new payloads reads texts.held;
  lie = texts.lie;
  revs = texts.revs;
  back = texts.back;
  runs = texts.runs;
  marks = texts.marks;
}

one_of : (a b : JournalRecord) → Some a ≡ Some b → a ≡ b
one_of a b e = cc e

pub returns-in-Ok-Some-clause-judged : goal.returns-in-Ok-Some-clause-judged
returns-in-Ok-Some-clause-judged g c payloads what texts lies spelled =
    let is : c.in-Ok-Some.what ≡ what = one_of _ _ (sym c.in-Ok-Some.field-0-is ∙ c.in-Ok-Some.ensures.read payloads what texts.held lies spelled) in
    subst (λ (w : JournalRecord). IfOk c.judged.result (λ truth. Judges c.args.desk.now.kept w truth c.judged.new.desk.kept)) is
    (c.judged.ensures.judged payloads (texts_on (g.D.Disk.told c.args.past.now.disk) (g.D.Disk.told c.record_there.new.past.disk) payloads c.args.desk.now c.record_there.ensures.still.reads texts))

pub returns-in-Ok-Some-clause-texts : goal.returns-in-Ok-Some-clause-texts
returns-in-Ok-Some-clause-texts g c payloads what texts lies spelled =
    let is : c.in-Ok-Some.what ≡ what = one_of _ _ (sym c.in-Ok-Some.field-0-is ∙ c.in-Ok-Some.ensures.read payloads what texts.held lies spelled) in
    c.judged.ensures.texts payloads (texts_on (g.D.Disk.told c.args.past.now.disk) (g.D.Disk.told c.record_there.new.past.disk) payloads c.args.desk.now c.record_there.ensures.still.reads texts)
    (subst (λ (w : JournalRecord). LiesAt payloads c.args.place.gate c.args.place.length (record_bytes w)) (sym is) lies)

pub returns-in-Ok-None-clause-judged : goal.returns-in-Ok-None-clause-judged
returns-in-Ok-None-clause-judged g c payloads what texts lies spelled =
    let wrong : ◌≡◌ {A = Option JournalRecord} None (Some what) = sym c.in-Ok-None.field-0-is ∙ c.in-Ok-None.ensures.read payloads what texts.held lies spelled in
    absurd (cc wrong)

pub returns-in-Ok-Some-clause-unread : goal.returns-in-Ok-Some-clause-unread
returns-in-Ok-Some-clause-unread g c payloads payload held lies none =
    let wrong : ◌≡◌ {A = Option JournalRecord} None (Some c.in-Ok-Some.what) = sym (c.in-Ok-Some.ensures.none payloads payload held lies none) ∙ c.in-Ok-Some.field-0-is in
    absurd (cc wrong)
