-- What a disk holds of the texts of a desk behind a record that was read: its item was entered, or its snapshot is marked.
use Rattle.std.proofs.Common.{◌≡◌, ℕ, ◌+◌, ◌<◌, ◌≤◌, Bool, true, false, List, length, Some, Result, Ok, Err, IfOk, OnOk, nat_lt, ◌==◌, ◌&&◌, refl, ap, sym, subst, arith}
use Rattle.std.specs.List.{AllByRecursion}
use Rattle.std.specs.Cmp.{first_so}
use Rattle.std.proofs.lemmas.Bool.Decides.{nat_tests}
use Rattle.undo_base.specs.declared.memory.NoMemory.{NoMemory}
use Rattle.verb_core.specs.declared.conf.Conf.{Conf}
use Rattle.verb_core.specs.declared.item.Item.{Item}
use Rattle.verb_core.specs.declared.mailbox.BoxId.{BoxId}
use Rattle.verb_core.specs.declared.mailbox.Mailbox.{Mailbox}
use Rattle.verb_core.specs.Items.{text_in}
use Rattle.seal_log.specs.declared.place.Place.{Place}
use Rattle.seal_log.specs.Journal.{LiesAt}
use Rattle.shelf.specs.Marks.{with_mark}
use Rattle.mail_desk.specs.Held.{Held}
use Rattle.mail_desk.specs.Timeline.{NotesText, body_of}
use Rattle.store_kept.specs.Coming.{HasUndone}
use Rattle.store_kept.specs.Bases.{HasBase}
use Rattle.store_kept.specs.Kept.{BaseTexts, Kept}
use Rattle.store_kept.specs.Texts.{items_asked}
use Rattle.shelf.specs.declared.note.Note.{Note}
use Rattle.verb_core.specs.declared.mailbox.Body.{Body}
use Rattle.verb_bytes.specs.declared.journal.JournalRecord.TheVariants.{Snapshot}
use Rattle.verb_bytes.specs.Places.{IsTextAt}
use Rattle.verb_bytes.specs.Spelling.{HasSpelling, record_bytes}
use Rattle.desk_journal.specs.Records.{is_formed, is_true, snapshot_record}
use Rattle.time_desk.specs.Standing.{AsksAlike, Enters, kept_as, marked_as}
use Rattle.desk_journal.specs.Stored.{AllNoted, KeepsMarks, MarkedBefore, MarksLie, NotesTexts}
use Rattle.desk_journal.proofs.Marking.{marks_entered, marks_kept, marks_snapshotted, marks_with}
use Rattle.desk_journal.proofs.Truth.{true_is}
use Rattle.desk_journal.proofs.Noting.{recorded_is}
use Rattle.desk_journal.proofs.Holding.{asked_below, entered_notes}

-- ---- the same texts

-- where the same texts may be asked for, and are noted where they were, they are noted as they were
pub noted_alike : (P : Note → List ℕ → Type 0) (old new : Held) → AsksAlike old new → AllNoted old.kept.first P old.notes old.kept.texts (items_asked old.kept) → AllNoted new.kept.first P new.notes new.kept.texts (items_asked new.kept)
noted_alike P old new is all =
    subst (λ (first : ℕ). AllNoted first P new.notes new.kept.texts (items_asked new.kept)) (sym is.first)
    (subst (λ (notes : List (Body × Note)). AllNoted old.kept.first P notes new.kept.texts (items_asked new.kept)) (sym is.notes)
    (subst (λ (texts : BaseTexts). AllNoted old.kept.first P old.notes texts (items_asked new.kept)) (sym is.texts)
    (subst (AllNoted old.kept.first P old.notes old.kept.texts) (sym is.items) all)))

-- ---- an item more

-- the same of a record whose item was entered, or not
pub entered_record : (gate : ℕ) (place : Place) (bytes : List ℕ) (from : ℕ) (old new : Held) (i : Item) (r : Result Bool NoMemory)
    → place.gate + 5 + place.length ≤ gate → place.length ≡ length bytes
    → ((text : List ℕ) → text_in i.deed ≡ Some text → IsTextAt bytes from text)
    → HasBase old.kept → AllByRecursion (λ (j : Item). j.number < old.kept.next) old.kept.timeline → HasUndone old.kept
    → IfOk r (λ stood. Enters old.kept i stood new.kept) → IfOk r (λ stood. stood ≡ true → NotesText (text_in i.deed) (body_of i) place from old.notes new.notes)
    → IfOk r (λ stood. stood ≡ true → NotesTexts gate place bytes old new)
entered_record gate place bytes from old new i (Ok true) within long stands base below undone enters noted =
    let same : (i.number == old.kept.next) ≡ true = first_so (i.number == old.kept.next) (nat_lt old.kept.next 4194304) (first_so ((i.number == old.kept.next) && nat_lt old.kept.next 4194304) (is_formed old.kept.house i) enters.0) in
    let number : i.number ≡ old.kept.next = grind (arith, nat_tests) in
    λ e. entered_notes gate place bytes from old new i within long
    (λ text own. let at : IsTextAt bytes from text = stands text (recorded_is old.kept.first i text own) in (at.within, at.is))
    (asked_below old.kept i number below undone) (base.beyond i.number (omega (arith, number))).unnamed enters.1 (noted refl)
entered_record gate place bytes from old new i (Ok false) within long stands base below undone enters noted = λ e. absurd (let wrong : ◌≡◌ {A = Bool} false true = e in cc)
entered_record gate place bytes from old new i (Err why) within long stands base below undone enters noted = tt

-- the snapshots stay marked when the item of a record is entered
pub entered_marks : (gate : ℕ) (place : Place) (bytes : List ℕ) (old new : Held) (i : Item) (r : Result Bool NoMemory)
    → IfOk r (λ stood. Enters old.kept i stood new.kept) → OnOk r (new.marks ≡ old.marks) → IfOk r (λ stood. stood ≡ true → KeepsMarks gate place bytes old new)
entered_marks gate place bytes old new i (Ok true) enters same = λ e. record {
  before = λ all. subst (MarkedBefore gate) (sym same) all;
  lie = λ payloads lies runs all. subst (MarksLie payloads new.kept) (sym same)
      (marks_entered payloads old.kept new.kept i old.marks (ap (λ (k : Kept). k.base) enters.1) (ap (λ (k : Kept). k.timeline) enters.1) all);
}
entered_marks gate place bytes old new i (Ok false) enters same = λ e. absurd (let wrong : ◌≡◌ {A = Bool} false true = e in cc)
entered_marks gate place bytes old new i (Err why) enters same = tt

-- a snapshot that is true is marked, and another is passed
pub kept_marks : (gate : ℕ) (place : Place) (items : ℕ) (conf : Conf) (rows : List (BoxId × Mailbox)) (old new : Held) (truth : Bool) → place.gate + 5 + place.length ≤ gate → HasSpelling (snapshot_record old.kept)
    → truth ≡ is_true old.kept (Snapshot items conf rows) → new.kept ≡ kept_as old.kept truth → new.marks ≡ marked_as old truth place → KeepsMarks gate place (record_bytes (Snapshot items conf rows)) old new
kept_marks gate place items conf rows old new true within spelled is kept marks =
    let all_marks = with_mark (length old.kept.timeline) place old.marks in
    let bytes : record_bytes (Snapshot items conf rows) ≡ record_bytes (snapshot_record old.kept) = ap record_bytes (true_is old.kept (Snapshot items conf rows) (sym is)) in
    record {
      before = λ all. subst (MarkedBefore gate) (sym marks) (marks_with (λ m. m.1.gate + 5 + m.1.length ≤ gate) (length old.kept.timeline) place old.marks within all);
      lie = λ payloads lies runs all. subst (MarksLie payloads new.kept) (sym marks)
          (marks_kept payloads old.kept new.kept all_marks (ap (λ (k : Kept). k.base) kept) (ap (λ (k : Kept). k.timeline) kept)
          (marks_snapshotted payloads old.kept place old.marks runs spelled (subst (LiesAt payloads place.gate place.length) bytes lies) all));
    }
kept_marks gate place items conf rows old new false within spelled is kept marks = record {
  before = λ all. subst (MarkedBefore gate) (sym marks) all;
  lie = λ payloads lies runs all. subst (MarksLie payloads new.kept) (sym marks)
      (marks_kept payloads old.kept new.kept old.marks (ap (λ (k : Kept). k.base) kept) (ap (λ (k : Kept). k.timeline) kept) all);
}
