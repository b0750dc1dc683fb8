-- What one call seals of a desk: one record, or none, or one whose sealing failed; and the texts that its disk holds afterwards.
use Rattle.std.proofs.Common.{◌≡◌, ◌+◌, ◌||◌, ℕ, true, false, List, ◌∷◌, ◌++◌, length, Option, Some, None, refl, ap, sym, subst, ◌∙◌, append_assoc, append-nil, arith, []}
use Rattle.std.specs.Prelude.{◌⊎◌, IsSome, option_and_then}
use Rattle.std.proofs.Common.{inl, inr}
use Rattle.undo_outside.specs.Disk.{DiskTold}
use Rattle.seal_log.specs.declared.place.Place.{Place}
use Rattle.seal_log.specs.Journal.{LiesAt}
use Rattle.seal_log.specs.Settled.{Holds, IsSettled}
use Rattle.seal_log.proofs.Uses.{settled_holds}
use Rattle.verb_core.specs.declared.item.Item.{Item}
use Rattle.verb_core.specs.declared.mailbox.Body.{Body}
use Rattle.verb_bytes.specs.declared.journal.JournalRecord.{JournalRecord}
use Rattle.verb_bytes.specs.Spelling.{record_bytes}
use Rattle.shelf.specs.declared.note.Note.{Note}
use Rattle.store_kept.specs.Coming.{HasUndone, HasUndoneTexts}
use Rattle.store_kept.specs.Kept.{IsRun, Kept, origin_of, performed}
use Rattle.store_kept.proofs.Coming.{texts_on}
use Rattle.mail_desk.specs.Held.{Held}
use Rattle.desk_journal.specs.Lasting.{JournalTold, Lasting, lasting}
use Rattle.desk_journal.specs.Permanence.{RevsBelow}
use Rattle.desk_journal.specs.Reading.{IsStill}
use Rattle.desk_journal.specs.Records.{after_record, after_records, all_true, is_true}
use Rattle.desk_journal.specs.Sealing.{ReadNoTexts, IsRecordOf, Seals, SealsPayloads}
use Rattle.desk_journal.specs.Stored.{HoldsTexts, MarkedBefore, MarksLie, NotesTexts, TextsNoted, TextsStored}
use Rattle.desk_journal.specs.Telling.{IsOnlyRead}
use Rattle.desk_journal.proofs.Holding.{holds_closed, holds_same, holds_sealed, noted_later}
use Rattle.desk_journal.proofs.Marking.{marked_later, marks_entered}
use Rattle.desk_journal.proofs.Entering.{item_revs, item_runs}
use Rattle.desk_journal.proofs.Truth.{one_true}

-- ---- notes

-- what lies in a journal lies there when more is sealed
pub lies_longer : (payloads more : List (List ℕ)) (gate count : ℕ) (payload : List ℕ) → LiesAt payloads gate count payload → LiesAt (payloads ++ more) gate count payload
lies_longer payloads more gate count payload at = record {
  before = at.before;
  after = at.after ++ more;
  split = ap (λ (l : List (List ℕ)). l ++ more) at.split ∙ append_assoc at.before (payload ∷ at.after) more;
  gate_is = at.gate_is;
  count_is = at.count_is;
}

-- the same of a desk whose journal grew by a record that was performed
pub noted_on : (gate next : ℕ) (bytes : List ℕ) (before after : Held) → next ≡ gate + 5 + length bytes → NotesTexts (gate + 5 + length bytes) (record { gate = gate; length = length bytes }) bytes before after
    → TextsNoted gate before.notes before.kept → TextsNoted next after.notes after.kept
noted_on gate next bytes before after is notes noted =
    subst (λ n. TextsNoted n after.notes after.kept) (sym is)
    (notes.before (noted_later gate (gate + 5 + length bytes) before.notes before.kept (omega arith) noted))

-- the same of a desk to which nothing was done
pub noted_same : (gate next : ℕ) (before after : Held) → next ≡ gate → after.kept ≡ before.kept → after.notes ≡ before.notes
    → TextsNoted gate before.notes before.kept → TextsNoted next after.notes after.kept
noted_same gate next before after is kept notes noted =
    subst (λ n. TextsNoted n after.notes after.kept) (sym is)
    (subst (TextsNoted gate after.notes) (sym kept) (subst (λ (n : List (Body × Note)). TextsNoted gate n before.kept) (sym notes) noted))

-- ---- marks

-- the same of a desk whose marks are as they were, or have more that lie before the later gate
pub marked_on : (gate next : ℕ) (bytes : List ℕ) (before after : Held) → next ≡ gate + 5 + length bytes → after.marks ≡ before.marks → MarkedBefore gate before.marks → MarkedBefore next after.marks
marked_on gate next bytes before after is same marked = subst (MarkedBefore next) (sym same) (marked_later gate next before.marks (omega (arith, is)) marked)

pub marked_same : (gate next : ℕ) (before after : Held) → next ≡ gate → after.marks ≡ before.marks → MarkedBefore gate before.marks → MarkedBefore next after.marks
marked_same gate next before after is same marked = subst (MarkedBefore next) (sym same) (marked_later gate next before.marks (omega (arith, is)) marked)

module _ {D : Type 0} (told : D → DiskTold) where
  -- ---- the texts that the disk holds

  -- what a journal's reading leaves of a desk
  pub still_read : (held : Held) (old new : JournalTold D) → IsOnlyRead told old new → IsStill told (lasting held old) (lasting held new)
  still_read held old new read = record { kept = refl; notes = refl; marks = refl; room = refl; gate = read.gate; closed = read.closed; reads = read.reads }

  -- room was made
  pub texts_moved : (before after : Held) (journal : JournalTold D) → after.kept ≡ before.kept → after.notes ≡ before.notes → after.marks ≡ before.marks → HoldsTexts told (lasting before journal) → HoldsTexts told (lasting after journal)
  texts_moved before after journal kept notes marks = holds_same told (lasting before journal) (lasting after journal) kept notes marks refl (λ payloads held. held) (λ payloads settled. settled)

  -- nothing was sealed
  pub texts_none : (before after : Held) (old new : JournalTold D) → SealsPayloads [] [] (told old.disk) (told new.disk) old.gate new.gate
      → old.closed ≡ false → after.kept ≡ before.kept → after.notes ≡ before.notes → after.marks ≡ before.marks → HoldsTexts told (lasting before old) → HoldsTexts told (lasting after new)
  texts_none before after old new seals open_ kept notes marks holds =
      let settled = subst (IsSettled (told new.disk) new.gate) (append-nil holds.payloads) (seals.settled holds.payloads (holds.settled open_) refl) in
      record {
        payloads = holds.payloads;
        texts = record {
          held = settled_holds (told new.disk) new.gate holds.payloads settled;
          lie = subst (TextsStored holds.payloads after.notes) (sym kept) (subst (λ (n : List (Body × Note)). TextsStored holds.payloads n before.kept) (sym notes) holds.texts.lie);
          revs = subst RevsBelow (sym kept) holds.texts.revs;
          back = subst HasUndoneTexts (sym kept) holds.texts.back;
          runs = subst IsRun (sym kept) holds.texts.runs;
          marks = subst (λ (k : Kept). MarksLie holds.payloads k after.marks) (sym kept) (subst (λ (m : List (ℕ × Place)). MarksLie holds.payloads before.kept m) (sym marks) holds.texts.marks);
        };
        settled = λ still. settled;
      }

  -- ---- what was sealed

  -- one record
  pub seals_one : (what : JournalRecord) (bytes : List ℕ) (before after : Held) (old new : JournalTold D) → record_bytes what ≡ bytes → is_true before.kept what ≡ true
      → SealsPayloads (bytes ∷ []) [] (told old.disk) (told new.disk) old.gate new.gate → old.closed ≡ false → new.closed ≡ false
      → after.kept.house ≡ before.kept.house
      → (HoldsTexts told (lasting before old) ⊎ ReadNoTexts (what ∷ []) → after_record before.kept what ≡ Some after.kept)
      → (HoldsTexts told (lasting before old) → HoldsTexts told (lasting after new))
      → Seals told (what ∷ []) [] (lasting before old) (lasting after new)
  seals_one what bytes before after old new bytes_are truth seals open_ still house can texts = record {
    kept = λ why. ap (option_and_then Some) (can why);
    house = house;
    could = refl;
    truth = λ why. one_true before.kept what truth;
    closed = still ∙ sym (ap (λ b. b || false) open_);
    on_disk = subst (λ (b : List ℕ). SealsPayloads (b ∷ []) [] (told old.disk) (told new.disk) old.gate new.gate) (sym bytes_are) seals;
    texts = texts;
  }

  -- the sealing of a record failed
  pub seals_failed : (what : JournalRecord) (bytes : List ℕ) (before after : Held) (old new : JournalTold D) → record_bytes what ≡ bytes → is_true before.kept what ≡ true
      → SealsPayloads [] (bytes ∷ []) (told old.disk) (told new.disk) old.gate new.gate → old.closed ≡ false → new.closed ≡ true
      → after.kept ≡ before.kept → after.notes ≡ before.notes → after.marks ≡ before.marks → IsSome (after_record before.kept what)
      → ((payloads : List (List ℕ)) → IsSettled (told old.disk) old.gate payloads → Holds (told new.disk) payloads)
      → Seals told [] (what ∷ []) (lasting before old) (lasting after new)
  seals_failed what bytes before after old new bytes_are truth seals open_ shut kept notes marks can held = record {
    kept = λ why. ap Some (sym kept);
    house = ap (λ (k : Kept). k.house) kept;
    could = could (after_record after.kept what) (subst (λ (k : Kept). IsSome (after_record k what)) (sym kept) can);
    truth = λ why. one_true before.kept what truth;
    closed = shut ∙ sym (ap (λ b. b || true) open_);
    on_disk = subst (λ (b : List ℕ). SealsPayloads [] (b ∷ []) (told old.disk) (told new.disk) old.gate new.gate) (sym bytes_are) seals;
    texts = holds_closed told (lasting before old) (lasting after new) kept notes marks open_ shut held;
  }
    where
      could : (next : Option Kept) → IsSome next → IsSome (option_and_then Some next)
      could None some = some
      could (Some k) some = refl

  -- nothing, for want of memory
  pub seals_none : (before after : Held) (old new : JournalTold D) → SealsPayloads [] [] (told old.disk) (told new.disk) old.gate new.gate → old.closed ≡ false → new.closed ≡ false
      → after.kept ≡ before.kept → after.notes ≡ before.notes → after.marks ≡ before.marks → Seals told [] [] (lasting before old) (lasting after new)
  seals_none before after old new seals open_ still kept notes marks = record {
    kept = λ why. ap Some (sym kept);
    house = ap (λ (k : Kept). k.house) kept;
    could = refl;
    truth = λ why. refl;
    closed = still ∙ sym (ap (λ b. b || false) open_);
    on_disk = seals;
    texts = texts_none before after old new seals open_ kept notes marks;
  }

  -- room that was made is nothing that was sealed
  pub seals_from : (added failed : List JournalRecord) (before after : Held) (journal : JournalTold D) (new : Lasting D) → after.kept ≡ before.kept → after.notes ≡ before.notes → after.marks ≡ before.marks
      → Seals told added failed (lasting after journal) new → Seals told added failed (lasting before journal) new
  seals_from added failed before after journal new kept notes marks seals = record {
    kept = λ why. subst (λ (k : Kept). after_records k added ≡ Some new.kept) kept (seals.kept (moved why));
    house = seals.house ∙ ap (λ (k : Kept). k.house) kept;
    could = seals.could;
    truth = λ why. subst (λ (k : Kept). all_true k (added ++ failed) ≡ true) kept (seals.truth (moved why));
    closed = seals.closed;
    on_disk = seals.on_disk;
    texts = λ holds. seals.texts (texts_moved before after journal kept notes marks holds);
  }
    where
      moved : HoldsTexts told (lasting before journal) ⊎ ReadNoTexts added → HoldsTexts told (lasting after journal) ⊎ ReadNoTexts added
      moved (inl holds) = inl (texts_moved before after journal kept notes marks holds)
      moved (inr none) = inr none

  -- ---- an item

  -- the record of an item was sealed, and the item was entered
  pub item_sealed : (what : JournalRecord) (bytes : List ℕ) (item : Item) (before after : Held) (old new : JournalTold D) → HasUndone before.kept → item.number ≡ before.kept.next → item.rev ≡ 0 → IsRecordOf what bytes before.kept item
      → SealsPayloads (bytes ∷ []) [] (told old.disk) (told new.disk) old.gate new.gate → old.closed ≡ false → new.closed ≡ false → after.kept ≡ performed before.kept item → after.marks ≡ before.marks
      → NotesTexts (old.gate + 5 + length bytes) (record { gate = old.gate; length = length bytes }) bytes before after
      → Seals told (what ∷ []) [] (lasting before old) (lasting after new)
  item_sealed what bytes item before after old new undone number none made seals open_ still done same noted =
      let can : after_record before.kept what ≡ Some after.kept = made.can_stand ∙ ap Some (sym done) in
      seals_one what bytes before after old new made.bytes_are made.truth seals open_ still (ap (λ (k : Kept). k.house) done) (λ why. can)
      (λ holds. holds_sealed told (lasting before old) (lasting after new) bytes lies_longer open_ (λ payloads settled. seals.settled payloads settled refl)
      (λ payloads lies all. noted.lie payloads lies all) (λ revs back. subst RevsBelow (sym done) (item_revs before.kept item none revs))
      (λ revs back. subst HasUndoneTexts (sym done) (texts_on (origin_of before.kept) before.kept.timeline before.kept.next item before.kept.undone number undone back))
      (λ runs. subst IsRun (sym done) (item_runs before.kept item runs))
      (λ payloads lies runs all. subst (MarksLie payloads after.kept) (sym same)
      (marks_entered payloads before.kept after.kept item before.marks (ap (λ (k : Kept). k.base) done) (ap (λ (k : Kept). k.timeline) done) all)) holds)
