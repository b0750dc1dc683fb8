-- A snapshot that is sealed.
use Rattle.std.proofs.Common.{◌≡◌, ℕ, ◌+◌, ◌≤◌, ◌&&◌, Bool, true, false, cond, List, [], ◌∷◌, length, Some, None, arith, refl, sym, ap, subst, ◌∙◌}
use Rattle.std.proofs.lemmas.Bool.{eq-eqb}
use Rattle.undo_outside.specs.Disk.{DiskTold}
use Rattle.verb_core.specs.Store.{IsValid}
use Rattle.verb_bytes.specs.Spelling.{record_bytes}
use Rattle.seal_log.specs.declared.fault.SealFault.{SealFault}
use Rattle.seal_log.specs.declared.fault.SealFault.TheVariants as log_faults
use Rattle.seal_log.specs.declared.place.Place.{Place}
use Rattle.seal_log.specs.Journal.{LiesAt}
use Rattle.shelf.specs.Marks.{with_mark}
use Rattle.shelf.specs.declared.note.Note.{Note}
use Rattle.verb_core.specs.declared.mailbox.Body.{Body}
use Rattle.box_store.specs.Making.{makes_store, store_of_rows}
use Rattle.mail_desk.specs.Held.{Held}
use Rattle.store_kept.specs.Coming.{HasUndoneTexts}
use Rattle.store_kept.specs.Kept.{IsRun, Kept, passed, snapshotted, store_of}
use Rattle.desk_journal.specs.Lasting.{JournalTold, Lasting, lasting}
use Rattle.desk_journal.specs.Permanence.{RevsBelow}
use Rattle.desk_journal.specs.Records.{after_kept, after_record, can_keep, is_spelled, snapshot_record}
use Rattle.desk_journal.specs.Sealing.{IsRecordTo, Seals, SealsPayloads}
use Rattle.desk_journal.specs.Stored.{MarkedBefore, MarksLie, TextsNoted, TextsStored}
use Rattle.desk_journal.specs.Submitting.{SealsNone, Snapshots, SnapshotsNone}
use Rattle.desk_journal.proofs.Holding.{holds_sealed, noted_later}
use Rattle.desk_journal.proofs.Marking.{marked_later, marks_kept, marks_snapshotted, marks_with}
use Rattle.desk_journal.proofs.Sealed.{lies_longer, seals_from, seals_one}
use Rattle.desk_journal.proofs.Truth.{snapshot_true}

-- the snapshot of what is kept can stand, where the store is valid and of the house: it is true
pub snapshot_stands : (kept : Kept) → makes_store kept.house (store_of kept).conf (store_of kept).boxes ≡ true → is_spelled (snapshot_record kept) ≡ true
    → after_record kept (snapshot_record kept) ≡ Some (snapshotted kept)
snapshot_stands kept makes spelled =
    ap (λ (b : Bool). cond (b && can_keep kept (length kept.timeline) (store_of kept).conf (store_of kept).boxes) (Some (after_kept kept (snapshot_record kept))) None) spelled
    ∙ ap (λ (b : Bool). cond (b && makes_store kept.house (store_of kept).conf (store_of kept).boxes) (Some (after_kept kept (snapshot_record kept))) None) (eq-eqb (length kept.timeline) (length kept.timeline) refl)
    ∙ ap (λ (b : Bool). cond b (Some (after_kept kept (snapshot_record kept))) None) makes
    ∙ ap (λ (b : Bool). Some (cond b (snapshotted kept) (record kept { marks = passed kept.marks }))) (snapshot_true kept)

-- the store of what is kept is one of its house
pub store_is_made : (kept : Kept) → (store_of kept).house ≡ kept.house → IsValid (store_of kept) → IsValid (store_of_rows kept.house (store_of kept).conf (store_of kept).boxes)
store_is_made kept house valid = subst (λ h. IsValid (store_of_rows h (store_of kept).conf (store_of kept).boxes)) house valid

pub snapshot_record_of : (kept : Kept) (bytes : List ℕ) → bytes ≡ record_bytes (snapshot_record kept) → makes_store kept.house (store_of kept).conf (store_of kept).boxes ≡ true → is_spelled (snapshot_record kept) ≡ true
    → IsRecordTo (snapshot_record kept) bytes kept (snapshotted kept)
snapshot_record_of kept bytes is makes spelled = record { bytes_are = sym is; can_stand = snapshot_stands kept makes spelled; truth = snapshot_true kept }

-- each text is noted before the later gate
pub noted_snapshot : (gate next : ℕ) (bytes : List ℕ) (before after : Held) → next ≡ gate + 5 + length bytes → after.kept ≡ snapshotted before.kept → after.notes ≡ before.notes
    → TextsNoted gate before.notes before.kept → TextsNoted next after.notes after.kept
noted_snapshot gate next bytes before after is kept notes noted =
    subst (TextsNoted next after.notes) (sym kept) (subst (λ (n : List (Body × Note)). TextsNoted next n before.kept) (sym notes)
    (noted_later gate next before.notes before.kept (omega (arith, is)) noted))

-- it is marked before the later gate
pub marked_snapshot : (gate next n : ℕ) (bytes : List ℕ) (before after : List (ℕ × Place)) → next ≡ gate + 5 + length bytes → after ≡ with_mark n (record { gate = gate; length = length bytes }) before
    → MarkedBefore gate before → MarkedBefore next after
marked_snapshot gate next n bytes before after is marks marked =
    subst (MarkedBefore next) (sym marks)
    (marks_with (λ m. m.1.gate + 5 + m.1.length ≤ next) n (record { gate = gate; length = length bytes }) before (omega (arith, is)) (marked_later gate next before (omega (arith, is)) marked))

module _ {D : Type 0} (told : D → DiskTold) where
  -- it was sealed, and marked where it lies
  pub snapshot_sealed : (bytes : List ℕ) (before after : Held) (old new : JournalTold D) → IsRecordTo (snapshot_record before.kept) bytes before.kept (snapshotted before.kept) → is_spelled (snapshot_record before.kept) ≡ true
      → SealsPayloads (bytes ∷ []) [] (told old.disk) (told new.disk) old.gate new.gate → old.closed ≡ false → new.closed ≡ false
      → after.kept ≡ snapshotted before.kept → after.notes ≡ before.notes → after.marks ≡ with_mark (length before.kept.timeline) (record { gate = old.gate; length = length bytes }) before.marks
      → Seals told (snapshot_record before.kept ∷ []) [] (lasting before old) (lasting after new)
  snapshot_sealed bytes before after old new made spelled seals open_ still done notes marks =
      let kept = before.kept in
      seals_one told (snapshot_record kept) bytes before after old new made.bytes_are made.truth seals open_ still (ap (λ (k : Kept). k.house) done)
      (λ why. made.can_stand ∙ ap Some (sym done))
      (holds_sealed told (lasting before old) (lasting after new) bytes lies_longer open_ (λ payloads settled. seals.settled payloads settled refl)
      (λ payloads lies all. subst (λ (n : List (Body × Note)). TextsStored payloads n after.kept) (sym notes) (subst (TextsStored payloads before.notes) (sym done) all))
      (λ revs back. subst RevsBelow (sym done) revs)
      (λ revs back. subst HasUndoneTexts (sym done) back)
      (λ runs. subst IsRun (sym done) runs)
      (λ payloads lies runs all. subst (MarksLie payloads after.kept) (sym marks)
      (marks_kept payloads kept after.kept (with_mark (length kept.timeline) (record { gate = old.gate; length = length bytes }) before.marks) (ap (λ (k : Kept). k.base) done) (ap (λ (k : Kept). k.timeline) done)
      (marks_snapshotted payloads kept (record { gate = old.gate; length = length bytes }) before.marks runs spelled
      (subst (λ (b : List ℕ). LiesAt payloads old.gate (length bytes) b) (sym made.bytes_are) lies) all))))

  -- it was not
  pub snapshots_none : (before after : Held) (journal : JournalTold D) (new : Lasting D) (fault : SealFault) → after.kept ≡ before.kept → after.notes ≡ before.notes → after.marks ≡ before.marks → journal.closed ≡ false
      → SealsNone told (snapshot_record before.kept) (lasting after journal) new fault → SnapshotsNone told (lasting before journal) new fault
  snapshots_none before after journal new log_faults.Disk same notes marks open_ none = (open_, seals_from told [] (snapshot_record before.kept ∷ []) before after journal new same notes marks none)
  snapshots_none before after journal new log_faults.NoMemory same notes marks open_ none = (open_, seals_from told [] [] before after journal new same notes marks none)
  snapshots_none before after journal new log_faults.Closed same notes marks open_ none = absurd none

  -- the same with room made first: what is told of it
  pub snapshot_sealed_from : (bytes : List ℕ) (before mid after : Held) (old new : JournalTold D) → mid.kept ≡ before.kept → mid.notes ≡ before.notes → mid.marks ≡ before.marks
      → bytes ≡ record_bytes (snapshot_record before.kept) → is_spelled (snapshot_record before.kept) ≡ true → makes_store before.kept.house (store_of before.kept).conf (store_of before.kept).boxes ≡ true
      → SealsPayloads (bytes ∷ []) [] (told old.disk) (told new.disk) old.gate new.gate → old.closed ≡ false → new.closed ≡ false
      → after.kept ≡ snapshotted mid.kept → after.notes ≡ mid.notes → after.marks ≡ with_mark (length mid.kept.timeline) (record { gate = old.gate; length = length bytes }) mid.marks
      → Snapshots told (lasting before old) (lasting after new) (length before.kept.timeline)
  snapshot_sealed_from bytes before mid after old new kept notes marks bytes_are spelled makes seals open_ still done same marked = (
    open_,
    refl,
    done ∙ ap snapshotted kept,
    snapshot_sealed bytes before after old new (snapshot_record_of before.kept bytes bytes_are makes spelled) spelled seals open_ still (done ∙ ap snapshotted kept) (same ∙ notes)
        (marked ∙ (λ j. with_mark (length (kept j).timeline) (record { gate = old.gate; length = length bytes }) (marks j))),
  )
