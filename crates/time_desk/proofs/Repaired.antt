-- A repair whose record was sealed behind reads, and which was put in place.
use Rattle.std.proofs.Common.{◌≡◌, ◌∙◌, ◌||◌, ℕ, false, List, [], ◌∷◌, Some, Err, inl, inr, length, refl, ap, sym, subst}
use Rattle.std.specs.Prelude.{◌⊎◌, IsTrue, option_and_then}
use Rattle.undo_outside.specs.Disk.{DiskTold, IsHonest}
use Rattle.verb_bytes.specs.declared.journal.JournalRecord.{JournalRecord}
use Rattle.verb_bytes.specs.Spelling.{record_bytes}
use Rattle.seal_log.specs.Journal.{LiesAt}
use Rattle.seal_log.specs.Settled.{ReadsAlone}
use Rattle.seal_log.specs.declared.fault.SealFault.{SealFault}
use Rattle.seal_log.specs.declared.fault.SealFault.TheVariants as log_faults
use Rattle.store_kept.specs.Kept.{IsRun, Kept}
use Rattle.mail_desk.specs.Held.{Held}
use Rattle.desk_journal.specs.Lasting.{JournalTold, Lasting, lasting}
use Rattle.desk_journal.specs.Permanence.{IsSound}
use Rattle.desk_journal.specs.Reading.{IsStill}
use Rattle.desk_journal.specs.Records.{after_record, is_true}
use Rattle.desk_journal.specs.Sealing.{IsRecordTo, ReadNoTexts, Seals, SealsPayloads}
use Rattle.desk_journal.specs.Stored.{HoldsTexts, MarksLie, TextsStored}
use Rattle.desk_journal.specs.Submitting.{SealsBytes, SealsNone, SealsNothing}
use Rattle.desk_journal.proofs.Holding.{holds_sealed}
use Rattle.desk_journal.proofs.Payloads.{none_read, payloads_then}
use Rattle.desk_journal.proofs.Runs.{seals_nothing, seals_still, seals_then, still_holds}
use Rattle.desk_journal.proofs.Sealed.{lies_longer}
use Rattle.desk_journal.proofs.Submits.{not_sealed}
use Rattle.desk_journal.proofs.Truth.{one_true}
use Rattle.time_desk.proofs.Soundness.{back_on, revs_on}

module _ {D : Type 0} (told : D → DiskTold) (disk : D) (before after : Held) (old new : JournalTold D) (what : JournalRecord) (bytes : List ℕ) (reads : ReadsAlone (told disk) (told old.disk)) (open_ : old.closed ≡ false) where
  -- the desk before texts were read
  abbrev First : Lasting D
  First = lasting before (record old { disk = disk })

  still : IsStill told First (lasting before old)
  still = record { kept = refl; notes = refl; marks = refl; room = refl; gate = refl; closed = refl; reads = reads }

  -- its record was sealed, and what it leaves is what is kept, where the texts were read as they were stored
  pub record_sealed : record_bytes what ≡ bytes → IsTrue (is_true before.kept what) → (ReadNoTexts (what ∷ []) → ⊥) → (HoldsTexts told First → after_record before.kept what ≡ Some after.kept) → after.kept.house ≡ before.kept.house
      → SealsPayloads (bytes ∷ []) [] (told old.disk) (told new.disk) old.gate new.gate → new.closed ≡ false → (IsRun before.kept → IsSound before.kept) → (HoldsTexts told First → IsRun after.kept)
      → (HoldsTexts told First → (payloads : List (List ℕ)) → LiesAt payloads old.gate (length bytes) bytes → TextsStored payloads before.notes before.kept → TextsStored payloads after.notes after.kept)
      → (HoldsTexts told First → (payloads : List (List ℕ)) → LiesAt payloads old.gate (length bytes) bytes → IsRun before.kept → MarksLie payloads before.kept before.marks → MarksLie payloads after.kept after.marks)
      → Seals told (what ∷ []) [] First (lasting after new)
  record_sealed bytes_are truth never can house seals is_open sound runs lies marked = record {
    kept = λ why. ap (option_and_then Some) (stands why);
    house = house;
    could = refl;
    truth = λ why. one_true before.kept what truth;
    closed = is_open ∙ sym (ap (λ b. b || false) open_);
    on_disk = subst (λ (b : List ℕ). SealsPayloads (b ∷ []) [] (told disk) (told new.disk) old.gate new.gate) (sym bytes_are)
        (payloads_then [] (bytes ∷ []) [] (told disk) (told old.disk) (told new.disk) old.gate old.gate new.gate (none_read (told disk) (told old.disk) old.gate reads) seals);
    texts = λ holds.
        holds_sealed told (lasting before old) (lasting after new) bytes lies_longer open_ (λ payloads settled. seals.settled payloads settled refl)
        (lies holds) (revs_on what before.kept after.kept (sound holds.texts.runs) (can holds)) (back_on what before.kept after.kept (sound holds.texts.runs) (can holds)) (λ was. runs holds) (marked holds)
        (still_holds told First (lasting before old) still holds);
  }
    where
      stands : HoldsTexts told First ⊎ ReadNoTexts (what ∷ []) → after_record before.kept what ≡ Some after.kept
      stands (inl holds) = can holds
      stands (inr none) = absurd (never none)

  -- nothing was sealed
  pub nothing_sealed : ((d : D) → (told d).honest → IsHonest (told d)) → after.kept ≡ before.kept → after.notes ≡ before.notes → after.marks ≡ before.marks → SealsNothing told First (lasting after old)
  nothing_sealed truth kept notes marks =
      seals_then told [] [] [] First (lasting before old) (lasting after old) (seals_still told First (lasting before old) still)
      (seals_nothing told truth (lasting before old) (lasting after old) (record { kept = kept; notes = notes; marks = marks; disk = refl; gate = refl; closed = refl }))

  -- it was not sealed
  pub record_unsealed : {X : Type 0} (next : Kept) (fault : SealFault) → IsRecordTo what bytes before.kept next → SealsBytes {X = X} told bytes old new (Err fault) → after.kept ≡ before.kept → after.notes ≡ before.notes → after.marks ≡ before.marks
      → SealsNone told what First (lasting after new) fault
  record_unsealed next fault made sealed kept notes marks = later fault (not_sealed told what bytes next before after old new fault made kept notes marks open_ sealed)
    where
      later : (f : SealFault) → SealsNone told what (lasting before old) (lasting after new) f → SealsNone told what First (lasting after new) f
      later log_faults.Disk none = seals_then told [] [] (what ∷ []) First (lasting before old) (lasting after new) (seals_still told First (lasting before old) still) none
      later log_faults.NoMemory none = seals_then told [] [] [] First (lasting before old) (lasting after new) (seals_still told First (lasting before old) still) none
      later log_faults.Closed none = none
