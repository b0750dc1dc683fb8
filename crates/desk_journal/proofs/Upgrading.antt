-- An upgrade that is sealed.
use Rattle.std.proofs.Common.{◌≡◌, ℕ, ◌+◌, ◌&&◌, not, Bool, true, false, cond, List, [], ◌∷◌, length, Some, None, Result, Ok, Err, OnOk, inr, arith, refl, sym, ap, subst, ◌∙◌}
use Rattle.undo_outside.specs.Disk.{DiskTold}
use Rattle.verb_bytes.specs.declared.journal.JournalRecord.TheVariants.{Upgrade}
use Rattle.verb_bytes.specs.Spelling.{record_bytes}
use Rattle.seal_log.specs.declared.fault.SealFault.{SealFault}
use Rattle.seal_log.specs.declared.fault.SealFault.TheVariants as log_faults
use Rattle.shelf.specs.declared.note.Note.{Note}
use Rattle.verb_core.specs.declared.mailbox.Body.{Body}
use Rattle.mail_desk.specs.Held.{Held}
use Rattle.store_kept.specs.Coming.{HasUndoneTexts}
use Rattle.store_kept.specs.Kept.{IsRun, Kept, upgraded}
use Rattle.desk_journal.specs.Lasting.{JournalTold, Lasting, lasting}
use Rattle.desk_journal.specs.Permanence.{RevsBelow}
use Rattle.desk_journal.specs.Records.{after_record, is_spelled}
use Rattle.desk_journal.specs.Sealing.{IsRecordTo, SealsPayloads}
use Rattle.desk_journal.specs.Stored.{MarksLie, TextsNoted, TextsStored}
use Rattle.desk_journal.specs.Submitting.{SealsNone, Upgrades, UpgradesNone, UpgradesOnce}
use Rattle.desk_journal.proofs.Holding.{holds_sealed, noted_later}
use Rattle.desk_journal.proofs.Marking.{marks_kept}
use Rattle.desk_journal.proofs.Sealed.{lies_longer, seals_one}
use Rattle.desk_journal.proofs.Truth.{upgrade_true}

-- the record of an upgrade can stand where there was none before, and it is true
pub upgrade_record_of : (kept : Kept) (at : ℕ) (bytes : List ℕ) → bytes ≡ record_bytes (Upgrade at) → is_spelled (Upgrade at) ≡ true → kept.deep ≡ false → IsRecordTo (Upgrade at) bytes kept (upgraded kept)
upgrade_record_of kept at bytes is spelled flat = record {
  bytes_are = sym is;
  can_stand = ap (λ (b : Bool). cond (b && not kept.deep) (Some (upgraded kept)) None) spelled ∙ ap (λ (b : Bool). cond (not b) (Some (upgraded kept)) None) flat;
  truth = upgrade_true kept at;
}

-- what the record of an upgrade leaves
pub upgrade_is : (kept new : Kept) (at : ℕ) → after_record kept (Upgrade at) ≡ Some new → upgraded kept ≡ new
upgrade_is kept new at is = by (is_spelled (Upgrade at)) kept.deep is
  where
    by : (spelled deep : Bool) → cond (spelled && not deep) (Some (upgraded kept)) None ≡ Some new → upgraded kept ≡ new
    by true false e = cc e
    by true true e = absurd (cc e)
    by false deep e = absurd (cc e)

-- each text is noted before the later gate
pub noted_upgrade : (gate next : ℕ) (bytes : List ℕ) (before after : Held) → next ≡ gate + 5 + length bytes → after.kept ≡ upgraded before.kept → after.notes ≡ before.notes
    → TextsNoted gate before.notes before.kept → TextsNoted next after.notes after.kept
noted_upgrade gate next bytes before after is kept notes noted =
    subst (TextsNoted next after.notes) (sym kept) (subst (λ (n : List (Body × Note)). TextsNoted next n before.kept) (sym notes)
    (noted_later gate next before.notes before.kept (omega (arith, is)) noted))

-- one that is deep is as an upgrade leaves it
pub upgraded_again : (kept : Kept) → kept.deep ≡ true → kept ≡ upgraded kept
upgraded_again kept deep = λ j. record kept { deep = deep j }

module _ {D : Type 0} (told : D → DiskTold) where
  -- it was sealed
  pub upgrade_sealed : (at : ℕ) (bytes : List ℕ) (before after : Held) (old new : JournalTold D) → IsRecordTo (Upgrade at) bytes before.kept (upgraded before.kept)
      → SealsPayloads (bytes ∷ []) [] (told old.disk) (told new.disk) old.gate new.gate → old.closed ≡ false → new.closed ≡ false
      → after.kept ≡ upgraded before.kept → after.notes ≡ before.notes → after.marks ≡ before.marks
      → Upgrades told at (lasting before old) (lasting after new)
  upgrade_sealed at bytes before after old new made seals open_ still done notes marks = (
    open_,
    done,
    seals_one told (Upgrade at) bytes before after old new made.bytes_are made.truth seals open_ still (ap (λ (k : Kept). k.house) done)
        (λ why. made.can_stand ∙ ap Some (sym done))
        (holds_sealed told (lasting before old) (lasting after new) bytes lies_longer open_ (λ payloads settled. seals.settled payloads settled refl)
        (λ payloads lies all. subst (λ (n : List (Body × Note)). TextsStored payloads n after.kept) (sym notes) (subst (TextsStored payloads before.notes) (sym done) all))
        (λ revs back. subst RevsBelow (sym done) revs)
        (λ revs back. subst HasUndoneTexts (sym done) back)
        (λ runs. subst IsRun (sym done) runs)
        (λ payloads lies runs all. subst (MarksLie payloads after.kept) (sym marks)
        (marks_kept payloads before.kept after.kept before.marks (ap (λ (k : Kept). k.base) done) (ap (λ (k : Kept). k.timeline) done) all))),
  )

  -- where there was none before
  pub upgraded_once : {T E : Type 0} (result : Result T E) (at : ℕ) (old new : Lasting D) → old.kept.deep ≡ false → OnOk result (Upgrades told at old new) → OnOk result (UpgradesOnce told at old new)
  upgraded_once (Ok x) at old new flat done = inr (flat, done)
  upgraded_once (Err e) at old new flat done = tt

  -- it was not
  pub upgrades_none : (at : ℕ) (old new : Lasting D) (fault : SealFault) → old.closed ≡ false → SealsNone told (Upgrade at) old new fault → UpgradesNone told at old new fault
  upgrades_none at old new log_faults.Disk open_ none = (open_, none)
  upgrades_none at old new log_faults.NoMemory open_ none = (open_, none)
  upgrades_none at old new log_faults.Closed open_ none = absurd none
