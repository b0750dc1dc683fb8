-- What becomes of asks and acts, from what became of sealing them.
use Rattle.std.proofs.Common.{inl, inr, ⊎_elim, ◌≡◌, ◌<◌, ℕ, false, List, [], ◌∷◌, Result, Ok, Err, IfOk, OnOk, IfErr, subst, sym, ap, refl, ◌∙◌}
use Rattle.std.specs.Prelude.{IsSome}
use Rattle.undo_outside.specs.Disk.{DiskTold}
use Rattle.seal_log.specs.Causes.{SealWants}
use Rattle.seal_log.specs.declared.fault.SealFault.{SealFault}
use Rattle.seal_log.specs.declared.fault.SealFault.TheVariants as log_faults
use Rattle.verb_core.specs.declared.ask.Refused.{Refused}
use Rattle.verb_core.specs.declared.ask.SubmitFault.{SubmitFault}
use Rattle.verb_core.specs.declared.ask.SubmitFault.TheVariants as ask_faults
use Rattle.box_store.specs.Refusing.{IsRefusal}
use Rattle.verb_core.specs.declared.item.Act.{Act}
use Rattle.verb_core.specs.declared.item.Item.{Item}
use Rattle.verb_bytes.specs.declared.journal.JournalRecord.{JournalRecord}
use Rattle.verb_bytes.specs.declared.journal.JournalRecord.TheVariants.{Verb, Operator}
use Rattle.store_kept.specs.Kept.{performed, Kept}
use Rattle.mail_desk.specs.Desk.{submitted_as}
use Rattle.mail_desk.specs.Held.{Held}
use Rattle.desk_journal.specs.declared.fault.ActFault.{ActFault}
use Rattle.desk_journal.specs.Lasting.{JournalTold, Lasting, lasting}
use Rattle.desk_journal.specs.Records.{after_record}
use Rattle.desk_journal.specs.Sealing.{IsRecordOf, IsRecordTo}
use Rattle.desk_journal.specs.Submitting.{ActWants, ActsNone, IsActOutcomeOf, IsOutcomeOf, SealsBytes, SealsNone, SubmitWants, SubmitsNone, WritesNone}
use Rattle.desk_journal.proofs.Sealed.{seals_failed, seals_from, seals_none}

-- the record of an item that is kept elsewhere as the same
pub record_as : (what : JournalRecord) (bytes : List ℕ) (kept held : Kept) (item entered : Item) → held ≡ kept → entered ≡ item → IsRecordOf what bytes kept item → IsRecordOf what bytes held entered
record_as what bytes kept held item entered same copy made =
    subst (λ (k : Kept). IsRecordOf what bytes k entered) (sym same) (subst (λ (i : Item). IsRecordOf what bytes kept i) (sym copy) made)

-- the item that is due is the one that was entered
pub ok_submitted : (result : Result Item SubmitFault) (due : Result Item Refused) (kept new : Kept) (found : Item) → due ≡ Ok found
    → IfOk result (λ item. item ≡ found) → OnOk result (new ≡ performed kept found) → IfOk result (λ item. submitted_as kept due ≡ record { outcome = Ok item; kept = new })
ok_submitted (Ok item) due kept new found is copy done =
    ap (submitted_as kept) is ∙ (λ j. record { outcome = Ok (sym copy j); kept = sym done j })
ok_submitted (Err fault) due kept new found is copy done = tt

-- sealing refuses for want of memory alone, where nothing is owed
pub outcome_writes_none : {D : Type 0} (fault : SealFault) (out : SubmitFault) (old new : Lasting D) → IsOutcomeOf fault out → WritesNone (Err out) old new
outcome_writes_none log_faults.Disk out old new is = subst (λ (o : SubmitFault). WritesNone (Err o) old new) (sym is) tt
outcome_writes_none log_faults.NoMemory out old new is = subst (λ (o : SubmitFault). WritesNone (Err o) old new) (sym is) (λ more. absurd (more refl))
outcome_writes_none log_faults.Closed out old new is = absurd is

-- a record that can stand comes to something
some_after : (what : JournalRecord) (bytes : List ℕ) (kept next : Kept) → IsRecordTo what bytes kept next → IsSome (after_record kept what)
some_after what bytes kept next made = subst IsSome (sym made.can_stand) refl

module _ {D X : Type 0} (told : D → DiskTold) where
  -- a record was not sealed
  pub not_sealed : (what : JournalRecord) (bytes : List ℕ) (next : Kept) (before after : Held) (old new : JournalTold D) (fault : SealFault) → IsRecordTo what bytes before.kept next → after.kept ≡ before.kept → after.notes ≡ before.notes → after.marks ≡ before.marks
      → old.closed ≡ false → SealsBytes {X = X} told bytes old new (Err fault) → SealsNone told what (lasting before old) (lasting after new) fault
  not_sealed what bytes next before after old new log_faults.Disk made kept notes marks open_ sealed =
      seals_failed told what bytes before after old new made.bytes_are made.truth (sealed.failed refl) open_ (sealed.closes refl) kept notes marks (some_after what bytes before.kept next made) sealed.held
  not_sealed what bytes next before after old new log_faults.NoMemory made kept notes marks open_ sealed =
      seals_none told before after old new (sealed.no_memory refl) open_ (sealed.open_again refl) kept notes marks
  not_sealed what bytes next before after old new log_faults.Closed made kept notes marks open_ sealed = sealed.never refl

module _ {D : Type 0} (told : D → DiskTold) where
  -- ---- which writes found memory

  pub submit_wants : {X : Type 0} (old new : D) (fault : SealFault) (out : SubmitFault) → IsOutcomeOf fault out → SealWants {T = X} told old new (Err fault) → SubmitWants told old new out
  submit_wants old new log_faults.Disk out is wants = subst (SubmitWants told old new) (sym is) (wants.disk refl)
  submit_wants old new log_faults.NoMemory out is wants =
      subst (SubmitWants told old new) (sym is) (⊎_elim (λ same. inl same) (λ out_of_memory. inr (refl, out_of_memory)) (wants.no_memory refl))
  submit_wants old new log_faults.Closed out is wants = absurd is

  pub act_wants : {X : Type 0} (old new : D) (fault : SealFault) (out : ActFault) → IsActOutcomeOf fault out → SealWants {T = X} told old new (Err fault) → ActWants told old new out
  act_wants old new log_faults.Disk out is wants = subst (ActWants told old new) (sym is) (wants.disk refl)
  act_wants old new log_faults.NoMemory out is wants = subst (ActWants told old new) (sym is) (wants.no_memory refl)
  act_wants old new log_faults.Closed out is wants = absurd is

  -- ---- asks

  pub submits_none : (item : Item) (old new : Lasting D) (fault : SealFault) (out : SubmitFault) → old.closed ≡ false → IsOutcomeOf fault out
      → SealsNone told (Verb item) old new fault → SubmitsNone told (Ok item) old new out
  submits_none item old new log_faults.Disk out open_ is none = subst (SubmitsNone told (Ok item) old new) (sym is) (open_, (item, refl, none))
  submits_none item old new log_faults.NoMemory out open_ is none = subst (SubmitsNone told (Ok item) old new) (sym is) (open_, tt, none)
  submits_none item old new log_faults.Closed out open_ is none = absurd none

  -- of the desk before room was made, by what is due
  pub submits_none_from : (due : Result Item Refused) (item : Item) (before after : Held) (journal : JournalTold D) (new : Lasting D) (result : Result Item SubmitFault)
      → due ≡ Ok item → after.kept ≡ before.kept → after.notes ≡ before.notes → after.marks ≡ before.marks → journal.closed ≡ false → IfErr result (λ fault. SubmitsNone told (Ok item) (lasting after journal) new fault)
      → IfErr result (λ fault. SubmitsNone told due (lasting before journal) new fault)
  submits_none_from due item before after journal new (Ok x) is same notes marks still none = tt
  submits_none_from due item before after journal new (Err (ask_faults.Refused why)) is same notes marks still (open_, refusal, nothing) =
      (open_, subst (λ (d : Result Item Refused). IsRefusal why d) (sym is) refusal, seals_from told [] [] before after journal new same notes marks nothing)
  submits_none_from due item before after journal new (Err ask_faults.Disk) is same notes marks still (open_, (other, due_is, failed)) =
      (open_, (other, is ∙ due_is, seals_from told [] (Verb other ∷ []) before after journal new same notes marks failed))
  submits_none_from due item before after journal new (Err ask_faults.Closed) is same notes marks still (shut, unchanged) = absurd (cc (still, shut))

  -- ---- acts

  pub acts_none : (at : ℕ) (act : Act) (before after : Held) (journal : JournalTold D) (new : Lasting D) (fault : SealFault) (out : ActFault)
      → after.kept ≡ before.kept → after.notes ≡ before.notes → after.marks ≡ before.marks → journal.closed ≡ false → before.kept.next < 4194304 → IsActOutcomeOf fault out
      → SealsNone told (Operator before.kept.next at act) (lasting after journal) new fault → ActsNone told at act (lasting before journal) new out
  acts_none at act before after journal new log_faults.Disk out same notes marks open_ left is none =
      subst (ActsNone told at act (lasting before journal) new) (sym is) (open_, left, seals_from told [] (Operator before.kept.next at act ∷ []) before after journal new same notes marks none)
  acts_none at act before after journal new log_faults.NoMemory out same notes marks open_ left is none =
      subst (ActsNone told at act (lasting before journal) new) (sym is) (open_, left, seals_from told [] [] before after journal new same notes marks none)
  acts_none at act before after journal new log_faults.Closed out same notes marks open_ left is none = absurd none
