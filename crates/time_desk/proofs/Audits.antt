-- What an audit finds, and whether records are true.
use Rattle.std.proofs.Common.{◌≡◌, ℕ, ◌+◌, ◌≤◌, Bool, true, false, ◌&&◌, cond, List, [], ◌∷◌, length, Option, Some, None, Result, Ok, Err, IfOk, IfErr, refl, sym, ap, subst, ◌∙◌}
use Rattle.std.specs.Prelude.{IsErrOf, OnOk, option_and_then, if◌then◌else◌}
use Rattle.std.specs.Option.{option_map_or}
use Rattle.verb_bytes.specs.declared.journal.JournalRecord.{JournalRecord}
use Rattle.verb_bytes.specs.Spelling.{record_bytes}
use Rattle.undo_outside.specs.Calls.{Rose}
use Rattle.undo_outside.specs.Disk.{DiskTold}
use Rattle.seal_log.specs.declared.fault.ReadFault.{ReadFault}
use Rattle.seal_log.specs.declared.fault.ReadFault.TheVariants.{Disk as read_disk, NoMemory as read_no_memory}
use Rattle.seal_log.specs.Causes.{ReadAtCause}
use Rattle.seal_log.specs.Journal.{sealed}
use Rattle.store_kept.specs.Kept.{Kept}
use Rattle.desk_journal.specs.Lasting.{PastTold}
use Rattle.desk_journal.specs.Records.{after_record, after_records, all_true, are_true, behind, front, is_true, opening_state, payloads_of, state}
use Rattle.time_desk.specs.declared.fault.StartFault.{StartFault}
use Rattle.time_desk.specs.declared.fault.StartFault.TheVariants.{Damaged, Disk, NoMemory, NotFormatted}
use Rattle.time_desk.specs.Auditing.{false_record, first_false}
use Rattle.time_desk.specs.Standing.{ReadCounts}

-- one finds none that is not true exactly where each is
abbrev Settles : Option ℕ → Bool → Type 0
Settles found truth = (found ≡ None → truth ≡ true) × (truth ≡ true → found ≡ None)

chosen : (t : Bool) (gate : ℕ) (found : Option ℕ) (truth : Bool) → Settles found truth → Settles (if t then found else Some gate) (t && truth)
chosen true gate found truth settles = settles
chosen false gate found truth settles = (λ e. absurd (cc e), λ e. absurd (cc e))

-- more records that can stand
all_settle : (rs : List JournalRecord) (kept new : Kept) (gate : ℕ) → after_records kept rs ≡ Some new → Settles (first_false kept gate rs) (all_true kept rs)
all_settle [] kept new gate is = (λ _. refl, λ _. refl)
all_settle (r ∷ rs) kept new gate is = elim (after_record kept r) as (λ (o : Option Kept). option_and_then (λ (next : Kept). after_records next rs) o ≡ Some new
    → Settles (if is_true kept r then option_and_then (λ (next : Kept). first_false next (gate + 5 + length (record_bytes r)) rs) o else Some gate) (is_true kept r && option_map_or (λ (next : Kept). all_true next rs) o true)) [
      | None ↦ λ e. absurd (cc e)
      | Some next ↦ λ e.
          chosen (is_true kept r) gate (first_false next (gate + 5 + length (record_bytes r)) rs) (all_true next rs) (all_settle rs next new (gate + 5 + length (record_bytes r)) e)
    ] is

-- those behind a journal's front
pub audit_settles : (records : List JournalRecord) (kept : Kept) → state records ≡ Some kept → Settles (false_record records) (are_true records)
audit_settles records kept is = by (opening_state (front records)) is
  where
    by : (o : Option Kept) → option_and_then (λ (k : Kept). after_records k (behind records)) o ≡ Some kept
        → Settles (option_and_then (λ (k : Kept). first_false k (length (sealed (payloads_of (front records)))) (behind records)) o) (option_map_or (λ (k : Kept). all_true k (behind records)) o true)
    by None is = absurd (cc is)
    by (Some first) is = all_settle (behind records) first kept (length (sealed (payloads_of (front records)))) is

-- ---- with the front read whole

-- what is found stands where the front was read
pub still_found : {T : Type 0} (result found : Result T ReadFault) (P : T → Type 0) → IfOk result (λ x. found ≡ Ok x) → IfOk found P → IfOk result P
still_found {T} (Ok x) found P same is = subst (λ (r : Result T ReadFault). IfOk r P) same is
still_found (Err fault) found P same is = tt

-- no read failed before
joined : {T : Type 0} (old mid new : DiskTold) (result : Result T ReadFault) → mid.failed_reads ≡ old.failed_reads → mid.is_reliable ≡ old.is_reliable
    → ReadAtCause mid new result → ReadAtCause old new result
joined old mid new (Ok x) count reliable cause = record {
  ok = cause.ok ∙ count;
  disk = λ is. absurd (cc is);
  no_memory = λ is. absurd (cc is);
}
joined old mid new (Err fault) count reliable cause = record {
  ok = tt;
  disk = λ is.
      let failed = cause.disk is in
      (subst (λ n. Rose n new.failed_reads) count failed.0, subst (λ n. new.failed_reads ≤ n + 1) count failed.1, failed.2, sym reliable ∙ failed.3);
  no_memory = λ is. cause.no_memory is ∙ count;
}

-- the cause of what the records behind the front are found to be, and of the front's being read
pub cause_with_front : {D T : Type 0} (told : D → DiskTold) (old begun mid new : PastTold D) (found result : Result T ReadFault)
    → (told begun.disk).failed_reads ≡ (told old.disk).failed_reads → (told begun.disk).is_reliable ≡ (told old.disk).is_reliable
    → (told mid.disk).is_reliable ≡ (told begun.disk).is_reliable → ReadAtCause (told begun.disk) (told mid.disk) found
    → IfOk found (λ x. ReadAtCause (told mid.disk) (told new.disk) result) → IfErr found (λ fault. (result ≡ Err fault) × (new ≡ mid))
    → ReadAtCause (told old.disk) (told new.disk) result
cause_with_front told old begun mid new (Ok x) result count reliable still cause read same =
    joined (told old.disk) (told mid.disk) (told new.disk) result (cause.ok ∙ count) (still ∙ reliable) read
cause_with_front {D} {T} told old begun mid new (Err fault) result count reliable still cause read same =
    subst (λ (r : Result T ReadFault). ReadAtCause (told old.disk) (told new.disk) r) (sym same.0) (
    subst (λ (p : PastTold D). ReadAtCause {T = T} (told old.disk) (told p.disk) (Err fault)) (sym same.1) (joined (told old.disk) (told begun.disk) (told mid.disk) (Err fault) count reliable cause))

-- ---- a record that was to be read

ok_there : {T : Type 0} (old new : DiskTold) (fault : StartFault) (result : Result T ReadFault) → ReadCounts old new fault → (fault ≡ Disk → OnOk result ⊥) → OnOk result (new.failed_reads ≡ old.failed_reads)
ok_there old new fault (Err e) counts not_disk = tt
ok_there old new NotFormatted (Ok x) counts not_disk = counts
ok_there old new (Damaged place) (Ok x) counts not_disk = counts
ok_there old new Disk (Ok x) counts not_disk = absurd (not_disk refl)
ok_there old new NoMemory (Ok x) counts not_disk = counts

-- why an audit reads no record there
pub cause_there : {T : Type 0} (old new : DiskTold) (fault : StartFault) (result : Result T ReadFault) → ReadCounts old new fault → (fault ≡ Disk → OnOk result ⊥)
    → (IsErrOf result read_disk → fault ≡ Disk) → (IsErrOf result read_no_memory → fault ≡ NoMemory) → ReadAtCause old new result
cause_there old new fault result counts ok disk no_memory = record {
  ok = ok_there old new fault result counts ok;
  disk = λ is. subst (ReadCounts old new) (disk is) counts;
  no_memory = λ is. subst (ReadCounts old new) (no_memory is) counts;
}
