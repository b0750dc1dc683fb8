-- What comes of a record that is read, behind reads that did not fail.
use Rattle.std.proofs.Common.{◌≡◌, ◌∙◌, ◌+◌, ◌≤◌, ℕ, Bool, List, Result, Ok, Err, OnOk, subst, sym}
use Rattle.undo_outside.specs.Calls.{Rose}
use Rattle.undo_outside.specs.Disk.{DiskTold}
use Rattle.seal_log.specs.Settled.{Holds}
use Rattle.seal_log.specs.declared.place.Place.{Place}
use Rattle.mail_desk.specs.Founding.{Founded}
use Rattle.mail_desk.specs.Held.{Held}
use Rattle.desk_journal.specs.Going.{read_on}
use Rattle.desk_journal.specs.Lasting.{PastTold}
use Rattle.desk_journal.specs.Stored.{AreNoted, TextsHeld}
use Rattle.desk_journal.specs.Telling.{IsPastRead}
use Rattle.desk_journal.proofs.Holding.{texts_read}
use Rattle.desk_journal.proofs.Staying.{holds_on}
use Rattle.time_desk.specs.declared.fault.StartFault.{StartFault}
use Rattle.time_desk.specs.declared.fault.StartFault.TheVariants.{NotFormatted, Damaged, Disk, NoMemory}
use Rattle.time_desk.specs.Fronts.{FoundNoted, GoesOnAt}
use Rattle.time_desk.specs.Standing.{Fails, PerformsAt, ReadCounts}
use Rattle.time_desk.proofs.Standings.{if_err, on_ok}

-- the disk was read before without a fault
pub counts_behind : (old mid new : DiskTold) (fault : StartFault) → mid.failed_reads ≡ old.failed_reads → mid.is_reliable ≡ old.is_reliable → ReadCounts mid new fault → ReadCounts old new fault
counts_behind old mid new NotFormatted same reliable counts = counts ∙ same
counts_behind old mid new (Damaged place) same reliable counts = counts ∙ same
counts_behind old mid new Disk same reliable counts =
    (subst (λ (n : ℕ). Rose n new.failed_reads) same counts.0, subst (λ (n : ℕ). new.failed_reads ≤ n + 1) same counts.1, counts.2, sym reliable ∙ counts.3)
counts_behind old mid new NoMemory same reliable counts = counts ∙ same

-- a record that can't stand is no read that failed
pub counts_none : (old new : DiskTold) (none : Type 0) (gate : ℕ) (fault : StartFault) → new.failed_reads ≡ old.failed_reads → Fails none gate fault → ReadCounts old new fault
counts_none old new none gate NotFormatted same fails = same
counts_none old new none gate (Damaged place) same fails = same
counts_none old new none gate Disk same fails = absurd fails
counts_none old new none gate NoMemory same fails = same

pub ok_any : {T E P : Type 0} (r : Result T E) → P → OnOk r P
ok_any (Ok x) p = p
ok_any (Err e) p = tt

-- it is performed behind such reads
pub performs_later : {D T : Type 0} (told : D → DiskTold) (place : Place) (old mid new : PastTold D) (before after : Held) (result : Result T StartFault) → IsPastRead told old mid
    → (told mid.disk).failed_reads ≡ (told old.disk).failed_reads → PerformsAt told place mid new before after result → PerformsAt told place old new before after result
performs_later told place old mid new before after result still same done = record {
  performed = λ payloads payload texts lies. done.performed payloads payload (held payloads texts) lies;
  bad = λ payloads payload texts lies. done.bad payloads payload (held payloads texts) lies;
  texts = λ payloads payload texts lies. done.texts payloads payload (held payloads texts) lies;
  noted = subst (λ (n : ℕ). OnOk result (AreNoted n after)) still.end done.noted;
  still = read_on told old mid new still done.still;
  ok = on_ok result (λ now. now ∙ same) done.ok;
  fault = if_err result _ _ (λ fault counts. counts_behind (told old.disk) (told mid.disk) (told new.disk) fault same still.reads.reads.reliable counts) done.fault;
}
  where
    held : (payloads : List (List ℕ)) → TextsHeld (told old.disk) payloads before.kept before.notes before.marks → TextsHeld (told mid.disk) payloads before.kept before.notes before.marks
    held payloads texts = texts_read (told old.disk) (told mid.disk) payloads before.kept before.notes before.marks still.reads texts

-- a front goes on behind such reads
pub goes_later : {D : Type 0} (told : D → DiskTold) (place : Place) (old mid new : PastTold D) (before after : Founded) (result : Result Bool StartFault) → IsPastRead told old mid
    → (told mid.disk).failed_reads ≡ (told old.disk).failed_reads → GoesOnAt told place mid new before after result → GoesOnAt told place old new before after result
goes_later told place old mid new before after result still same done = record {
  goes = λ payloads payload holds lies. done.goes payloads payload (held payloads holds) lies;
  bad = λ payloads payload holds lies. done.bad payloads payload (held payloads holds) lies;
  noted = subst (λ (n : ℕ). OnOk result (FoundNoted n after)) still.end done.noted;
  grounded = done.grounded;
  stored = λ payloads payload holds lies stored. done.stored payloads payload (held payloads holds) lies stored;
  still = read_on told old mid new still done.still;
  ok = on_ok result (λ now. now ∙ same) done.ok;
  fault = if_err result _ _ (λ fault counts. counts_behind (told old.disk) (told mid.disk) (told new.disk) fault same still.reads.reads.reliable counts) done.fault;
}
  where
    held : (payloads : List (List ℕ)) → Holds (told old.disk) payloads → Holds (told mid.disk) payloads
    held payloads holds = holds_on (told old.disk) (told mid.disk) payloads still.reads holds
