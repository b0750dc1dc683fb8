-- What turns that read texts leave.
use Rattle.std.proofs.Common.{◌≡◌, ◌+◌, ℕ, zero, suc, List, true, false, Bool, arith, refl, sym, subst, ◌∙◌, add-zero, zero-add}
use Rattle.undo_outside.specs.Disk.{DiskTold, ReadFailed}
use Rattle.verb_bytes.specs.declared.journal.JournalRecord.{JournalRecord}
use Rattle.desk_journal.specs.Lasting.{Lasting}
use Rattle.desk_journal.specs.Reading.{Counted, HaveRead, Reads, ReadsWell, RoseAtLeast, both_read, failed_once, none_read, wrong_once}
use Rattle.desk_journal.specs.Sealing.{Seals}
use Rattle.desk_journal.specs.Stored.{HoldsTexts}

-- a count that rose by some and then by more
rose_add : (m n a b c : ℕ) → RoseAtLeast m a b → RoseAtLeast n b c → RoseAtLeast (m + n) a c
rose_add zero n a b c e r = subst (λ k. RoseAtLeast k a c) (sym (zero-add n)) (subst (λ x. RoseAtLeast n x c) e r)
rose_add (suc m) zero a b c r e = subst (λ k. RoseAtLeast k a c) (sym (add-zero (suc m))) (subst (λ x. RoseAtLeast (suc m) a x) (sym e) r)
rose_add (suc m) (suc n) a b c (r, r') (q, q') =
    let whole : suc m + suc n ≡ suc (m + suc n) = omega arith in
    subst (λ k. RoseAtLeast k a c) (sym whole) (omega arith, omega arith)

-- a count that stood, or rose by some and then by more
counted_none : (a b : ℕ) → b ≡ a → Counted 0 a b
counted_none a b e = (e, omega (arith, e))

counted_add : (m n a b c : ℕ) → Counted m a b → Counted n b c → Counted (m + n) a c
counted_add m n a b c (r, u) (q, v) = (rose_add m n a b c r q, omega (arith, u, v))

module _ {D : Type 0} (told : D → DiskTold) where
  pub none_have : (a b : Lasting D) → ReadsWell told a b → HaveRead told a b none_read
  none_have a b well = record {
    failed = counted_none (told a.disk).failed_reads (told b.disk).failed_reads well;
    reliable = λ e. refl;
    honest = λ h. refl;
  }

  pub once_failed : (a b : Lasting D) → ReadFailed (told a.disk) (told b.disk) → HaveRead told a b failed_once
  once_failed a b failed = record {
    failed = (failed.0, failed.1);
    reliable = λ e. absurd (let wrong : ◌≡◌ {A = Bool} true false = sym e ∙ failed.3 in cc);
    honest = λ h. refl;
  }

  pub once_wrong : (a b : Lasting D) → ReadsWell told a b → (HoldsTexts told a → ⊥) → HaveRead told a b wrong_once
  once_wrong a b well lost = record {
    failed = counted_none (told a.disk).failed_reads (told b.disk).failed_reads well;
    reliable = λ e. refl;
    honest = λ h. absurd (lost h);
  }

  -- of two runs of turns
  pub then_read : (added failed : List JournalRecord) (r s : Reads) (a b c : Lasting D) → HaveRead told a b r → Seals told added failed a b → HaveRead told b c s → HaveRead told a c (both_read r s)
  then_read added failed r s a b c first seals second = record {
    failed = counted_add r.failed s.failed (told a.disk).failed_reads (told b.disk).failed_reads (told c.disk).failed_reads first.failed second.failed;
    reliable = λ e.
        let one : r.failed ≡ 0 = first.reliable e in
        let two : s.failed ≡ 0 = second.reliable (seals.on_disk.reliable ∙ e) in
        omega (arith, one, two);
    honest = λ h.
        let one : r.wrong ≡ 0 = first.honest h in
        let two : s.wrong ≡ 0 = second.honest (seals.texts h) in
        omega (arith, one, two);
  }
