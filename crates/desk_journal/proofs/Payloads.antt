-- What one call seals, and how what calls seal joins.
use Rattle.std.proofs.Common.{◌≡◌, ◌≤◌, ◌+◌, ℕ, arith, List, [], ◌∷◌, ◌++◌, subst, sym, ap, refl, ◌∙◌, append_assoc, append-nil}
use Rattle.undo_outside.specs.Calls.{Rose}
use Rattle.undo_outside.specs.Disk.{DiskTold, IsHonest, WriteFailed}
use Rattle.undo_outside.specs.Moments.{LeavesOnly}
use Rattle.undo_outside.proofs.Moments.{images_now, joined, started, weaker}
use Rattle.seal_log.specs.Journal.{StandsFor, StandsForFront}
use Rattle.seal_log.specs.Settled.{IsSettled, ReadsAlone}
use Rattle.seal_log.proofs.Frames.{front_before, front_within}
use Rattle.desk_journal.specs.Sealing.{FailsFor, SealsPayloads}

-- ---- one call

-- a payload was sealed
pub one_sealed : (payload : List ℕ) (old new : DiskTold) (gate next : ℕ)
    → ((payloads : List (List ℕ)) → IsSettled old gate payloads → IsSettled new next (payloads ++ payload ∷ []))
    → ((payloads : List (List ℕ)) → IsSettled old gate payloads → LeavesOnly old new (StandsForFront payloads (payload ∷ [])))
    → new.failed_writes ≡ old.failed_writes → old.failed_reads ≤ new.failed_reads → new.is_reliable ≡ old.is_reliable → (old.honest → new.honest)
    → SealsPayloads (payload ∷ []) [] old new gate next
one_sealed payload old new gate next settled moments writes reads reliable honest = record {
  settled = λ payloads s none. settled payloads s;
  front = λ payloads s c now. front_before (payloads ++ payload ∷ []) [] c ((settled payloads s).images c now);
  any_moment = moments;
  writes = writes;
  reads = reads;
  reliable = reliable;
  honest = honest;
}

-- the sealing of a payload failed
pub one_failed : (payload : List ℕ) (old new : DiskTold) (gate next : ℕ)
    → (new.honest → IsHonest new)
    → ((payloads : List (List ℕ)) → IsSettled old gate payloads → LeavesOnly old new (StandsForFront payloads (payload ∷ [])))
    → WriteFailed old new → old.failed_reads ≤ new.failed_reads → new.is_reliable ≡ old.is_reliable → (old.honest → new.honest)
    → SealsPayloads [] (payload ∷ []) old new gate next
one_failed payload old new gate next truth moments writes reads reliable honest = record {
  settled = λ payloads s none. cc;
  front = λ payloads s c now.
      subst (λ (l : List (List ℕ)). StandsForFront l (payload ∷ []) c) (sym (append-nil payloads))
      (images_now old new (StandsForFront payloads (payload ∷ [])) (moments payloads s) (truth (honest s.honest)) c now);
  any_moment = moments;
  writes = writes;
  reads = reads;
  reliable = reliable;
  honest = honest;
}

-- nothing was sealed
pub none_sealed : (old new : DiskTold) (gate next : ℕ)
    → ((payloads : List (List ℕ)) → IsSettled old gate payloads → IsSettled new next payloads)
    → ((payloads : List (List ℕ)) → IsSettled old gate payloads → LeavesOnly old new (λ image. StandsFor image payloads))
    → new.failed_writes ≡ old.failed_writes → old.failed_reads ≤ new.failed_reads → new.is_reliable ≡ old.is_reliable → (old.honest → new.honest)
    → SealsPayloads [] [] old new gate next
none_sealed old new gate next settled moments writes reads reliable honest = record {
  settled = λ payloads s none. subst (IsSettled new next) (sym (append-nil payloads)) (settled payloads s);
  front = λ payloads s c now. front_before (payloads ++ []) [] c (subst (StandsFor c) (sym (append-nil payloads)) ((settled payloads s).images c now));
  any_moment = λ payloads s. weaker old new (λ image. StandsFor image payloads) (StandsForFront payloads []) (moments payloads s) (front_before payloads []);
  writes = writes;
  reads = reads;
  reliable = reliable;
  honest = honest;
}

-- a disk was read
pub none_read : (old new : DiskTold) (gate : ℕ) → ReadsAlone old new → SealsPayloads [] [] old new gate gate
none_read old new gate reads =
    none_sealed old new gate gate
    (λ payloads s. record { honest = reads.reads.honest s.honest; gate_is = s.gate_is; images = λ c now. s.images c (reads.reads.images s.honest c now) })
    (λ payloads s. weaker old new old.images (λ image. StandsFor image payloads) (reads.reads.any_moment s.honest) s.images)
    reads.reads.writes reads.reads.reads reads.reads.reliable reads.reads.honest

-- ---- one after the other

pub write_failed_later : (old mid new : DiskTold) → mid.failed_writes ≡ old.failed_writes → mid.is_reliable ≡ old.is_reliable → WriteFailed mid new → WriteFailed old new
write_failed_later old mid new writes reliable (rose, few, last, may_fail) =
    (subst (λ (n : ℕ). Rose n new.failed_writes) writes rose, subst (λ (n : ℕ). new.failed_writes ≤ n + 1) writes few, last, sym reliable ∙ may_fail)

fails_later : (failed : List (List ℕ)) (old mid new : DiskTold) → mid.failed_writes ≡ old.failed_writes → mid.is_reliable ≡ old.is_reliable → FailsFor failed mid new → FailsFor failed old new
fails_later [] old mid new writes reliable same = same ∙ writes
fails_later (p ∷ ps) old mid new writes reliable failed = write_failed_later old mid new writes reliable failed

-- what was sealed at first, and then
first_moments : (payloads added more failed : List (List ℕ)) (c : List ℕ) → StandsForFront payloads (added ++ []) c → StandsForFront payloads ((added ++ more) ++ failed) c
first_moments payloads added more failed c here =
    subst (λ (l : List (List ℕ)). StandsForFront payloads l c) (sym (append_assoc added more failed))
    (front_within payloads [] added (more ++ failed) c
    (subst (λ (l : List (List ℕ)). StandsForFront l added c) (sym (append-nil payloads)) (subst (λ (l : List (List ℕ)). StandsForFront payloads l c) (append-nil added) here)))

then_moments : (payloads added more failed : List (List ℕ)) (c : List ℕ) → StandsForFront (payloads ++ added) (more ++ failed) c → StandsForFront payloads ((added ++ more) ++ failed) c
then_moments payloads added more failed c here =
    subst (λ (l : List (List ℕ)). StandsForFront payloads l c) (ap (λ (l : List (List ℕ)). added ++ l) (append-nil (more ++ failed)) ∙ sym (append_assoc added more failed))
    (front_within payloads added (more ++ failed) [] c here)

pub payloads_then : (added more failed : List (List ℕ)) (old mid new : DiskTold) (gate middle next : ℕ)
    → SealsPayloads added [] old mid gate middle → SealsPayloads more failed mid new middle next → SealsPayloads (added ++ more) failed old new gate next
payloads_then added more failed old mid new gate middle next first second = record {
  settled = λ payloads s none. subst (IsSettled new next) (append_assoc payloads added more) (second.settled (payloads ++ added) (first.settled payloads s refl) none);
  front = λ payloads s c now. subst (λ (l : List (List ℕ)). StandsForFront l failed c) (append_assoc payloads added more) (second.front (payloads ++ added) (first.settled payloads s refl) c now);
  any_moment = λ payloads s.
      joined old mid new (StandsForFront payloads (added ++ [])) (StandsForFront (payloads ++ added) (more ++ failed)) (StandsForFront payloads ((added ++ more) ++ failed))
      (first.any_moment payloads s) (second.any_moment (payloads ++ added) (first.settled payloads s refl))
      (first_moments payloads added more failed) (then_moments payloads added more failed);
  writes = fails_later failed old mid new first.writes first.reliable second.writes;
  reads = omega (arith, first.reads, second.reads);
  reliable = second.reliable ∙ first.reliable;
  honest = λ h. second.honest (first.honest h);
}

-- a disk to which nothing was done
pub payloads_none : (disk : DiskTold) → (disk.honest → IsHonest disk) → (gate : ℕ) → SealsPayloads [] [] disk disk gate gate
payloads_none disk truth gate =
    none_sealed disk disk gate gate (λ payloads s. s)
    (λ payloads s. started disk (λ image. StandsFor image payloads) (λ c left. s.images c ((truth s.honest).only_now c left)))
    refl (omega arith) refl (λ h. h)
