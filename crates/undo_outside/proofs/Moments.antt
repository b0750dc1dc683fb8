-- How stretches of moments join.
use Rattle.std.proofs.Common.{◌≡◌, ◌≤◌, inl, inr, ⊎_elim, ℕ, List, arith, refl, ◌∙◌}
use Rattle.std.proofs.Common.{Result, Ok, Err}
use Rattle.undo_outside.specs.declared.fault.Fault.{Fault}
use Rattle.undo_outside.specs.declared.fault.Fault.TheVariants.{Failed, NoMemory}
use Rattle.undo_outside.specs.Disk.{CallTime, DiskTold, IsHonest, IsLook, MayTear}
use Rattle.undo_outside.specs.Moments.{LeavesOnly, IsTornOf, OnlyReads}

-- the images after a write are whole or torn
pub tears : {T : Type 0} (place count size : ℕ) (old new : List ℕ → Type 0) (result : Result T Fault) → MayTear place count size old new result → (c : List ℕ) → new c → IsTornOf place count size old c
tears place count size old new (Ok x) torn c now = (torn c).0 now
tears place count size old new (Err Failed) torn c now = (torn c).0 now
tears place count size old new (Err NoMemory) same c now = inl ((same c).0 now)

-- before the first call
pub started : (old : DiskTold) (P : List ℕ → Type 0) → ((c : List ℕ) → old.since old.moment c → P c) → LeavesOnly old old P
started old P here = record { later = omega arith; each = here; before = λ t c le left. inl left }

-- two stretches, one after the other
pub joined : (old mid new : DiskTold) (P Q R : List ℕ → Type 0) → LeavesOnly old mid P → LeavesOnly mid new Q → ((c : List ℕ) → P c → R c) → ((c : List ℕ) → Q c → R c) → LeavesOnly old new R
joined old mid new P Q R first second p q = record {
  later = omega (arith, first.later, second.later);
  each = λ c left. ⊎_elim (λ was. p c (first.each c was)) (q c) (second.before old.moment c first.later left);
  before = λ t c le left. ⊎_elim
      (λ was. ⊎_elim (λ earlier. inl earlier) (λ here. inr (p c here)) (first.before t c le was))
      (λ here. inr (q c here))
      (second.before t c (omega (arith, le, first.later)) left);
}

-- less is said
pub weaker : (old new : DiskTold) (P Q : List ℕ → Type 0) → LeavesOnly old new P → ((c : List ℕ) → P c → Q c) → LeavesOnly old new Q
weaker old new P Q all more = record {
  later = all.later;
  each = λ c left. more c (all.each c left);
  before = λ t c le left. ⊎_elim (λ was. inl was) (λ here. inr (more c here)) (all.before t c le left);
}

-- one call
pub call : (old new : DiskTold) (P : List ℕ → Type 0) → CallTime old new
    → ((c : List ℕ) → old.since old.moment c → old.images c) → ((c : List ℕ) → old.images c → P c) → ((c : List ℕ) → new.images c → P c) → LeavesOnly old new P
call old new P time now_only was is = record {
  later = time.later;
  each = λ c left. ⊎_elim (λ early. was c (now_only c early)) (λ here. ⊎_elim (was c) (is c) here) (time.added old.moment c (omega arith) left);
  before = λ t c le left. ⊎_elim (λ early. inl early) (λ here. inr (⊎_elim (was c) (is c) here)) (time.added t c le left);
}

-- nothing was done
pub reads_none : (disk : DiskTold) → (disk.honest → IsHonest disk) → OnlyReads disk disk
reads_none disk truth = record {
  size = refl;
  reads = omega arith;
  writes = refl;
  reliable = refl;
  honest = λ h. h;
  content = λ h. refl;
  images = λ h c here. here;
  any_moment = λ h. started disk disk.images (truth h).only_now;
}

-- one stretch of reads after another
pub reads_joined : (old mid new : DiskTold) → OnlyReads old mid → OnlyReads mid new → OnlyReads old new
reads_joined old mid new first second = record {
  size = second.size ∙ first.size;
  reads = omega (arith, first.reads, second.reads);
  writes = second.writes ∙ first.writes;
  reliable = second.reliable ∙ first.reliable;
  honest = λ h. second.honest (first.honest h);
  content = λ h. second.content (first.honest h) ∙ first.content h;
  images = λ h c here. first.images h c (second.images (first.honest h) c here);
  any_moment = λ h. joined old mid new old.images mid.images old.images (first.any_moment h) (second.any_moment (first.honest h)) (λ c here. here) (first.images h);
}

-- one look, whatever was answered
pub reads_one : (old new : DiskTold) → IsLook old new → old.failed_reads ≤ new.failed_reads → new.failed_writes ≡ old.failed_writes → new.is_reliable ≡ old.is_reliable → (old.honest → IsHonest old) → OnlyReads old new
reads_one old new look reads writes reliable truth = record {
  size = look.size;
  reads = reads;
  writes = writes;
  reliable = reliable;
  honest = look.honest;
  content = look.content;
  images = λ h c. (look.images h c).0;
  any_moment = λ h. call old new old.images (look.time h) (truth h).only_now (λ c here. here) (λ c. (look.images h c).0);
}

-- what a crash now may leave, after a stretch
pub images_now : (old new : DiskTold) (P : List ℕ → Type 0) → LeavesOnly old new P → IsHonest new → (c : List ℕ) → new.images c → P c
images_now old new P all truth c now = all.each c (truth.counts_now old.moment c all.later now)
