-- Which writes of a cycle, or of a withdrawal, found memory.
use Rattle.std.proofs.Common.{◌≡◌, ◌∙◌, ℕ, Result, Ok, Err, IfErr, OnOk, inl, inr, ⊎_elim, refl, subst, sym}
use Rattle.undo_outside.specs.Calls.{RoseOnce}
use Rattle.undo_outside.specs.Disk.{DiskTold, IsHonest}
use Rattle.paradox.specs.declared.reports.Report.{Report}
use Rattle.seal_log.specs.Causes.{FindsMemory, SealWants}
use Rattle.seal_log.specs.declared.fault.SealFault.{SealFault}
use Rattle.seal_log.specs.declared.fault.SealFault.TheVariants as log_faults
use Rattle.seal_log.specs.Settled.{ReadsAlone}
use Rattle.seal_log.proofs.Uses.{reads_joined, reads_none}
use Rattle.time_desk.specs.declared.fault.CycleFault.{CycleFault}
use Rattle.time_desk.specs.declared.fault.CycleFault.TheVariants.{Point, Numbers, Disk, NoMemory, Closed}
use Rattle.time_desk.specs.Cycling.{CycleWants, seal_told}

module _ {D : Type 0} (told : D → DiskTold) where
  -- of a request whose record was not sealed
  pub sealing_wants : {X : Type 0} → ((d : D) → (told d).honest → IsHonest (told d)) → (old new : D) (fault : SealFault) → (fault ≡ log_faults.Closed → ⊥) → SealWants {T = X} told old new (Err fault) → CycleWants told old new (seal_told fault)
  sealing_wants truth old new log_faults.Disk never wants = wants.disk refl
  sealing_wants truth old new log_faults.NoMemory never wants =
      ⊎_elim (λ same. inl (subst (λ (d : D). ReadsAlone (told old) (told d)) (sym same) (reads_none (told old) (truth old)))) (λ out_of_memory. inr out_of_memory) (wants.no_memory refl)
  sealing_wants truth old new log_faults.Closed never wants = absurd (never refl)

  -- where texts were read alone
  pub reading_wants : (old new : D) (fault : CycleFault) → ReadsAlone (told old) (told new) → CycleWants told old new fault
  reading_wants old new (Point given) reads = reads.finds_memory
  reading_wants old new (Numbers next) reads = reads.finds_memory
  reading_wants old new Disk reads = reads.finds_memory
  reading_wants old new NoMemory reads = inl reads
  reading_wants old new Closed reads = reads.finds_memory

  -- behind texts that were read
  pub wants_later : (old mid new : D) (result : Result Report CycleFault) → ReadsAlone (told old) (told mid) → IfErr result (λ fault. CycleWants told mid new fault) → IfErr result (λ fault. CycleWants told old new fault)
  wants_later old mid new (Ok report) reads wants = tt
  wants_later old mid new (Err (Point given)) reads finds_memory = finds_memory ∙ reads.finds_memory
  wants_later old mid new (Err (Numbers next)) reads finds_memory = finds_memory ∙ reads.finds_memory
  wants_later old mid new (Err Disk) reads finds_memory = finds_memory ∙ reads.finds_memory
  wants_later old mid new (Err NoMemory) reads (inl more) = inl (reads_joined (told old) (told mid) (told new) reads more)
  wants_later old mid new (Err NoMemory) reads (inr (rose, last)) = inr (subst (λ (n : ℕ). RoseOnce n (told new).out_of_memory) reads.finds_memory rose, last)
  wants_later old mid new (Err Closed) reads finds_memory = finds_memory ∙ reads.finds_memory

  pub fed_later : (old mid new : D) (result : Result Report CycleFault) → ReadsAlone (told old) (told mid) → OnOk result (FindsMemory (told mid) (told new)) → OnOk result (FindsMemory (told old) (told new))
  fed_later old mid new (Ok report) reads finds_memory = finds_memory ∙ reads.finds_memory
  fed_later old mid new (Err fault) reads finds_memory = tt
