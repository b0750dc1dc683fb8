-- What the layers above need of these definitions.
use Rattle.std.proofs.Common.{List, ℕ, refl, ◌∙◌}
use Rattle.undo_outside.specs.Disk.{DiskTold, IsHonest}
use Rattle.undo_outside.proofs.Moments as moments
use Rattle.seal_log.specs.Settled.{Holds, IsSettled, ReadsAlone}

-- a disk that is settled behind payloads holds them
pub settled_holds : (disk : DiskTold) (gate : ℕ) (payloads : List (List ℕ)) → IsSettled disk gate payloads → Holds disk payloads
settled_holds disk gate payloads s = record { honest = s.honest; front = λ c now. let stands = s.images c now in (stands.rest, stands.split) }

-- nothing was read
pub reads_none : (disk : DiskTold) → (disk.honest → IsHonest disk) → ReadsAlone disk disk
reads_none disk truth = record { reads = moments.reads_none disk truth; finds_memory = refl }

-- one stretch of reads after another
pub reads_joined : (old mid new : DiskTold) → ReadsAlone old mid → ReadsAlone mid new → ReadsAlone old new
reads_joined old mid new first second = record { reads = moments.reads_joined old mid new first.reads second.reads; finds_memory = second.finds_memory ∙ first.finds_memory }
