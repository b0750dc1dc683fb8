-- What stays while a disk is read.
use Rattle.std.proofs.Common.{ℕ, List}
use Rattle.undo_outside.specs.Disk.{DiskTold}
use Rattle.seal_log.specs.Settled.{Holds, IsSettled, ReadsAlone}

-- ---- what stays while a disk is read

pub holds_on : (old new : DiskTold) (payloads : List (List ℕ)) → ReadsAlone old new → Holds old payloads → Holds new payloads
holds_on old new payloads reads h = record { honest = reads.reads.honest h.honest; front = λ c now. h.front c (reads.reads.images h.honest c now) }

pub settled_on : (old new : DiskTold) (gate : ℕ) (payloads : List (List ℕ)) → ReadsAlone old new → IsSettled old gate payloads → IsSettled new gate payloads
settled_on old new gate payloads reads s = record { honest = reads.reads.honest s.honest; gate_is = s.gate_is; images = λ c now. s.images c (reads.reads.images s.honest c now) }
