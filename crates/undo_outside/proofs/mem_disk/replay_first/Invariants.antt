use Rattle.std.proofs.Common.{◌≡◌, take}
use Rattle.undo_outside.specs.History.{content_after}
use Rattle.undo_outside.specs.MemDisk.{history}
use Rattle.undo_outside.proofs.mem_disk.replay_first.Given as goal

abbrev pub invariant-loop-write : goal.invariant-loop-write
invariant-loop-write l = l.bytes.items ≡ content_after l.start (history (take l.write-index l.writes))
