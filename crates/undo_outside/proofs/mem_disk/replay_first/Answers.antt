use Rattle.undo_outside.proofs.Marks.{content_more}
use Rattle.undo_outside.proofs.mem_disk.replay_first.Goals as goal

pub loop-write-preserved : goal.loop-write-preserved
loop-write-preserved c =
    content_more c.args.start.now c.args.writes.now c.loop-write.write-index c.write-item.result c.loop-write.bytes.items c.replay.new.bytes.items c.loop-write-test.true c.write-item.is c.loop-write.invariant c.in_ok-replay.ensures
