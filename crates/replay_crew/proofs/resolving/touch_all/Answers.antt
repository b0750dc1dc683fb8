use Rattle.replay_crew.proofs.Heard.{each_own}
use Rattle.replay_crew.proofs.resolving.touch_all.Goals as goal

pub touches-requires : goal.touches-requires
touches-requires c =
    each_own c.requires.0 c.requires.1.0 c.args.all.now c.as_slice-what-items.result.now c.requires.1.1 c.as_slice-what-items.ensures c.loop-what.what-index c.what-item.result c.loop-what-test.true c.what-item.is
