use Rattle.std.proofs.Common.{arith}
use Rattle.imap_session.proofs.Found.{place_step}
use Rattle.imap_session.proofs.search.all_places.Goals as goal

pub loop-place-preserved : goal.loop-place-preserved
loop-place-preserved c = place_step c.loop-place.places _ _ c.loop-place.place c.args.count (omega arith) c.loop-place.invariant c.in_ok-push.ensures.ok
