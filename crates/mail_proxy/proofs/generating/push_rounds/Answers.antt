use Rattle.std.proofs.Common.{◌≡◌, ◌+◌, ◌++◌}
use Rattle.mail_proxy.specs.Generated.{round_of}
use Rattle.mail_proxy.proofs.Rounds.{one_round}
use Rattle.mail_proxy.proofs.generating.push_rounds.Goals as goal

pub loop-before-preserved : goal.loop-before-preserved
loop-before-preserved c =
    let more : c.push_round.new.events ≡ c.loop-before.events ++ round_of (c.loop-before.before + 1) = c.in_ok-push_round.ensures in
    one_round _ _ _ _ c.loop-before.invariant more
