use Rattle.std.proofs.Common.{◌≡◌, [], fold, take}
use Rattle.imap_fetch.specs.Asked.{put_ask}
use Rattle.imap_fetch.proofs.asked.attributes_of.Given as goal

abbrev pub invariant-loop-ask : goal.invariant-loop-ask
invariant-loop-ask l = l.told ≡ fold put_ask [] (take l.ask-index l.asks)
