use Rattle.std.proofs.Common.{◌≡◌, drop}
use Rattle.imap_stream.specs.Sets.{first_beyond}
use Rattle.imap_stream.proofs.picks.beyond_set.Given as goal

abbrev pub invariant-loop-range : goal.invariant-loop-range
invariant-loop-range l = first_beyond l.count (drop l.range-index l.set) ≡ first_beyond l.count l.set
