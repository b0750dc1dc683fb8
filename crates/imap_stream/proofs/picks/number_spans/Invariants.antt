use Rattle.std.proofs.Common.{◌+◌, take}
use Rattle.imap_stream.specs.Spans.{AreWithin, SpansSet}
use Rattle.imap_stream.proofs.picks.number_spans.Given as goal

abbrev pub invariant-loop-range : goal.invariant-loop-range
invariant-loop-range l = record {
  within : AreWithin l.count l.spans.items;
  places : SpansSet (λ p. p + 1) l.count l.count (take l.range-index l.set) l.spans.items;
}
