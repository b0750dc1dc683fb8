use Rattle.std.proofs.Common.{length, take, true}
use Rattle.std.specs.List.Sorted.{IsStrictlyIncreasing}
use Rattle.imap_stream.specs.Sets.{greatest_of, number_at}
use Rattle.imap_stream.specs.Spans.{AreWithin, SpansSet}
use Rattle.imap_stream.proofs.picks.uid_spans.Given as goal

abbrev pub invariant-loop-range : goal.invariant-loop-range
invariant-loop-range l = record {
  within : AreWithin (length l.uids) l.spans.items;
  places : IsStrictlyIncreasing l.uids → SpansSet (number_at true l.uids) (greatest_of true l.uids) (length l.uids) (take l.range-index l.set) l.spans.items;
}
