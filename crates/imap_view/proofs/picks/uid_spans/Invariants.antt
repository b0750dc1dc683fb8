use Rattle.std.proofs.Common.{length, take, true}
use Rattle.imap_stream.specs.Sets.{greatest_of, number_at}
use Rattle.imap_stream.specs.Spans.{AreWithin, SpansSet}
use Rattle.imap_view.specs.Views.{uids_of}
use Rattle.imap_view.proofs.picks.uid_spans.Given as goal

abbrev pub invariant-loop-range : goal.invariant-loop-range
invariant-loop-range l = record {
  within : AreWithin (length l.view) l.spans.items;
  places : SpansSet (number_at true (uids_of l.view)) (greatest_of true (uids_of l.view)) (length l.view) (take l.range-index l.set) l.spans.items;
}
