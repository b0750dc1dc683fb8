use Rattle.std.proofs.Common.{ℕ, ◌<◌, ◌≤◌, ◌-◌, length, get_or}
use Rattle.std.specs.List.Sorted.{IsStrictlyIncreasing}
use Rattle.imap_stream.proofs.picks.below.Given as goal

abbrev pub invariant-loop-low : goal.invariant-loop-low
invariant-loop-low l = record {
  order : l.low ≤ l.high;
  within : l.high ≤ length l.uids;
  front : IsStrictlyIncreasing l.uids → (k : ℕ) → k < l.low → get_or l.uids k 0 < l.number;
  back : IsStrictlyIncreasing l.uids → (k : ℕ) → l.high ≤ k → k < length l.uids → l.number ≤ get_or l.uids k 0;
}

abbrev pub decreases-loop-low : goal.decreases-loop-low
decreases-loop-low l = l.high - l.low
