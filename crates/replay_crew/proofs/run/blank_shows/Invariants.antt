use Rattle.std.proofs.Common.{◌≡◌, length}
use Rattle.replay_crew.proofs.run.blank_shows.Given as goal

abbrev pub invariant-loop-place : goal.invariant-loop-place
invariant-loop-place l = length l.shows.items ≡ l._place
