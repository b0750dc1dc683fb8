use Rattle.std.proofs.Common.{◌≡◌, ◌≤◌, drop, length}
use Rattle.time_desk.specs.Cutting.{keys_once}
use Rattle.time_desk.proofs.cut.keys_of.Given as goal

-- the keys of the last bodies
abbrev pub invariant-loop-place : goal.invariant-loop-place
invariant-loop-place l = record {
  within : l.place ≤ length l.bodies;
  keys : l.set.keys ≡ keys_once (drop l.place l.bodies);
}

abbrev pub decreases-loop-place : goal.decreases-loop-place
decreases-loop-place l = l.place
