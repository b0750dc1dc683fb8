use Rattle.std.proofs.Common.{◌≡◌, take}
use Rattle.verb_core.specs.Names.{superiors}
use Rattle.verb_core.proofs.superiors.superiors_of.Given as goal

abbrev pub invariant-loop-place : goal.invariant-loop-place
invariant-loop-place l = l.names ≡ superiors (take l.place l.bytes)
