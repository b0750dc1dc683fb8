use Rattle.std.proofs.Common.{◌≡◌, length}
use Rattle.search_verb.specs.Occurs.{occurs_in}
use Rattle.search_verb.proofs.occurs.occurs_from.Given as goal

abbrev pub invariant-loop-place : goal.invariant-loop-place
invariant-loop-place l = occurs_in l.string l.bytes ≡ occurs_in l.string l.rest

abbrev pub decreases-loop-place : goal.decreases-loop-place
decreases-loop-place l = length l.rest
