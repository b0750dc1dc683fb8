use Rattle.std.proofs.Common.{◌≡◌, ◌++◌, ◌-◌}
use Rattle.imap_stream.specs.Sets.{run_from}
use Rattle.imap_stream.proofs.picks.push_places.Given as goal

abbrev pub invariant-loop-place : goal.invariant-loop-place
invariant-loop-place l = l.places ≡ l.initial.places ++ run_from l.from (l.place - l.from)
