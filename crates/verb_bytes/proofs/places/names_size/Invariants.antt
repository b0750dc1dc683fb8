use Rattle.std.proofs.Common.{drop}
use Rattle.verb_bytes.proofs.Along.{Counts}
use Rattle.verb_bytes.proofs.places.names_size.Given as goal

abbrev pub invariant-loop-name : goal.invariant-loop-name
invariant-loop-name l = Counts l.names l.size (drop l.name-index l.names)
