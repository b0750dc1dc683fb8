use Rattle.std.proofs.Common.{drop}
use Rattle.verb_bytes.proofs.Along.{Walks}
use Rattle.verb_bytes.proofs.places.place_each.Given as goal

abbrev pub invariant-loop-item : goal.invariant-loop-item
invariant-loop-item g l = Walks g.T.Part.fields g.T.Placed.place l.items l.fn.from l.fn.places l.at l.places (drop l.item-index l.items)
