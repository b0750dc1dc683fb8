use Rattle.std.proofs.Common.{◌≡◌, drop}
use Rattle.std.specs.List.{flat_map}
use Rattle.verb_bytes.specs.Writing.{written}
use Rattle.verb_bytes.proofs.part.put_each.Given as goal

abbrev pub invariant-loop-item : goal.invariant-loop-item
invariant-loop-item g l = written l.out (flat_map g.T.Part.fields (drop l.item-index l.items)) ≡ written l.fn.out (flat_map g.T.Part.fields l.items)
