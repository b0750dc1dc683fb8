use Rattle.std.proofs.Common.{◌≡◌, drop}
use Rattle.std.specs.List.{flat_map}
use Rattle.verb_bytes.specs.Spelling.{scoped_fields}
use Rattle.verb_bytes.specs.Writing.{written}
use Rattle.verb_bytes.proofs.scopes.put_each_scoped.Given as goal

abbrev pub invariant-loop-filter : goal.invariant-loop-filter
invariant-loop-filter l = written l.out (flat_map (scoped_fields 0) (drop l.filter-index l.filters)) ≡ written l.fn.out (flat_map (scoped_fields 0) l.filters)
