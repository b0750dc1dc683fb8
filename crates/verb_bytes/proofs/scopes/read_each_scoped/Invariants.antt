use Rattle.std.proofs.Common.{◌≡◌, ◌≤◌, ◌+◌, ◌*◌, length}
use Rattle.std.specs.Prelude.{vec_capacity}
use Rattle.verb_bytes.specs.Reading.{scope_at, scoped_at}
use Rattle.verb_bytes.proofs.TimesLoop.{Goes}
use Rattle.verb_bytes.proofs.scopes.read_each_scoped.Given as goal

abbrev pub invariant-loop : goal.invariant-loop
invariant-loop l = record {
  goes : Goes (scoped_at scope_at) l.count l.counter l.fn.cursor.rest.now l.filters.items l.cursor.rest.now;
  size : length l.filters.items ≡ l.counter;
  room : vec_capacity l.filters ≤ 2 * length l.filters.items + 4;
}
