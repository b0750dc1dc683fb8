use Rattle.std.proofs.Common.{◌≡◌, ◌≤◌, ◌+◌, ◌*◌, Ok, length}
use Rattle.std.specs.Prelude.{vec_capacity}
use Rattle.verb_bytes.specs.Readers.{times}
use Rattle.verb_bytes.proofs.TimesLoop.{Goes}
use Rattle.verb_bytes.proofs.part.read_items.Given as goal

abbrev pub invariant-loop : goal.invariant-loop
invariant-loop g l = record {
  goes : Goes g.T.Part.reader l.count l.counter l.fn.cursor.rest.now l.items.items l.cursor.rest.now;
  size : length l.items.items ≡ l.counter;
  came : times l.counter g.T.Part.reader l.fn.cursor.rest.now ≡ Ok (l.items.items, l.cursor.rest.now);
  room : vec_capacity l.items ≤ 2 * length l.items.items + 4;
}
