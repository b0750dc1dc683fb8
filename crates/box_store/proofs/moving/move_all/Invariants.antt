use Rattle.std.proofs.Common.{◌≡◌, IsTrue}
use Rattle.verb_core.specs.Boxes.{is_rising}
use Rattle.box_store.specs.Effects.{all_moved}
use Rattle.box_store.proofs.moving.move_all.Given as goal

-- those that moved, and those that are left, are all of them
abbrev pub invariant-loop-moved : goal.invariant-loop-moved
invariant-loop-moved l = record {
  rising : IsTrue (is_rising l.rows.items);
  rows : all_moved l.user l.moved-iterator.rest.items l.rows.items ≡ all_moved l.user l.fn.moves l.initial.rows.items;
}
