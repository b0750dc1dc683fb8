use Rattle.std.proofs.Common.{◌≡◌, ◌+◌, ◌≤◌, IsTrue, length, vec_len, vec_capacity}
use Rattle.verb_core.specs.Boxes.{is_rising}
use Rattle.verb_core.specs.Step.{all_created}
use Rattle.box_store.proofs.work.create_all.Given as goal

-- those that were made, and those that are left, are all of them, and there is room for these
abbrev pub invariant-loop-name : goal.invariant-loop-name
invariant-loop-name l = record {
  rising : IsTrue (is_rising l.rows.items);
  rows : all_created l.user l.name-iterator.rest.items l.rows.items ≡ all_created l.user l.fn.mailboxes l.initial.rows.items;
  room : vec_len l.rows + length l.name-iterator.rest.items ≤ vec_capacity l.rows;
  len : vec_len l.rows + length l.name-iterator.rest.items ≤ vec_len l.initial.rows + length l.fn.mailboxes;
  capacity : vec_capacity l.initial.rows ≤ vec_capacity l.rows;
}
