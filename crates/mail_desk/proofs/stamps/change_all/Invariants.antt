use Rattle.std.proofs.Common.{◌≡◌, ◌+◌, ◌≤◌, IsTrue, length, vec_len, vec_capacity}
use Rattle.verb_core.specs.Boxes.{is_rising}
use Rattle.mail_desk.specs.Stamping.{all_changed}
use Rattle.mail_desk.proofs.stamps.change_all.Given as goal

-- what was changed, and what the rest changes, is all of it
abbrev pub invariant-loop-change : goal.invariant-loop-change
invariant-loop-change l = record {
  rising : IsTrue (is_rising l.rows.items);
  rows : all_changed l.number l.user l.change-iterator.rest.items l.rows.items ≡ all_changed l.number l.user l.fn.changes.items l.initial.rows.items;
  room : vec_len l.rows + length l.change-iterator.rest.items ≤ vec_capacity l.rows;
  len : vec_len l.rows + length l.change-iterator.rest.items ≤ vec_len l.initial.rows + length l.fn.changes.items;
  capacity : vec_capacity l.initial.rows ≤ vec_capacity l.rows;
}
