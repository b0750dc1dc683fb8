use Rattle.std.proofs.Common.{◌≡◌, ◌+◌, ◌++◌, IsTrue, reverse, vec_len, vec_capacity}
use Rattle.std.specs.List.{list_all}
use Rattle.mail_desk.specs.Stamping.{is_later}
use Rattle.mail_desk.proofs.stamps.set_aside.Given as goal

-- the rows and what is set aside are those that were there
abbrev pub invariant-loop-row : goal.invariant-loop-row
invariant-loop-row l = record {
  rows : l.rows.items ++ reverse l.aside.items ≡ l.initial.rows.items;
  later : IsTrue (list_all (is_later l.user) (reverse l.aside.items));
  len : vec_len l.rows + vec_len l.aside ≡ vec_len l.initial.rows;
  capacity : vec_capacity l.rows ≡ vec_capacity l.initial.rows;
  room : vec_capacity l.aside ≡ vec_capacity l.initial.aside;
}

abbrev pub decreases-loop-row : goal.decreases-loop-row
decreases-loop-row l = vec_len l.rows
