use Rattle.std.proofs.Common.{◌≡◌, ◌++◌, ◌≤◌, length, take, drop}
use Rattle.mail_rows.specs.Patterns.{handed_all, passed}
use Rattle.mail_rows.proofs.pattern.pass.Given as goal

-- the last cells are passed, and the others as they were
abbrev pub invariant-loop-place : goal.invariant-loop-place
invariant-loop-place l = record {
  within : l.place ≤ length l.fn.cells;
  cells : l.cells ≡ take l.place l.fn.cells ++ passed l.byte l.at_end (drop l.place l.fn.cells);
  later : l.later ≡ handed_all l.byte l.at_end (drop l.place l.fn.cells);
}

abbrev pub decreases-loop-place : goal.decreases-loop-place
decreases-loop-place l = l.place
