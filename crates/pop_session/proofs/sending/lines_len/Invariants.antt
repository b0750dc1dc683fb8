use Rattle.std.proofs.Common.{◌≡◌, ◌≤◌, ◌++◌, length, take, drop}
use Rattle.header_fields.specs.Lines.{joined, lines_of}
use Rattle.pop_session.proofs.sending.lines_len.Given as goal

-- the lines that are passed, and those of the rest, are those that are wanted
abbrev pub invariant-loop-left : goal.invariant-loop-left
invariant-loop-left l = record {
  rest : l.rest ≡ drop l.passed l.bytes;
  within : l.passed ≤ length l.bytes;
  lines : take l.passed l.bytes ++ joined (take l.left (lines_of l.rest)) ≡ joined (take l.fn.count (lines_of l.bytes));
}

abbrev pub decreases-loop-left : goal.decreases-loop-left
decreases-loop-left l = l.left
