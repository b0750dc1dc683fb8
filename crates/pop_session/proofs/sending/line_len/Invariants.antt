use Rattle.std.proofs.Common.{◌≡◌, ◌+◌, ◌≤◌, length, take}
use Rattle.header_fields.proofs.Cutting.{Passed}
use Rattle.pop_session.proofs.sending.line_len.Given as goal

abbrev pub invariant-loop-rest : goal.invariant-loop-rest
invariant-loop-rest l = record {
  passed : Passed l.bytes (take l.passed l.bytes) l.rest;
  size : l.passed + length l.rest ≡ length l.bytes;
  some : 1 ≤ length l.bytes → 1 ≤ length l.rest;
}

abbrev pub decreases-loop-rest : goal.decreases-loop-rest
decreases-loop-rest l = length l.rest
