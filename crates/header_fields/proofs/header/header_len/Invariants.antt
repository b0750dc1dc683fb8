use Rattle.std.proofs.Common.{◌≡◌, ◌-◌, ◌≤◌, ◌++◌, length, take, drop}
use Rattle.header_fields.specs.Header.{header_of}
use Rattle.header_fields.proofs.header.header_len.Given as goal

abbrev pub invariant-loop-passed : goal.invariant-loop-passed
invariant-loop-passed l = record {
  rest : l.rest ≡ drop l.passed l.text;
  within : l.passed ≤ length l.text;
  header : header_of l.text ≡ take l.passed l.text ++ header_of l.rest;
}

abbrev pub decreases-loop-passed : goal.decreases-loop-passed
decreases-loop-passed l = length l.text - l.passed
