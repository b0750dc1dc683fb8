use Rattle.std.proofs.Common.{◌≡◌, ◌≤◌, length, take, drop}
use Rattle.header_fields.specs.Fields.{fields_of}
use Rattle.header_fields.specs.Header.{has_empty_line}
use Rattle.header_fields.proofs.Grouping.{carried}
use Rattle.header_fields.proofs.fields.field_len.Given as goal

abbrev pub invariant-loop-rest : goal.invariant-loop-rest
invariant-loop-rest l = record {
  rest : l.rest ≡ drop l.passed l.bytes;
  within : l.passed ≤ length l.bytes;
  more : 1 ≤ l.passed;
  fields : fields_of l.bytes ≡ carried (take l.passed l.bytes) l.rest;
  end : has_empty_line l.bytes ≡ has_empty_line l.rest;
}

abbrev pub decreases-loop-rest : goal.decreases-loop-rest
decreases-loop-rest l = length l.rest
