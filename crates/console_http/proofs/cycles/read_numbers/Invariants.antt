use Rattle.std.proofs.Common.{drop}
use Rattle.console_http.specs.Members.{whole_number}
use Rattle.console_http.proofs.Lists.{IsReadSoFar}
use Rattle.console_http.proofs.cycles.read_numbers.Given as goal

abbrev pub invariant-loop-value : goal.invariant-loop-value
invariant-loop-value l = IsReadSoFar (whole_number 4294967295) l.numbers (drop l.value-index l.values) l.values
