use Rattle.std.proofs.Common.{drop}
use Rattle.console_http.specs.Cycles.{replace_of}
use Rattle.console_http.proofs.Lists.{IsReadSoFar}
use Rattle.console_http.proofs.cycles.read_replaces.Given as goal

abbrev pub invariant-loop-value : goal.invariant-loop-value
invariant-loop-value l = IsReadSoFar replace_of l.replaces (drop l.value-index l.values) l.values
