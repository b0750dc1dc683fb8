use Rattle.std.proofs.Common.{drop}
use Rattle.console_http.specs.Acts.{act_of}
use Rattle.console_http.proofs.Lists.{IsReadSoFar}
use Rattle.console_http.proofs.cycles.read_acts.Given as goal

abbrev pub invariant-loop-value : goal.invariant-loop-value
invariant-loop-value l = IsReadSoFar (act_of l.house) l.acts (drop l.value-index l.values) l.values
