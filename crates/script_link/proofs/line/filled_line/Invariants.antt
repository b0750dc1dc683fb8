use Rattle.std.proofs.Common.{◌≡◌, replicate}
use Rattle.script_link.proofs.line.filled_line.Given as goal

abbrev pub invariant-loop : goal.invariant-loop
invariant-loop l = l.line ≡ replicate l.counter 97
