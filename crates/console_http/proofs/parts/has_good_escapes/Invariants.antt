use Rattle.std.proofs.Common.{◌≡◌, length}
use Rattle.console_http.specs.Parts.{has_good_escapes}
use Rattle.console_http.proofs.parts.has_good_escapes.Given as goal

abbrev pub invariant-loop-byte : goal.invariant-loop-byte
invariant-loop-byte l = has_good_escapes l.fn.part ≡ has_good_escapes l.rest

abbrev pub decreases-loop-byte : goal.decreases-loop-byte
decreases-loop-byte l = length l.rest
