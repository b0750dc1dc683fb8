use Rattle.std.proofs.Common.{take, arith}
use Rattle.console_head.proofs.request.Coming.new.Goals as goal

pub returns : goal.returns
returns c = λ bytes. record { lines = c.new.ensures (take 16384 bytes); least = λ more lt. absurd (omega (arith, lt)) }
