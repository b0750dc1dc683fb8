use Rattle.std.proofs.Common.{arith}
use Rattle.script_link.proofs.Fillings.{fill_all}
use Rattle.script_link.proofs.line.fill.Goals as goal

pub returns : goal.returns
returns c = fill_all c.loop.counter c.args.lines c.args.size _ _ _ c.loop.invariant (omega arith) c.bytes-line.ensures.value c.in_ok-filled.ensures
