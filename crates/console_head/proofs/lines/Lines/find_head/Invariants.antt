use Rattle.std.proofs.Common.{◌-◌, ◌≤◌, length}
use Rattle.console_head.specs.Coming.{AreFirst, looked_at}
use Rattle.console_head.proofs.lines.Lines.find_head.Given as goal

abbrev pub invariant-loop-head : goal.invariant-loop-head
invariant-loop-head l = AreFirst l.self l.bytes × (looked_at l.fn.self ≤ looked_at l.self)

abbrev pub decreases-loop-head : goal.decreases-loop-head
decreases-loop-head l = length l.bytes - l.self.start
