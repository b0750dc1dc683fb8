use Rattle.std.proofs.Common.{Result, drop}
use Rattle.undo_outside.specs.Calls.{SinkTold}
use Rattle.base_cut.specs.declared.fault.CutFault.{CutFault}
use Rattle.base_cut.specs.Cutting.{IsTextOf, ReadsWell, WritesEach}
use Rattle.base_cut.proofs.Gatherings.{Waits, WritesBehind}
use Rattle.base_cut.proofs.cutting.write_texts.Given as goal

-- some payloads wait; what the rest comes to behind them, all comes to; and no read failed
abbrev pub invariant-loop-body : goal.invariant-loop-body
invariant-loop-body g l =
    (waits : Waits l.gathered.bytes.items)
    × ((r : Result (Unit {0}) CutFault) (new : SinkTold) → WritesBehind (IsTextOf (g.B.Bodies.told l.fn.bodies)) waits.payloads (drop l.body-index l.list) (g.W.Sink.told l.out) new r
    → WritesEach (IsTextOf (g.B.Bodies.told l.fn.bodies)) l.list (g.W.Sink.told l.fn.out) new r)
    × ReadsWell g.B.Bodies.told g.B.Bodies.leads l.fn.bodies l.bodies
