use Rattle.std.proofs.Common.{Result, drop}
use Rattle.undo_outside.specs.Calls.{SinkTold}
use Rattle.base_cut.specs.declared.fault.CutFault.{CutFault}
use Rattle.base_cut.specs.Cutting.{IsKeptOf, ReadsWell, WritesEach}
use Rattle.base_cut.proofs.Gatherings.{Waits, WritesBehind}
use Rattle.base_cut.proofs.cutting.write_kepts.Given as goal

-- some payloads wait; what the rest comes to behind them, all comes to; and no read failed
abbrev pub invariant-loop-item : goal.invariant-loop-item
invariant-loop-item g l =
    (waits : Waits l.gathered.bytes.items)
    × ((r : Result (Unit {0}) CutFault) (new : SinkTold) → WritesBehind (IsKeptOf (g.B.Bodies.told l.fn.bodies)) waits.payloads (drop l.item-index l.items) (g.W.Sink.told l.out) new r
    → WritesEach (IsKeptOf (g.B.Bodies.told l.fn.bodies)) l.items (g.W.Sink.told l.fn.out) new r)
    × ReadsWell g.B.Bodies.told g.B.Bodies.leads l.fn.bodies l.bodies
