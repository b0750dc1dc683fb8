use Rattle.std.proofs.Common.{◌≡◌, ◌++◌, List, ℕ, length}
use Rattle.base_cut.specs.Writing.{SinkTook}
use Rattle.base_cut.proofs.writing.write_all.Given as goal

abbrev pub invariant-loop-rest : goal.invariant-loop-rest
invariant-loop-rest g l = (front : List ℕ) × (l.bytes ≡ front ++ l.rest) × SinkTook (g.W.Sink.told l.fn.out) (g.W.Sink.told l.out) front

abbrev pub decreases-loop-rest : goal.decreases-loop-rest
decreases-loop-rest g l = length l.rest
