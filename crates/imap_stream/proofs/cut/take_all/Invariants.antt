use Rattle.std.proofs.Common.{◌≡◌, ◌++◌, length}
use Rattle.imap_stream.specs.Commands.{emptied}
use Rattle.imap_stream.proofs.cut.take_all.Given as goal

abbrev pub invariant-loop : goal.invariant-loop
invariant-loop l = record {
  all : l.nexts ++ l.cutter.said ≡ l.fn.nexts ++ l.fn.cutter.said;
  same : emptied l.cutter ≡ emptied l.fn.cutter;
}

abbrev pub decreases-loop : goal.decreases-loop
decreases-loop l = length l.cutter.said
