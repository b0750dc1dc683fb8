use Rattle.std.proofs.Common.{◌≡◌, ◌+◌, length, option_map}
use Rattle.imap_stream.specs.Commands.{end_of}
use Rattle.imap_stream.proofs.reader.line_end.Given as goal

abbrev pub invariant-loop-rest : goal.invariant-loop-rest
invariant-loop-rest l = record {
  value : end_of l.bytes ≡ option_map (λ n. l.passed + n) (end_of l.rest);
  length : l.passed + length l.rest ≡ length l.bytes;
}

abbrev pub decreases-loop-rest : goal.decreases-loop-rest
decreases-loop-rest l = length l.rest
