use Rattle.std.proofs.Common.{◌≡◌, ◌+◌, ◌<◌, length, drop, option_map, IfSome}
use Rattle.std.specs.Option.{option_or}
use Rattle.imap_stream.specs.LiteralMarks.{last_brace}
use Rattle.imap_stream.proofs.marks.find_brace.Given as goal

abbrev pub invariant-loop-place : goal.invariant-loop-place
invariant-loop-place l = record {
  value : last_brace l.line ≡ option_or (option_map (λ n. l.place + n) (last_brace (drop l.place l.line))) l.found;
  within : IfSome l.found (λ n. n < length l.line);
}
