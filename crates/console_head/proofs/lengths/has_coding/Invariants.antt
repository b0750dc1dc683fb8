use Rattle.std.proofs.Common.{◌≡◌, false, take}
use Rattle.std.specs.List.{list_any}
use Rattle.httparse.specs.Spans.{header_bytes}
use Rattle.console_head.specs.Lengths.{is_coding}
use Rattle.console_head.proofs.lengths.has_coding.Given as goal

abbrev pub invariant-loop-header : goal.invariant-loop-header
invariant-loop-header l = list_any (λ header. is_coding (header_bytes l.text header)) (take l.header-index l.headers) ≡ false
