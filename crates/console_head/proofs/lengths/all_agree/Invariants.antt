use Rattle.std.proofs.Common.{◌≡◌, true, take}
use Rattle.std.specs.List.{list_all}
use Rattle.httparse.specs.Spans.{header_bytes}
use Rattle.console_head.specs.Lengths.{agrees}
use Rattle.console_head.proofs.lengths.all_agree.Given as goal

abbrev pub invariant-loop-header : goal.invariant-loop-header
invariant-loop-header l = list_all (λ header. agrees l.first (header_bytes l.text header)) (take l.header-index l.headers) ≡ true
