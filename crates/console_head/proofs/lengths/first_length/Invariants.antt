use Rattle.std.proofs.Common.{◌≡◌, drop}
use Rattle.std.specs.Prelude.{find}
use Rattle.httparse.specs.Spans.{header_bytes}
use Rattle.console_head.specs.Lengths.{is_length}
use Rattle.console_head.proofs.lengths.first_length.Given as goal

abbrev pub invariant-loop-header : goal.invariant-loop-header
invariant-loop-header l =
    find (λ header. is_length (header_bytes l.text header)) l.headers ≡ find (λ header. is_length (header_bytes l.text header)) (drop l.header-index l.headers)
