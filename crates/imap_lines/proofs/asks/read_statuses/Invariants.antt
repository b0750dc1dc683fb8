use Rattle.std.proofs.Common.{◌≡◌, true, [], drop}
use Rattle.imap_lines.specs.Asks.{statuses_from}
use Rattle.imap_lines.proofs.asks.read_statuses.Given as goal

abbrev pub invariant-loop-place : goal.invariant-loop-place
invariant-loop-place l = statuses_from l.wanted l.asks (drop l.place l.tokens) ≡ statuses_from true [] l.tokens
