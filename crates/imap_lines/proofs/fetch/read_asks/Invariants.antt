use Rattle.std.proofs.Common.{◌≡◌, drop}
use Rattle.imap_lines.specs.Fetch.{with_tokens, nothing_asked}
use Rattle.imap_lines.proofs.fetch.read_asks.Given as goal

abbrev pub invariant-loop-token : goal.invariant-loop-token
invariant-loop-token l = with_tokens l.attributes (drop l.token-index l.tokens) ≡ with_tokens nothing_asked l.tokens
