use Rattle.std.proofs.Common.{◌≡◌, drop}
use Rattle.imap_tokens.specs.Tokens.{tokens_from, tokens_in}
use Rattle.imap_tokens.proofs.tokens.add_line.Given as goal

abbrev pub invariant-loop-byte : goal.invariant-loop-byte
invariant-loop-byte l = tokens_from l.tokens l.part (drop l.byte-index l.line) ≡ tokens_in l.fn.tokens l.line
