use Rattle.std.proofs.Common.{◌≡◌, drop}
use Rattle.imap_tokens.specs.Tokens.{tokens_of}
use Rattle.imap_tokens.proofs.tokens.add_lines.Given as goal

abbrev pub invariant-loop-place : goal.invariant-loop-place
invariant-loop-place l = tokens_of l.tokens (drop l.place l.lines) (drop l.place l.literals) ≡ tokens_of l.fn.tokens l.lines l.literals
