use Rattle.std.proofs.Common.{◌≡◌, true, drop}
use Rattle.imap_tokens.specs.Flags.{no_flags, bare_from}
use Rattle.imap_tokens.proofs.flags.read_bare_flags.Given as goal

abbrev pub invariant-loop-token : goal.invariant-loop-token
invariant-loop-token l = bare_from l.wanted l.flags (drop l.token-index l.tokens) ≡ bare_from true no_flags l.tokens
