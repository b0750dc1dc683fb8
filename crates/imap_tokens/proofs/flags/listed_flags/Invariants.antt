use Rattle.std.proofs.Common.{◌≡◌, true, drop}
use Rattle.imap_tokens.specs.Flags.{no_flags, flags_from}
use Rattle.imap_tokens.proofs.flags.listed_flags.Given as goal

abbrev pub invariant-loop-place : goal.invariant-loop-place
invariant-loop-place l = flags_from l.wanted l.flags (drop l.place l.tokens) ≡ flags_from true no_flags l.tokens
