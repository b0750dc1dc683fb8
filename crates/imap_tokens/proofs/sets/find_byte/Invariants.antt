use Rattle.std.proofs.Common.{◌≡◌, ◌++◌, take, drop, option_map}
use Rattle.imap_tokens.specs.Sets.{cut_at}
use Rattle.imap_tokens.proofs.sets.find_byte.Given as goal

abbrev pub invariant-loop-place : goal.invariant-loop-place
invariant-loop-place l = cut_at l.byte l.bytes ≡ option_map (λ parts. (take l.place l.bytes ++ parts.0, parts.1)) (cut_at l.byte (drop l.place l.bytes))
