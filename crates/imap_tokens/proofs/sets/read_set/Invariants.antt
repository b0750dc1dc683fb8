use Rattle.std.proofs.Common.{◌≡◌, ◌++◌, length, option_map}
use Rattle.imap_tokens.specs.Sets.{set_in}
use Rattle.imap_tokens.proofs.sets.read_set.Given as goal

-- the ranges so far, and those of the rest
abbrev pub invariant-loop-range : goal.invariant-loop-range
invariant-loop-range l = option_map (λ more. l.set ++ more) (set_in l.rest) ≡ set_in l.bytes

abbrev pub decreases-loop-range : goal.decreases-loop-range
decreases-loop-range l = length l.rest
