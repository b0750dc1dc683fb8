use Rattle.std.proofs.Common.{◌≡◌, ◌++◌, drop}
use Rattle.std.specs.List.{cons_option}
use Rattle.verb_core.specs.Patterns.{matches}
use Rattle.mail_rows.proofs.pattern.shortened.Given as goal

-- what was read, shortened, and what is left match as the pattern does
abbrev pub invariant-loop-byte : goal.invariant-loop-byte
invariant-loop-byte l = matches (l.front.items ++ cons_option l.last (drop l.byte-index l.pattern)) ≡ matches l.pattern
