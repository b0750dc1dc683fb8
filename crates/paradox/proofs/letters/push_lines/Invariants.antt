use Rattle.std.proofs.Common.{◌≡◌, ◌++◌, drop}
use Rattle.paradox.specs.Letters.{broken_lines}
use Rattle.paradox.proofs.letters.push_lines.Given as goal

-- the lines so far, and those of the items that are left, are all of them
abbrev pub invariant-loop-broken : goal.invariant-loop-broken
invariant-loop-broken l = l.out ++ broken_lines l.user (drop l.broken-index l.list) ≡ l.initial.out ++ broken_lines l.user l.list
