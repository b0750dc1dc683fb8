use Rattle.std.proofs.Common.{◌≡◌, ◌≤◌, [], List, false, length, drop, map}
use Rattle.verb_core.specs.Patterns.{Letter, matches}
use Rattle.mail_rows.specs.Patterns.{cell_of, tested}
use Rattle.mail_rows.proofs.pattern.is_match.Given as goal

-- the cells tell of the last bytes of the pattern
abbrev pub invariant-loop-place : goal.invariant-loop-place
invariant-loop-place l = record {
  within : l.place ≤ length l.pattern;
  cells : (letters : List Letter) → l.fn.cells ≡ map (cell_of false) letters → l.cells ≡ tested (matches (drop l.place l.pattern)) letters;
  at_end : l.at_end ≡ matches (drop l.place l.pattern) [];
}

abbrev pub decreases-loop-place : goal.decreases-loop-place
decreases-loop-place l = l.place
