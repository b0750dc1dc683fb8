use Rattle.std.proofs.Common.{◌≡◌, ◌+◌, ◌≤◌, ◌==◌, not, length, take}
use Rattle.std.specs.List.{suffix_len}
use Rattle.smtp_lines.proofs.parts.count_at_end.Given as goal

-- what is passed, and what follows the byte in the rest
abbrev pub invariant-loop-count : goal.invariant-loop-count
invariant-loop-count l = record {
  within : l.count ≤ length l.bytes;
  others : suffix_len (λ b. not (b == l.byte)) l.bytes + l.count ≡ length l.bytes + suffix_len (λ b. not (b == l.byte)) (take l.count l.bytes);
}

abbrev pub decreases-loop-count : goal.decreases-loop-count
decreases-loop-count l = l.count
