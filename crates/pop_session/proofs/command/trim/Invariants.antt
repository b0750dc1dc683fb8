use Rattle.std.proofs.Common.{◌≡◌, ◌+◌, ◌≤◌, length, take}
use Rattle.std.specs.List.{suffix_len}
use Rattle.smtp_lines.specs.Parts.{is_space}
use Rattle.pop_session.proofs.command.trim.Given as goal

-- what is cut off, and the spaces at the end of the rest
abbrev pub invariant-loop-count : goal.invariant-loop-count
invariant-loop-count l = record {
  within : l.count ≤ length l.bytes;
  spaces : suffix_len is_space l.bytes + l.count ≡ length l.bytes + suffix_len is_space (take l.count l.bytes);
}

abbrev pub decreases-loop-count : goal.decreases-loop-count
decreases-loop-count l = l.count
