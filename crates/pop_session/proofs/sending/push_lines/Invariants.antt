use Rattle.std.proofs.Common.{◌≡◌, ◌++◌, length}
use Rattle.std.specs.List.{flat_map}
use Rattle.header_fields.specs.Lines.{lines_of}
use Rattle.pop_session.specs.Sending.{dotted}
use Rattle.pop_session.proofs.sending.push_lines.Given as goal

-- what is sent, and the lines of the rest, are the lines of all
abbrev pub invariant-loop-rest : goal.invariant-loop-rest
invariant-loop-rest l = l.text ++ flat_map dotted (lines_of l.rest) ≡ l.initial.text ++ flat_map dotted (lines_of l.bytes)

abbrev pub decreases-loop-rest : goal.decreases-loop-rest
decreases-loop-rest l = length l.rest
