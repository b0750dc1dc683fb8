use Rattle.std.proofs.Common.{◌≡◌, ◌+◌, ◌≤◌, length}
use Rattle.script_link.specs.Script.{text_lines, events_from, script_of}
use Rattle.script_link.proofs.Runs.{with_events}
use Rattle.script_link.proofs.script.read_script.Given as goal

-- the events so far, and those of the lines that are left
abbrev pub invariant-loop-rest : goal.invariant-loop-rest
invariant-loop-rest l = record {
  events : with_events l.events (events_from (l.line + 1) l.at (text_lines l.rest)) ≡ script_of l.bytes;
  line : l.line + length l.rest ≤ length l.bytes;
}

abbrev pub decreases-loop-rest : goal.decreases-loop-rest
decreases-loop-rest l = length l.rest
