use Rattle.std.proofs.Common.{◌≡◌, ◌+◌, ◌++◌, take}
use Rattle.std.specs.List.{enumerate_from, flat_map}
use Rattle.pop_session.specs.Maildrop.{detail_line}
use Rattle.pop_session.proofs.maildrop.push_lines.Given as goal

abbrev pub invariant-loop-message : goal.invariant-loop-message
invariant-loop-message l = record {
  number : l.number ≡ 1 + l.message-index;
  text : l.text ≡ l.initial.text ++ flat_map (detail_line l.detail l.stamp) (enumerate_from 1 (take l.message-index l.messages));
}
