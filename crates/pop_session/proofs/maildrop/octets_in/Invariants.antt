use Rattle.std.proofs.Common.{◌≡◌, ◌*◌, ◌≤◌, take}
use Rattle.std.specs.List.{sum_by}
use Rattle.pop_session.specs.Maildrop.{octets_of}
use Rattle.pop_session.proofs.maildrop.octets_in.Given as goal

abbrev pub invariant-loop-message : goal.invariant-loop-message
invariant-loop-message l = record {
  octets : l.octets ≡ sum_by octets_of (take l.message-index l.messages);
  most : l.octets ≤ l.message-index * 4294967295;
}
