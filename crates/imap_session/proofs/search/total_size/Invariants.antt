use Rattle.std.proofs.Common.{◌≡◌, min, take}
use Rattle.std.specs.List.{sum_by}
use Rattle.imap_fetch.specs.declared.messages.Message.{Message}
use Rattle.imap_session.proofs.search.total_size.Given as goal

abbrev pub invariant-loop-row : goal.invariant-loop-row
invariant-loop-row l = l.total ≡ min (sum_by (λ (m : Message). m.size) (take l.row-index l.rows)) 18446744073709551615
