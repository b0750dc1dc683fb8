use Rattle.std.proofs.Common.{◌≡◌, flat_map, take}
use Rattle.std.specs.List.{enumerate_from}
use Rattle.imap_fetch.specs.Told.{beside_line}
use Rattle.imap_fetch.proofs.lines.fetch_lines.Given as goal

abbrev pub invariant-loop-index : goal.invariant-loop-index
invariant-loop-index l = l.out ≡ flat_map (beside_line l.form l.texts) (enumerate_from 0 (take l.index l.rows))
