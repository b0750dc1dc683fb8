use Rattle.std.proofs.Common.{◌≡◌, flat_map, take}
use Rattle.imap_fetch.specs.Told.{stored_line}
use Rattle.imap_fetch.proofs.lines.store_lines.Given as goal

abbrev pub invariant-loop-row : goal.invariant-loop-row
invariant-loop-row l = l.out ≡ flat_map (stored_line l.form) (take l.row-index l.rows)
