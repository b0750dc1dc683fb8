use Rattle.std.proofs.Common.{◌≡◌, take}
use Rattle.box_store.specs.Outline.{outlined}
use Rattle.box_store.proofs.outline.new_rows.Given as goal

abbrev pub invariant-loop-row : goal.invariant-loop-row
invariant-loop-row l = l.made.items ≡ outlined (take l.row-index l.rows)
