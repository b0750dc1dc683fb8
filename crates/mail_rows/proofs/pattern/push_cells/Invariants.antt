use Rattle.std.proofs.Common.{◌≡◌, ◌++◌, false, map, take}
use Rattle.verb_core.specs.Patterns.{letters_in}
use Rattle.mail_rows.specs.Patterns.{cell_of}
use Rattle.mail_rows.proofs.pattern.push_cells.Given as goal

abbrev pub invariant-loop-byte : goal.invariant-loop-byte
invariant-loop-byte l = l.cells.items ≡ l.fn.cells.items ++ map (cell_of false) (letters_in l.any_case (take l.byte-index l.bytes))
