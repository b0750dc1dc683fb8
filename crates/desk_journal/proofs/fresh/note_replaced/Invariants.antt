use Rattle.std.proofs.Common.{ℕ, List, take, drop}
use Rattle.std.specs.List.{AllZip}
use Rattle.verb_bytes.specs.Places.{LiesThere}
use Rattle.desk_journal.specs.Placing.{ReplacedLie, texts_replacing}
use Rattle.desk_journal.proofs.fresh.note_replaced.Given as goal

abbrev pub invariant-loop-row : goal.invariant-loop-row
invariant-loop-row l = (bytes : List ℕ) → AllZip (LiesThere bytes) l.fn.spots (texts_replacing l.replaces)
    → AllZip (LiesThere bytes) l.rest (texts_replacing (drop l.row-index l.replaces)) × ReplacedLie l.fn.cycle (take l.row-index l.replaces) l.fn.place bytes l.shelf.notes
