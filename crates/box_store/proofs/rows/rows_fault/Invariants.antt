use Rattle.std.proofs.Common.{IsTrue, take}
use Rattle.box_store.specs.Making.{are_rows}
use Rattle.box_store.proofs.rows.rows_fault.Given as goal

abbrev pub invariant-loop-place : goal.invariant-loop-place
invariant-loop-place l = IsTrue (are_rows l.house (take l.place l.rows))
