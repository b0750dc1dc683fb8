use Rattle.std.proofs.Common.{◌≡◌, ◌++◌, take}
use Rattle.std.specs.List.{AllByRecursion}
use Rattle.store_kept.specs.Naming.{texts_come}
use Rattle.mail_desk.specs.Noting.{IsNotedBefore, rows_before}
use Rattle.mail_desk.proofs.noting.push_all_before.Given as goal

abbrev pub invariant-loop-row : goal.invariant-loop-row
invariant-loop-row l =
    (l.rows.items ≡ l.initial.rows.items ++ rows_before l.old.notes (texts_come (take l.row-index l.before))) × AllByRecursion (IsNotedBefore l.old.notes) (texts_come (take l.row-index l.before))
