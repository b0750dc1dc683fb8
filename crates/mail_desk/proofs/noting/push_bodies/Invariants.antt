use Rattle.std.proofs.Common.{◌≡◌, ◌++◌, take}
use Rattle.std.specs.List.{AllByRecursion}
use Rattle.mail_desk.specs.Noting.{IsNotedBy, rows_by}
use Rattle.mail_desk.proofs.noting.push_bodies.Given as goal

abbrev pub invariant-loop-item : goal.invariant-loop-item
invariant-loop-item l = (l.rows.items ≡ l.initial.rows.items ++ rows_by l.old.notes l.fresh (take l.item-index l.items)) × AllByRecursion (IsNotedBy l.old.notes l.fresh) (take l.item-index l.items)
