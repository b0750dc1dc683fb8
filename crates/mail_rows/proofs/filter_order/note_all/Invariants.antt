use Rattle.mail_rows.specs.Confs.{IsOrder}
use Rattle.mail_rows.proofs.filter_order.note_all.Given as goal

-- what is in the order stays so
abbrev pub invariant-loop : goal.invariant-loop
invariant-loop l = IsOrder l.order.items l.filters
