use Rattle.std.proofs.Common.{◌≡◌, ◌++◌, take, drop, map}
use Rattle.mail_rows.specs.Confs.{lowered}
use Rattle.mail_rows.proofs.filter_order.lower.Given as goal

-- the first places are brought down
abbrev pub invariant-loop-place : goal.invariant-loop-place
invariant-loop-place l = l.place-items ≡ map (lowered l.gone) (take l.place-index l.fn.order.items) ++ drop l.place-index l.fn.order.items
