use Rattle.std.proofs.Common.{◌≡◌, take}
use Rattle.repair_desk.specs.Renewals.{renewed}
use Rattle.repair_desk.proofs.renewing.renewed_stamps.Given as goal

abbrev pub invariant-loop-row : goal.invariant-loop-row
invariant-loop-row l = l.new ≡ renewed l.before.store.boxes (take l.row-index l.rows) l.stamps l.fn.c
