use Rattle.std.proofs.Common.{◌≡◌, true, take}
use Rattle.std.specs.List.{list_all}
use Rattle.repair_desk.specs.Renewals.{is_old}
use Rattle.repair_desk.proofs.renewing.extends.Given as goal

abbrev pub invariant-loop-entry : goal.invariant-loop-entry
invariant-loop-entry l = list_all (is_old l.old) (take l.entry-index l.new.entries) ≡ true
