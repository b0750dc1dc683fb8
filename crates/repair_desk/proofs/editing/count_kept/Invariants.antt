use Rattle.std.proofs.Common.{◌≡◌, ◌≤◌, length, take}
use Rattle.repair_desk.specs.Repairs.{kept}
use Rattle.repair_desk.proofs.editing.count_kept.Given as goal

abbrev pub invariant-loop-item : goal.invariant-loop-item
invariant-loop-item l = record {
  is : l.count ≡ length (kept l.asked (take l.item-index l.later));
  few : l.count ≤ l.item-index;
}
