use Rattle.std.proofs.Common.{◌≡◌, ◌+◌, ◌++◌, take}
use Rattle.repair_desk.specs.Repairs.{inserted}
use Rattle.repair_desk.proofs.inserts.push_inserts.Given as goal

abbrev pub invariant-loop-act : goal.invariant-loop-act
invariant-loop-act l = record {
  number : l.number ≡ l.fn.c + l.act-index;
  items : l.items ≡ l.initial.items ++ inserted l.fn.c l.fn.at (take l.act-index l.acts);
}
