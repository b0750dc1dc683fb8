use Rattle.std.proofs.Common.{◌≡◌, ◌+◌, ◌-◌, take, drop}
use Rattle.std.specs.List.{AllByRecursion}
use Rattle.verb_core.specs.Step.{answers, run}
use Rattle.verb_core.specs.Store.{IsValid}
use Rattle.verb_core.specs.Texts.{StaysTold}
use Rattle.stored_items.specs.Stored.{AllHeard}
use Rattle.replay_crew.specs.Hearing.{StoresOf}
use Rattle.mail_cycle.proofs.running.perform_each.Given as goal

-- the items so far are as they were read, and led from the first store to the store so far
abbrev pub invariant-loop-item : goal.invariant-loop-item
invariant-loop-item g l = record {
  later : drop l.item-index l.item-items ≡ drop l.item-index l.fn.items.items;
  heard : AllHeard (take l.item-index l.fn.items.items) (take l.item-index l.item-items);
  same : (g.B.Bodies.told l.initial.bodies).honest → AllByRecursion (StoresOf (g.B.Bodies.told l.initial.bodies)) l.fn.items.items → take l.item-index l.item-items ≡ take l.item-index l.fn.items.items;
  store : l.store.store ≡ run l.initial.store.store (take l.item-index l.item-items);
  valid : IsValid l.store.store;
  house : l.store.store.house ≡ l.initial.store.store.house;
  shows : l.shows ≡ drop l.front (answers l.initial.store.store (take l.item-index l.item-items));
  left : l.left ≡ l.front - l.item-index;
  steps : l.steps ≡ l.initial.steps + l.item-index;
  reads : (g.B.Bodies.told l.bodies).faults ≡ (g.B.Bodies.told l.initial.bodies).faults;
  stays : StaysTold (g.B.Bodies.told l.initial.bodies) (g.B.Bodies.told l.bodies);
  leads : g.B.Bodies.leads l.initial.bodies l.bodies;
}
