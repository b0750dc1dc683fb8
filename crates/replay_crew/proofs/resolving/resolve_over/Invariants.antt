use Rattle.std.proofs.Common.{◌≡◌, drop, map, take}
use Rattle.verb_core.specs.Step.{run}
use Rattle.verb_core.specs.Store.{IsValid}
use Rattle.verb_core.specs.Texts.{StaysTold}
use Rattle.stored_items.specs.Stored.{AllHeard}
use Rattle.std.specs.List.{AllByRecursion}
use Rattle.box_store.specs.Outline.{outline}
use Rattle.replay_crew.specs.Hearing.{StoresOf}
use Rattle.replay_crew.specs.Orders.{turns}
use Rattle.replay_crew.specs.Resolving.{stored_turn, turn_of}
use Rattle.replay_crew.proofs.resolving.resolve_over.Given as goal

-- the items so far are as they were read, each with its aims, and the outline is that of the store that they lead to
abbrev pub invariant-loop-item : goal.invariant-loop-item
invariant-loop-item g l = record {
  later : drop l.item-index l.item-items ≡ drop l.item-index l.fn.items.items;
  heard : AllHeard (take l.item-index l.fn.items.items) (take l.item-index l.item-items);
  same : (g.B.Bodies.told l.initial.bodies).honest → AllByRecursion (StoresOf (g.B.Bodies.told l.initial.bodies)) l.fn.items.items → take l.item-index l.item-items ≡ take l.item-index l.fn.items.items;
  outline : l.outline.store ≡ outline (run l.store.store (take l.item-index l.item-items));
  valid : IsValid l.outline.store;
  house : l.outline.store.house ≡ l.store.store.house;
  turned : map turn_of l.all ≡ map stored_turn (turns l.store.store (take l.item-index l.item-items));
  reads : (g.B.Bodies.told l.bodies).faults ≡ (g.B.Bodies.told l.initial.bodies).faults;
  stays : StaysTold (g.B.Bodies.told l.initial.bodies) (g.B.Bodies.told l.bodies);
  leads : g.B.Bodies.leads l.initial.bodies l.bodies;
}
