use Rattle.std.proofs.Common.{◌∙◌, ◌-◌, List, ap, arith, length, subst, sym, take}
use Rattle.std.proofs.lemmas.List.{length-take-le}
use Rattle.std.specs.List.{AllByRecursion}
use Rattle.verb_core.specs.declared.item.Item.{Item}
use Rattle.stored_items.specs.Stored.{AllHeard}
use Rattle.replay_crew.specs.Hearing.{HoldsOf, StoresOf}
use Rattle.mail_cycle.proofs.Told.{all_held, all_stored, front_told}
use Rattle.mail_cycle.proofs.cycling.go_to.Goals as goal

pub replay_in_order-requires-clause-held : goal.replay_in_order-requires-clause-held
replay_in_order-requires-clause-held g c =
    let told = g.B.Bodies.told c.args.bodies.now in
    let rest = c.args.place - c.args.first.count in
    let items = c.args.edited.items in
    subst (AllByRecursion (HoldsOf told)) (sym c.in-Ok.ensures.front) (all_held told (take rest items) (front_told told rest items c.requires.texts))

pub returns-in-Ok-replay_in_order-clause-passes : goal.returns-in-Ok-replay_in_order-clause-passes
returns-in-Ok-replay_in_order-clause-passes g c =
    let told = g.B.Bodies.told c.args.bodies.now in
    let rest = c.args.place - c.args.first.count in
    let items = c.args.edited.items in
    let made = c.in-Ok-replay_in_order.made in
    let done = c.in-Ok-replay_in_order.ensures in
    let front = c.in-Ok.ensures.front in
    record {
      heard = subst (λ (t : List Item). AllHeard t made.items) front done.heard;
      same = λ is. done.same is (subst (AllByRecursion (StoresOf told)) (sym front) (all_stored told (take rest items) is (front_told told rest items c.requires.texts))) ∙ front;
      store = done.store;
      valid = done.valid;
      later = c.in-Ok.ensures.later;
    }

pub returns-in-Err-replay_in_order-clause-most : goal.returns-in-Err-replay_in_order-clause-most
returns-in-Err-replay_in_order-clause-most g c =
    let rest = c.args.place - c.args.first.count in
    let through = ap (λ (t : List Item). length t) c.in-Ok.ensures.front in
    omega (arith, through, length-take-le rest c.args.edited.items c.requires.place, c.requires.few, c.in-Err-replay_in_order.ensures.most)
