use Rattle.std.proofs.Common.{rules, ◌≡◌, ◌-◌, List, drop, refl, subst, sym, take}
use Rattle.std.specs.List.{AllByRecursion}
use Rattle.std.specs.Prelude.{IfOk}
use Rattle.verb_core.specs.declared.item.Item.{Item}
use Rattle.verb_core.specs.Step.{run}
use Rattle.replay_crew.specs.Hearing.{StoresOf}
use Rattle.mail_cycle.proofs.Told.{later_stored}
use Rattle.time_desk.specs.Planning.{plan_from}
use Rattle.time_desk.proofs.Resolving.{plan_reached}
use Rattle.time_desk.proofs.plan.plan_behind.Goals as goal

-- the beginning's store is that before the items behind it
pub returns-clause-text : goal.returns-clause-text
returns-clause-text g c = λ honest is.
    let kept = c.args.desk.now.kept in
    let first = c.args.first.now in
    let told = g.B.Bodies.told c.args.bodies.now in
    let behind : c.split_at.result.1.now ≡ drop first.count kept.timeline = search rules in
    subst (λ text. IfOk c.plan_items.result (λ t. t ≡ text)) (plan_reached kept first.store.store first.count c.args.place c.requires.serves.few is)
    (subst (λ (items : List Item). IfOk c.plan_items.result (λ text. text ≡ plan_from (run first.store.store (take (c.args.place - first.count) items)) (drop (c.args.place - first.count) items))) behind
    (c.plan_items.ensures.text honest (subst (AllByRecursion (StoresOf told)) (sym behind) (later_stored told told kept.timeline first.count (record { holds = refl; texts = refl; honest = λ h. h }) honest c.requires.texts))))
