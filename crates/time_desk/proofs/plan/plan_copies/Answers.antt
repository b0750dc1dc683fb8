use Rattle.std.proofs.Common.{rules, ◌≡◌, ◌∙◌, ◌≤◌, List, ap, drop, length, map, subst, sym, take}
use Rattle.verb_core.specs.declared.item.Item.{Item}
use Rattle.verb_core.specs.Step.{run}
use Rattle.stored_items.proofs.Heard.{length_alike}
use Rattle.repair_desk.specs.Repairs.{numbers_of}
use Rattle.touch_rules.specs.declared.touched.Touch.{Touch}
use Rattle.touch_rules.specs.Table.{touches_of}
use Rattle.replay_plan.specs.Lines.{text_of_levels}
use Rattle.replay_plan.specs.Placing.{levels_of}
use Rattle.replay_crew.specs.Resolving.{AreResolvedFrom}
use Rattle.time_desk.specs.Planning.{plan_from, resolved}
use Rattle.time_desk.proofs.Resolving.{all_touched, plan_behind_of}
use Rattle.time_desk.proofs.plan.plan_copies.Goals as goal

pub spell-requires-clause-all : goal.spell-requires-clause-all
spell-requires-clause-all g c =
    let same : c.as_slice.result.now ≡ c.resolve.new.items.items = search rules in
    (c.args.store.now.store, subst (λ (items : List Item). AreResolvedFrom c.args.store.now.store items c.in_ok-all.all) (sym same) c.in_ok-all.ensures.resolved)

pub spell-requires-clause-count : goal.spell-requires-clause-count
spell-requires-clause-count g c =
    let same : c.as_slice.result.now ≡ c.resolve.new.items.items = search rules in
    subst (λ n. c.args.count ≤ n) (sym (length_alike c.args.items.items c.resolve.new.items.items c.in_ok-all.ensures.heard) ∙ ap (λ (items : List Item). length items) (sym same)) c.requires.count

-- the items, as they were read, are as they were
pub returns-in-Ok-clause-text : goal.returns-in-Ok-clause-text
returns-in-Ok-clause-text g c = λ honest stored.
    let s = c.args.store.now.store in
    let n = c.args.count in
    let heard = c.resolve.new.items.items in
    let same : c.as_slice.result.now ≡ heard = search rules in
    c.in-Ok.ensures
    ∙ ap (λ (touches : List (List Touch)). text_of_levels (levels_of (drop n touches)) (numbers_of (drop n c.as_slice.result.now))) (all_touched s heard c.in_ok-all.all c.in_ok-all.ensures.resolved.turns_are)
    ∙ ap (λ (items : List Item). text_of_levels (levels_of (drop n (map touches_of (resolved s heard)))) (numbers_of (drop n items))) same
    ∙ plan_behind_of s heard n
    ∙ ap (λ (items : List Item). plan_from (run s (take n items)) (drop n items)) (c.in_ok-all.ensures.same honest stored)
