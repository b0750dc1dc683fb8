use Rattle.std.proofs.Common.{◌∙◌, arith, ap}
use Rattle.store_kept.specs.Kept.{Kept}
use Rattle.mail_cycle.proofs.Parts.{few_for}
use Rattle.mail_cycle.proofs.telling.notices_for.Goals as goal

pub items_of-requires : goal.items_of-requires
items_of-requires c =
    let few = few_for c.args.due.now.kept.house _ _ _ _ c.as_slice.result.now (c.house.ensures.house ∙ ap (λ (k : Kept). k.house) c.before-before.ensures) (c.as_slice.ensures ∙ c.in_ok-notices.ensures) in
    let next = c.next-2.ensures.next in
    let before = ap (λ (k : Kept). k.next) c.before-before.ensures in
    let acts = c.acts.ensures in
    let room = c.stands.ensures.numbers in
    omega (arith, few, next, before, acts, room)
