use Rattle.std.proofs.Common.{◌≡◌, ap, arith, length, List}
use Rattle.verb_core.specs.declared.item.Item.{Item}
use Rattle.stored_items.proofs.Heard.{length_alike}
use Rattle.mail_cycle.proofs.Parted.{as_many}
use Rattle.mail_cycle.proofs.replaying.replay_by_levels.Goals as goal

pub returns-in-Ok-run_levels-clause-steps : goal.returns-in-Ok-run_levels-clause-steps
returns-in-Ok-run_levels-clause-steps g c =
    let done = c.in-Ok.ensures in
    let heard = c.resolve.new.items.items in
    let count : length c.in-Ok.resolved ≡ length heard = as_many c.args.store.store heard c.in-Ok.resolved done.resolved.turns_are in
    let same : length heard ≡ length c.into_vec-items.result.items = length_alike c.into_vec-items.result.items heard done.heard in
    let first : length c.into_vec-items.result.items ≡ length c.args.items = ap (λ (t : List Item). length t) c.into_vec-items.ensures in
    omega (arith, count, same, first, c.in-Ok-run_levels.ensures.steps)

pub returns-in-Err-run_levels-clause-most : goal.returns-in-Err-run_levels-clause-most
returns-in-Err-run_levels-clause-most g c =
    let done = c.in-Ok.ensures in
    let heard = c.resolve.new.items.items in
    let count : length c.in-Ok.resolved ≡ length heard = as_many c.args.store.store heard c.in-Ok.resolved done.resolved.turns_are in
    let same : length heard ≡ length c.into_vec-items.result.items = length_alike c.into_vec-items.result.items heard done.heard in
    let first : length c.into_vec-items.result.items ≡ length c.args.items = ap (λ (t : List Item). length t) c.into_vec-items.ensures in
    omega (arith, count, same, first, c.in-Err-run_levels.ensures.most)
