use Rattle.std.proofs.Common.{ℕ, rules, sym}
use Rattle.std.proofs.lemmas.Fn.{always_returns_same}
use Rattle.verb_core.specs.declared.mailbox.BoxId.{BoxId}
use Rattle.verb_core.specs.Boxes.{box_cmp}
use Rattle.repair_desk.proofs.Stamped.{row_found, row_missing}
use Rattle.repair_desk.proofs.renewing.stamp_of.Goals as goal

pub returns-in-Ok : goal.returns-in-Ok
returns-in-Ok c =
    let by_name = c.in-Ok.ensures.position (λ (r : BoxId × ℕ). box_cmp r.0 c.args.id.now) (always_returns_same _ _ _ (λ a r f called. (search rules, search rules))) in
    sym (row_found c.args.id.now c.args.stamps.now c.requires c.in-Ok.place c.index-stamps-place.result c.in-Ok.ensures.bound by_name)

pub returns-in-Err : goal.returns-in-Err
returns-in-Err c =
    let by_name = c.in-Err.ensures.position (λ (r : BoxId × ℕ). box_cmp r.0 c.args.id.now) (always_returns_same _ _ _ (λ a r f called. (search rules, search rules))) in
    sym (row_missing c.args.id.now c.args.stamps.now c.requires c.in-Err.field-0 by_name)
