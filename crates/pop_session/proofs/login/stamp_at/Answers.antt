use Rattle.std.proofs.Common.{ℕ, Option, rules, sym, ap}
use Rattle.std.specs.Prelude.{unwrap_or}
use Rattle.std.proofs.lemmas.Fn.{always_returns_same}
use Rattle.verb_core.specs.declared.mailbox.BoxId.{BoxId}
use Rattle.verb_core.specs.Boxes.{box_cmp, box_of}
use Rattle.pop_session.proofs.Stamped.{stamp_found, stamp_missing}
use Rattle.pop_session.proofs.login.stamp_at.Goals as goal

-- the closure compares a row with the mailbox
pub returns-in-Ok : goal.returns-in-Ok
returns-in-Ok c =
    let id = box_of c.args.user c.args.name.now in
    let equal = c.in-Ok.ensures.position (λ (r : BoxId × ℕ). box_cmp r.0 (box_of c.args.user c.args.name.now)) (always_returns_same _ _ _ (λ a r f called. (search rules, search rules))) in
    ap (λ (o : Option ℕ). unwrap_or o 0) (sym (stamp_found id c.args.stamps.now c.requires c.in-Ok.place c.index-stamps-place.result c.in-Ok.ensures.bound equal))

pub returns-in-Err : goal.returns-in-Err
returns-in-Err c =
    let id = box_of c.args.user c.args.name.now in
    let parted = c.in-Err.ensures.position (λ (r : BoxId × ℕ). box_cmp r.0 (box_of c.args.user c.args.name.now)) (always_returns_same _ _ _ (λ a r f called. (search rules, search rules))) in
    ap (λ (o : Option ℕ). unwrap_or o 0) (sym (stamp_missing id c.args.stamps.now c.requires c.in-Err.field-0 parted))
