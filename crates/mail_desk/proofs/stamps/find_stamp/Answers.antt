use Rattle.std.proofs.Common.{ℕ, sym, rules}
use Rattle.std.proofs.lemmas.Fn.{always_returns_same}
use Rattle.verb_core.specs.declared.mailbox.BoxId.{BoxId}
use Rattle.verb_core.specs.Boxes.{box_cmp, box_of}
use Rattle.verb_core.proofs.Searched.{row_found, row_missing}
use Rattle.mail_desk.proofs.stamps.find_stamp.Goals as goal

-- the closure compares a row with the mailbox
pub returns-in-Ok : goal.returns-in-Ok
returns-in-Ok c =
    let id = box_of c.args.user c.args.name.now in
    let equal = c.in-Ok.ensures.position (λ (r : BoxId × ℕ). box_cmp r.0 (box_of c.args.user c.args.name.now)) (always_returns_same _ _ _ (λ a r f called. (search rules, search rules))) in
    sym (row_found id c.args.rows.now c.requires c.in-Ok.place c.in-Ok.ensures.bound equal c.index-rows-place.result)

pub returns-in-Err : goal.returns-in-Err
returns-in-Err c =
    let id = box_of c.args.user c.args.name.now in
    let parted = c.in-Err.ensures.position (λ (r : BoxId × ℕ). box_cmp r.0 (box_of c.args.user c.args.name.now)) (always_returns_same _ _ _ (λ a r f called. (search rules, search rules))) in
    sym (row_missing id c.args.rows.now c.requires c.in-Err.field-0 parted)
