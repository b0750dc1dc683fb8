use Rattle.std.proofs.Common.{◌≡◌, ◌∙◌}
use Rattle.mail_rows.specs.Inferiors.{rows_under}
use Rattle.mail_desk.proofs.Stampings.{moved_pushed}
use Rattle.mail_desk.proofs.restamp.push_moved.Goals as goal

pub returns : goal.returns
returns c =
    let boxes = c.args.store.now.store.boxes in
    let below : c.inferiors_of-inferiors.result.now ≡ rows_under c.args.user c.args.source.now boxes = c.inferiors_of-inferiors.ensures ∙ (λ j. rows_under c.args.user (c.bytes.ensures.value j) (c.boxes.ensures.boxes j)) in
    moved_pushed c.push_moves.result c.push_moves.new.list.items c.push_move.new.list.items c.args.list.now.items c.args.user c.args.source.now c.args.target.now c.inferiors_of-inferiors.result.now boxes c.in_ok-push_move.ensures below c.push_moves.ensures
