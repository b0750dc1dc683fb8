use Rattle.std.proofs.Common.{◌∙◌, ap, get_or, arith}
use Rattle.verb_core.specs.declared.mailbox.BoxId.{BoxId}
use Rattle.verb_core.specs.Boxes.{box_of}
use Rattle.verb_core.specs.Step.{Boxes}
use Rattle.box_store.proofs.RowMoves.{moved_is, placed_id, written_back}
use Rattle.box_store.proofs.moving.move_from.Goals as goal

pub move_to_gap-requires-clause-own : goal.move_to_gap-requires-clause-own
move_to_gap-requires-clause-own c = λ d.
    ap (λ (rs : Boxes). (get_or rs c.args.place d).0.user) c.as_mut_slice.ensures.value
    ∙ ap (λ (q : BoxId). q.user) (placed_id (box_of c.args.user c.args.moved.from) c.args.rows.now.items c.args.place c.requires.place d)

pub returns-in-Err : goal.returns-in-Err
returns-in-Err c =
    written_back c.move_to_gap.new.rows c.args.rows.now.items c.args.rows.now.len (omega (arith, c.move_to_gap.auto.rows, c.as_mut_slice.ensures.len, c.args.rows.now.ok.0))
    ∙ moved_is c.args.user c.args.moved c.new_name.result c.as_mut_slice.result.now c.args.rows.now.items c.move_to_gap.new.rows c.args.place c.as_mut_slice.ensures.value c.new_name.ensures c.requires.place c.move_to_gap.ensures
