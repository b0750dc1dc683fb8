use Rattle.std.proofs.Common.{◌≡◌, ◌∙◌, ap, sym, subst, cond, true, false}
use Rattle.verb_core.specs.Boxes.{add_row, box_of, drop_row, has_row, is_rising}
use Rattle.verb_core.proofs.BoxLaws.{rising-drop_row}
use Rattle.mail_desk.specs.Stamping.{StampRows}
use Rattle.mail_desk.proofs.RowPlaces.{none_dropped}
use Rattle.mail_desk.proofs.stamps.move_row.Goals as goal

pub put_row-requires-clause-rising : goal.put_row-requires-clause-rising
put_row-requires-clause-rising c =
    subst (λ (rs : StampRows). is_rising rs ≡ true) (sym c.take_row.ensures.rows) (rising-drop_row (box_of c.args.user c.args.moved.from) c.args.rows.now.items c.requires)

pub returns-clause-rows : goal.returns-clause-rows
returns-clause-rows c =
    let from = box_of c.args.user c.args.moved.from in
    let rows = c.args.rows.now.items in
    let none : has_row from rows ≡ false = sym c.take_row.ensures.found ∙ c.if-take_row.false in
    c.take_row.ensures.rows ∙ none_dropped from rows none ∙ ap (λ b. cond b (add_row (box_of c.args.user c.args.moved.to) c.args.number (drop_row from rows)) rows) (sym none)
