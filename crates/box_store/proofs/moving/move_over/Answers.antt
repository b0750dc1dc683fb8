use Rattle.std.proofs.Common.{◌∙◌, ℕ, List, ap, sym, arith}
use Rattle.verb_core.specs.Boxes.{box_of, add_row, drop_row, row_at}
use Rattle.verb_core.specs.Step.{Boxes}
use Rattle.verb_core.proofs.BoxLaws.{rising-drop_row}
use Rattle.box_store.proofs.WorkLaws.{moved_none, moved_some}
use Rattle.box_store.proofs.moving.move_over.Goals as goal

pub put_row-requires-clause-rising : goal.put_row-requires-clause-rising
put_row-requires-clause-rising c = rw c.take_row.ensures.rows (rising-drop_row (box_of c.args.user c.bytes.result.now) c.args.rows.now.items c.requires)

pub returns-in-None : goal.returns-in-None
returns-in-None c =
    c.take_row.ensures.rows
    ∙ ap (λ (n : List ℕ). drop_row (box_of c.args.user n) c.args.rows.now.items) c.bytes.ensures.value
    ∙ moved_none c.args.user c.args.moved c.args.rows.now.items
    (ap (λ (n : List ℕ). row_at (box_of c.args.user n) c.args.rows.now.items) (sym c.bytes.ensures.value) ∙ sym c.in-None.ensures.row)

pub returns : goal.returns
returns c =
    c.put_row.ensures.rows
    ∙ ap (λ (rs : Boxes). add_row (box_of c.args.user c.args.moved.to) c.in-Some.mailbox rs) (c.take_row.ensures.rows ∙ ap (λ (n : List ℕ). drop_row (box_of c.args.user n) c.args.rows.now.items) c.bytes.ensures.value)
    ∙ moved_some c.args.user c.args.moved c.in-Some.mailbox c.args.rows.now.items
    (ap (λ (n : List ℕ). row_at (box_of c.args.user n) c.args.rows.now.items) (sym c.bytes.ensures.value) ∙ sym c.in-Some.ensures.row)

pub put_row-requires-clause-room : goal.put_row-requires-clause-room
put_row-requires-clause-room c = omega (arith, c.in-Some.ensures.fewer, c.in-Some.ensures.capacity, c.args.rows.now.ok.1)
