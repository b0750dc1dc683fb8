use Rattle.std.proofs.Common.{◌+◌, ℕ, length, take, ap, sym, ◌∙◌, arith}
use Rattle.std.specs.List.{sum_by}
use Rattle.std.proofs.lemmas.List.Sums.{sum_by_more}
use Rattle.verb_core.specs.declared.mailbox.BoxId.{BoxId}
use Rattle.verb_core.specs.Boxes.{mail_at}
use Rattle.mail_desk.proofs.counts.messages_in.Goals as goal

pub loop-row-preserved : goal.loop-row-preserved
loop-row-preserved c =
    let rows = c.args.rows.now in
    let i = c.loop-row.row-index in
    let f = λ (r : BoxId × ℕ). length (mail_at r.0 c.args.store.now.store.boxes) in
    let more = sum_by_more f rows i c.row-item.result c.loop-row-test.true ∙ ap (λ (r : BoxId × ℕ). sum_by f (take i rows) + f r) (sym c.row-item.is) in
    omega (arith, more, c.loop-row.invariant, c.entries_in.ensures, c.saturating_add-sum.ensures)
