use Rattle.std.proofs.Common.{ap, ◌∙◌, arith}
use Rattle.imap_tokens.specs.Parts.{line_before}
use Rattle.imap_tokens.proofs.Lining.{line_step}
use Rattle.imap_tokens.proofs.tokens.add_lines.Goals as goal

pub loop-place-preserved : goal.loop-place-preserved
loop-place-preserved c =
    line_step c.loop-place.tokens c.add_line.new.tokens c.add_literal_at.new.tokens c.args.lines.now c.args.literals.now c.after.result.now
    c.index-lines-place.result c.line_before-line.result.now c.loop-place.place c.in_ok-add_line.field-0 _ (omega arith)
    c.index-lines-place.is c.after.ensures (c.line_before-line.ensures ∙ ap (λ l. line_before l c.after.result.now) c.bytes.ensures.value)
    c.in_ok-add_line.ensures c.if-not-branch.false c.in_ok-add_literal_at.ensures c.loop-place.invariant
