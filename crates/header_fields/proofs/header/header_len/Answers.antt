use Rattle.std.proofs.Common.{◌≡◌, ◌-◌, ◌++◌, length, take, drop, arith, refl, ap, sym, ◌∙◌}
use Rattle.std.proofs.lemmas.List.{length-drop, drop-drop, append_assoc}
use Rattle.std.proofs.Math.Seq.{take-add}
use Rattle.header_fields.specs.Lines.{is_empty_line}
use Rattle.header_fields.specs.Header.{header_of}
use Rattle.header_fields.proofs.Heading.{header_more, header_ends}
use Rattle.header_fields.proofs.header.header_len.Goals as goal

pub returns-then-ends-clause-header : goal.returns-then-ends-clause-header
returns-then-ends-clause-header c =
    let text = c.args.text.now in
    let p = c.loop-passed.passed in
    let rest = c.loop-passed.rest.now in
    let inv = c.loop-passed.invariant in
    let m = c.line_len-count.result in
    let left : length rest ≡ length text - p = ap length inv.rest ∙ length-drop p text in
    let line = c.line_len-count.ensures.line (omega (arith, left, c.loop-passed-test.true)) in
    let ends = header_ends rest (take m rest) (drop m rest) (ap is_empty_line (sym c.before-in-loop-passed.ensures) ∙ sym c.is_empty_line-ends.ensures ∙ c.if-ends.true) line in
    rw (take-add p m text, sym inv.rest, inv.header, ends) refl

pub loop-passed-preserved : goal.loop-passed-preserved
loop-passed-preserved c =
    let text = c.args.text.now in
    let p = c.loop-passed.passed in
    let rest = c.loop-passed.rest.now in
    let inv = c.loop-passed.invariant in
    let m = c.line_len-count.result in
    let left : length rest ≡ length text - p = ap length inv.rest ∙ length-drop p text in
    let line = c.line_len-count.ensures.line (omega (arith, left, c.loop-passed-test.true)) in
    let more = header_more rest (take m rest) (drop m rest) (ap is_empty_line (sym c.before-in-loop-passed.ensures) ∙ sym c.is_empty_line-ends.ensures ∙ c.if-ends.false) line in
    record {
      rest = c.after-rest.ensures ∙ ap (drop m) inv.rest ∙ drop-drop m p text;
      within = omega (arith, c.line_len-count.ensures.within, left, inv.within);
      header = rw (c.after-rest.ensures, take-add p m text, sym inv.rest) (inv.header ∙ ap (λ x. take p text ++ x) more ∙ sym (append_assoc (take p text) (take m rest) (header_of (drop m rest))));
    }
