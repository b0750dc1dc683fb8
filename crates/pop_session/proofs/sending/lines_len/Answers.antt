use Rattle.std.proofs.Common.{◌≡◌, ◌-◌, ◌++◌, take, drop, length, ap, sym, ◌∙◌, arith}
use Rattle.std.proofs.lemmas.List.{append_assoc, append-nil, drop-drop, length-drop}
use Rattle.std.proofs.Math.Seq.{take-add}
use Rattle.header_fields.specs.Lines.{joined, lines_of}
use Rattle.pop_session.proofs.Sent.{line_more}
use Rattle.pop_session.proofs.sending.lines_len.Goals as goal

pub loop-left-preserved : goal.loop-left-preserved
loop-left-preserved c =
    let bytes = c.args.bytes.now in
    let p = c.loop-left.passed in
    let rest = c.loop-left.rest.now in
    let left = c.loop-left.left in
    let inv = c.loop-left.invariant in
    let n = c.line_len-len.result in
    let size : length rest ≡ length bytes - p = ap length inv.rest ∙ length-drop p bytes in
    let more = line_more rest n left c.line_len-len.ensures.within c.line_len-len.ensures.line c.loop-left-test.true in
    record {
      rest = c.after-rest.ensures ∙ ap (drop n) inv.rest ∙ drop-drop n p bytes;
      within = omega (arith, c.line_len-len.ensures.within, size, inv.within);
      lines = rw (c.after-rest.ensures, take-add p n bytes, sym inv.rest) (append_assoc (take p bytes) (take n rest) (joined (take (left - 1) (lines_of (drop n rest)))) ∙ ap (λ x. take p bytes ++ x) more ∙ inv.lines);
    }

pub returns-clause-value : goal.returns-clause-value
returns-clause-value c =
    let none : c.loop-left.left ≡ 0 = omega (arith, c.loop-left-test.false) in
    sym (append-nil (take c.loop-left.passed c.args.bytes.now)) ∙ ap (λ k. take c.loop-left.passed c.args.bytes.now ++ joined (take k (lines_of c.loop-left.rest.now))) (sym none) ∙ c.loop-left.invariant.lines
