use Rattle.std.proofs.Common.{arith, sym, ◌∙◌}
use Rattle.std.proofs.lemmas.List.{length-drop}
use Rattle.header_fields.proofs.Cutting.{passed_none, passed_step, passed_end}
use Rattle.pop_session.proofs.sending.line_len.Goals as goal

pub loop-rest-init : goal.loop-rest-init
loop-rest-init c = record { passed = passed_none c.args.bytes.now; size = omega arith; some = λ e. e }

pub returns-then-is_line_end-clause-line : goal.returns-then-is_line_end-clause-line
returns-then-is_line_end-clause-line c = λ some.
    passed_end c.args.bytes.now c.loop-rest.rest.now c.loop-rest.passed c.loop-rest.invariant.passed c.loop-rest.invariant.size
    c.in-len2-up.len_at_least (sym c.is_line_end.ensures ∙ c.if-is_line_end.true)

pub loop-rest-preserved : goal.loop-rest-preserved
loop-rest-preserved c =
    let inv = c.loop-rest.invariant in
    let two = c.in-len2-up.len_at_least in
    let step = passed_step c.args.bytes.now c.loop-rest.rest.now c.loop-rest.passed inv.passed inv.size two (sym c.is_line_end.ensures ∙ c.if-is_line_end.false) in
    record {
      passed = rw c.after-rest.ensures step;
      size = rw c.after-rest.ensures (simp length-drop (omega arith));
      some = λ some. rw c.after-rest.ensures (simp length-drop (omega arith));
    }
