use Rattle.std.proofs.Common.{ap, ◌∙◌, sym, [], ◌∷◌, ◌++◌}
use Rattle.std.proofs.lemmas.List.{append_assoc}
use Rattle.smtp_lines.specs.Line.{smtp_lines_of}
use Rattle.smtp_lines.proofs.cutter.take_lines.Goals as goal

pub loop-line-preserved : goal.loop-line-preserved
loop-line-preserved c =
    let takes = rw c.in-Some.is at c.in_ok-line.ensures.next in
    let l = c.loop-line in
    record {
      lines = ap (λ ls. ls ++ smtp_lines_of c.next.new.self) c.in_ok-push.ensures.ok ∙ append_assoc l.lines (c.in-Some.line ∷ []) (smtp_lines_of c.next.new.self) ∙ ap (λ ls. l.lines ++ ls) (sym takes.0) ∙ l.invariant.lines;
      rest = sym takes.1 ∙ l.invariant.rest;
    }
