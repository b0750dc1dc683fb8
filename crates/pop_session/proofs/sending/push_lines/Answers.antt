use Rattle.std.proofs.Common.{◌++◌, ℕ, List, take, drop, ap, sym, ◌∙◌, arith}
use Rattle.std.specs.List.{flat_map}
use Rattle.std.proofs.lemmas.List.{append_assoc}
use Rattle.header_fields.specs.Lines.{lines_of}
use Rattle.pop_session.specs.Sending.{dotted}
use Rattle.pop_session.proofs.sending.push_lines.Goals as goal

pub loop-rest-preserved : goal.loop-rest-preserved
loop-rest-preserved c =
    let rest = c.loop-rest.rest.now in
    let text = c.loop-rest.text in
    let n = c.line_len-count.result in
    let is = c.line_len-count.ensures.line (omega (arith, c.in-len1-up.len_at_least)) in
    rw (c.in_ok-push_dotted.ensures, c.before-line.ensures, c.after-rest.ensures)
    (append_assoc text (dotted (take n rest)) (flat_map dotted (lines_of (drop n rest))) ∙ ap (λ (ls : List (List ℕ)). text ++ flat_map dotted ls) (sym is) ∙ c.loop-rest.invariant)
