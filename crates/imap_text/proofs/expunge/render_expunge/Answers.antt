use Rattle.std.proofs.Common.{◌≡◌, ◌++◌, arith, ◌∙◌, ap, decimal, codes}
use Rattle.imap_text.specs.Words.{line}
use Rattle.imap_text.specs.Answers.{expunge_from, expunge_lines}
use Rattle.imap_text.proofs.ExpungeLemmas.{expunge_step, expunge_end}
use Rattle.imap_text.proofs.expunge.render_expunge.Goals as goal

pub loop-gone-preserved : goal.loop-gone-preserved
loop-gone-preserved c =
    expunge_step c.as_slice-places.result.now c.loop-gone.gone 0 c.loop-gone.out _ _ (omega arith) c.loop-gone.invariant
    (c.in_ok-push_number_line.ensures ∙ ap (λ n. c.loop-gone.out ++ line (decimal n ++ codes " EXPUNGE")) c.saturating_sub-number.ensures)

pub returns : goal.returns
returns c =
    expunge_end c.as_slice-places.result.now c.loop-gone.gone _ _ (omega arith) c.loop-gone.invariant ∙ ap expunge_lines c.as_slice-places.ensures
