use Rattle.std.proofs.Common.{◌≡◌, ◌++◌, arith, ap, sym, ◌∙◌, get_or}
use Rattle.imap_text.specs.Answers.{part_text}
use Rattle.imap_text.proofs.WordLemmas.{spaced_step}
use Rattle.imap_text.proofs.fetch.push_parts.Goals as goal

pub loop-index-preserved : goal.loop-index-preserved
loop-index-preserved c =
    let part = c.index-parts-index.result in
    spaced_step part_text c.args.parts.now c.loop-index.index part _ _ _ _ (omega arith) c.loop-index.invariant c.in_ok-push_space.ensures
    (c.in_ok-push_part.ensures ∙ ap (λ p. c.push_space.new.out ++ part_text p) c.index-parts-index.is)
