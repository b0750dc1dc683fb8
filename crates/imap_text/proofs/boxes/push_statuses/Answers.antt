use Rattle.std.proofs.Common.{arith}
use Rattle.imap_text.specs.Answers.{status_text}
use Rattle.imap_text.proofs.WordLemmas.{spaced_step}
use Rattle.imap_text.proofs.boxes.push_statuses.Goals as goal

pub loop-index-preserved : goal.loop-index-preserved
loop-index-preserved c =
    spaced_step (status_text c.args.facts.now) c.args.asked.now c.loop-index.index _ _ _ _ _ (omega arith) c.loop-index.invariant c.in_ok-push_space.ensures c.in_ok-push_status.ensures
