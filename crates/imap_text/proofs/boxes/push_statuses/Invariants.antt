use Rattle.std.proofs.Common.{◌≡◌, ◌++◌, take, map}
use Rattle.imap_text.specs.Words.{spaced}
use Rattle.imap_text.specs.Answers.{status_text}
use Rattle.imap_text.proofs.boxes.push_statuses.Given as goal

abbrev pub invariant-loop-index : goal.invariant-loop-index
invariant-loop-index l = l.out ≡ l.initial.out ++ spaced (map (status_text l.facts) (take l.index l.asked))
