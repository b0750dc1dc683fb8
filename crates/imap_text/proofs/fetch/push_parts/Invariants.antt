use Rattle.std.proofs.Common.{◌≡◌, ◌++◌, take, map}
use Rattle.imap_text.specs.Words.{spaced}
use Rattle.imap_text.specs.Answers.{part_text}
use Rattle.imap_text.proofs.fetch.push_parts.Given as goal

abbrev pub invariant-loop-index : goal.invariant-loop-index
invariant-loop-index l = l.out ≡ l.initial.out ++ spaced (map part_text (take l.index l.parts))
