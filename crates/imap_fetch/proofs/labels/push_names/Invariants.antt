use Rattle.std.proofs.Common.{◌≡◌, ◌++◌, take, map}
use Rattle.imap_text.specs.Words.{spaced}
use Rattle.imap_fetch.proofs.labels.push_names.Given as goal

abbrev pub invariant-loop-index : goal.invariant-loop-index
invariant-loop-index l = l.out ≡ l.initial.out ++ spaced (map (λ name. name) (take l.index l.names))
