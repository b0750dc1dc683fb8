use Rattle.std.proofs.Common.{◌≡◌, ◌++◌, take, drop, option_map}
use Rattle.imap_stream.specs.LiteralMarks.{before_space}
use Rattle.imap_stream.proofs.marks.first_word.Given as goal

abbrev pub invariant-loop-place : goal.invariant-loop-place
invariant-loop-place l = before_space l.line ≡ option_map (λ word. take l.place l.line ++ word) (before_space (drop l.place l.line))
