use Rattle.std.proofs.Common.{◌≡◌, ◌++◌, drop}
use Rattle.imap_text.specs.Answers.{expunge_from}
use Rattle.imap_text.proofs.expunge.render_expunge.Given as goal

abbrev pub invariant-loop-gone : goal.invariant-loop-gone
invariant-loop-gone l = l.out ++ expunge_from l.gone (drop l.gone l.places) ≡ expunge_from 0 l.places
