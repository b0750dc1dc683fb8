use Rattle.imap_stream.proofs.Joining.{Joined}
use Rattle.imap_stream.proofs.picks.join.Given as goal

abbrev pub invariant-loop-span : goal.invariant-loop-span
invariant-loop-span l = Joined l.spans l.span-index l.places l.next l.count
