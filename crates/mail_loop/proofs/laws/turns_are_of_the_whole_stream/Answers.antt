use Rattle.std.proofs.Common.{ap}
use Rattle.imap_stream.specs.Commands.{Heard, emptied}
use Rattle.imap_stream.proofs.Whole.{heard_more}
use Rattle.mail_loop.proofs.laws.turns_are_of_the_whole_stream.Goals as goal

pub returns-clause-said : goal.returns-clause-said
returns-clause-said c stream bytes = ap (λ (h : Heard). h.said) (heard_more stream bytes)

pub returns-clause-rest : goal.returns-clause-rest
returns-clause-rest c stream bytes = ap emptied (heard_more stream bytes)
