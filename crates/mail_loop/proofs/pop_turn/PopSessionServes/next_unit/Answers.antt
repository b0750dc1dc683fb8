use Rattle.mail_loop.specs.State.{Pop}
use Rattle.mail_loop.specs.PopTurn.{takes}
use Rattle.mail_loop.proofs.Nexts.{line_taken, line_wanted}
use Rattle.mail_loop.proofs.pop_turn.PopSessionServes.next_unit.Goals as goal

pub returns-clause-next : goal.returns-clause-next
returns-clause-next c = line_taken Pop (λ users at kept d line. takes users kept d line) c.args.stream.now c.next.new.self c.next.result c.next.ensures.next

pub returns-clause-err : goal.returns-clause-err
returns-clause-err c = line_wanted c.args.stream.now c.next.new.self c.next.result c.next.ensures.err
