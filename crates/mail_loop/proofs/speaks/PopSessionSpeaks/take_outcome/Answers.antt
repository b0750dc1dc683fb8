use Rattle.std.proofs.Common.{ap, subst, sym, ◌∙◌}
use Rattle.mail_loop.specs.declared.out.Out.{Out}
use Rattle.mail_loop.specs.Session.{took}
use Rattle.mail_loop.specs.PopTurn.{pop_speech, took_by}
use Rattle.mail_loop.specs.Took.{AsksAs, IsAwaitedLast}
use Rattle.mail_loop.proofs.PopTurns.{asks_as_of, awaited_last, none_read_after}
use Rattle.mail_loop.proofs.speaks.PopSessionSpeaks.take_outcome.Goals as goal

pub of_pop_told-requires : goal.of_pop_told-requires
of_pop_told-requires c = none_read_after c.args.self.now c.done.new.self c.args.outcome.now c.in_ok-out.out c.requires.due c.in_ok-out.ensures.ok

pub returns-clause-ok : goal.returns-clause-ok
returns-clause-ok c = ap took_by c.in_ok-out.ensures.ok ∙ ap (λ (o : Out). took o c.done.new.self) (sym c.of_pop_told.ensures)

pub returns-clause-next : goal.returns-clause-next
returns-clause-next c =
    let e = c.done.new.self in
    let out = c.in_ok-out.out in
    subst (λ (o : Out). IsAwaitedLast pop_speech o e) (sym c.of_pop_told.ensures)
    (awaited_last out e (none_read_after c.args.self.now e c.args.outcome.now out c.requires.due c.in_ok-out.ensures.ok) c.in_ok-out.ensures.next)

pub returns-clause-user : goal.returns-clause-user
returns-clause-user c =
    let e = c.done.new.self in
    subst (λ (o : Out). AsksAs pop_speech o e) (sym c.of_pop_told.ensures) (asks_as_of c.in_ok-out.out e c.in_ok-out.ensures.user)
