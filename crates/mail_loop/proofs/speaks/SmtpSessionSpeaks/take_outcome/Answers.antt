use Rattle.std.proofs.Common.{ap, subst, sym, ◌∙◌}
use Rattle.mail_loop.specs.declared.out.Out.{Out}
use Rattle.mail_loop.specs.Session.{took}
use Rattle.mail_loop.specs.SmtpTurn.{of_smtp, smtp_speech, took_by}
use Rattle.mail_loop.specs.Took.{AsksAs, IsAwaitedLast}
use Rattle.mail_loop.proofs.Dialogs.{asks_answered, awaited_answered}
use Rattle.mail_loop.proofs.SmtpTurns.{answered_after, free_after}
use Rattle.mail_loop.proofs.speaks.SmtpSessionSpeaks.take_outcome.Goals as goal

pub returns-clause-ok : goal.returns-clause-ok
returns-clause-ok c = ap took_by c.in_ok-out.ensures.ok ∙ ap (λ (o : Out). took o c.done.new.self) (sym c.of_smtp.ensures)

pub returns-clause-next : goal.returns-clause-next
returns-clause-next c =
    let e = c.done.new.self in
    let out = c.in_ok-out.out in
    subst (λ (o : Out). IsAwaitedLast smtp_speech o e) (sym c.of_smtp.ensures)
    (awaited_answered smtp_speech (of_smtp out) e (answered_after c.args.self.now e c.args.outcome.now out c.in_ok-out.ensures.ok) (free_after c.args.self.now e c.args.outcome.now out c.in_ok-out.ensures.ok))

pub returns-clause-user : goal.returns-clause-user
returns-clause-user c =
    let e = c.done.new.self in
    let out = c.in_ok-out.out in
    subst (λ (o : Out). AsksAs smtp_speech o e) (sym c.of_smtp.ensures) (asks_answered smtp_speech (of_smtp out) e (answered_after c.args.self.now e c.args.outcome.now out c.in_ok-out.ensures.ok))
