use Rattle.std.proofs.Common.{ap, refl, subst, sym, ◌∙◌}
use Rattle.mail_loop.specs.declared.out.Out.{Out}
use Rattle.mail_loop.specs.Session.{took}
use Rattle.mail_loop.specs.ImapTurn.{imap_speech, of_imap, took_by}
use Rattle.mail_loop.specs.Took.{AsksAs, IsAwaitedLast}
use Rattle.mail_loop.proofs.Commands.{answered_after, home_stays}
use Rattle.mail_loop.proofs.Dialogs.{asks_answered, awaited_answered}
use Rattle.mail_loop.proofs.speaks.ImapSessionSpeaks.take_outcome.Goals as goal

pub returns-clause-ok : goal.returns-clause-ok
returns-clause-ok c = ap took_by c.in_ok-out.ensures.ok ∙ ap (λ (o : Out). took o c.done.new.self) (sym c.of_imap.ensures)

pub returns-clause-home : goal.returns-clause-home
returns-clause-home c house home = home_stays house house c.args.self.now c.done.new.self refl c.done.ensures.stays home

pub returns-clause-next : goal.returns-clause-next
returns-clause-next c =
    let e = c.done.new.self in
    let out = c.in_ok-out.out in
    subst (λ (o : Out). IsAwaitedLast imap_speech o e) (sym c.of_imap.ensures)
    (awaited_answered imap_speech (of_imap out) e (answered_after c.args.store.now.store c.args.stamps.now c.args.self.now e c.args.outcome.now out c.in_ok-out.ensures.ok) c.in_ok-out.ensures.free)

pub returns-clause-user : goal.returns-clause-user
returns-clause-user c =
    let e = c.done.new.self in
    let out = c.in_ok-out.out in
    subst (λ (o : Out). AsksAs imap_speech o e) (sym c.of_imap.ensures)
    (asks_answered imap_speech (of_imap out) e (answered_after c.args.store.now.store c.args.stamps.now c.args.self.now e c.args.outcome.now out c.in_ok-out.ensures.ok))
