use Rattle.std.proofs.Common.{ap, refl, subst, sym, ◌∙◌}
use Rattle.mail_loop.specs.declared.out.Out.{Out}
use Rattle.mail_loop.specs.Session.{took}
use Rattle.mail_loop.specs.ImapTurn.{imap_speech, took_by}
use Rattle.mail_loop.specs.Took.{AsksAs, GoesOn}
use Rattle.mail_loop.proofs.Commands.{asks_as_of, goes_on_of, home_stays}
use Rattle.mail_loop.proofs.speaks.ImapSessionSpeaks.take_texts.Goals as goal

pub returns-clause-ok : goal.returns-clause-ok
returns-clause-ok c = ap took_by c.in_ok-out.ensures.ok ∙ ap (λ (o : Out). took o c.read.new.self) (sym c.of_imap.ensures)

pub returns-clause-next : goal.returns-clause-next
returns-clause-next c =
    let e = c.read.new.self in
    subst (λ (o : Out). GoesOn imap_speech c.args.texts.now o e) (sym c.of_imap.ensures)
    (goes_on_of c.args.self.now e c.args.texts.now c.in_ok-out.out c.requires c.in_ok-out.ensures.ok)

pub returns-clause-user : goal.returns-clause-user
returns-clause-user c =
    let e = c.read.new.self in
    subst (λ (o : Out). AsksAs imap_speech o e) (sym c.of_imap.ensures) (asks_as_of c.in_ok-out.out e c.in_ok-out.ensures.user)

pub returns-clause-home : goal.returns-clause-home
returns-clause-home c house home = home_stays house house c.args.self.now c.read.new.self refl c.read.ensures.stays home
