use Rattle.std.proofs.Common.{ap, subst, sym, ◌∙◌}
use Rattle.pop_session.specs.Dialog as session
use Rattle.mail_loop.specs.declared.out.Out.{Out}
use Rattle.mail_loop.specs.Session.{took}
use Rattle.mail_loop.specs.PopTurn.{pop_speech, took_by}
use Rattle.mail_loop.specs.Took.{AsksAs, GoesOn}
use Rattle.mail_loop.proofs.PopTurns.{asks_as_of, goes_on_of, none_read_of}
use Rattle.mail_loop.proofs.speaks.PopSessionSpeaks.take_texts.Goals as goal

pub of_pop_told-requires : goal.of_pop_told-requires
of_pop_told-requires c = none_read_of c.args.self.now c.read.new.self c.in_ok-text.text c.in_ok-out.out c.requires c.in_ok-out.ensures.ok

pub returns-clause-ok : goal.returns-clause-ok
returns-clause-ok c =
    ap took_by (ap (session.heard c.args.self.now) (sym c.in_ok-text.ensures) ∙ c.in_ok-out.ensures.ok) ∙ ap (λ (o : Out). took o c.read.new.self) (sym c.of_pop_told.ensures)

pub returns-clause-next : goal.returns-clause-next
returns-clause-next c =
    let e = c.read.new.self in
    subst (λ (o : Out). GoesOn pop_speech c.args.texts.now o e) (sym c.of_pop_told.ensures)
    (goes_on_of c.args.self.now e c.args.texts.now c.in_ok-out.out c.requires (ap (session.heard c.args.self.now) (sym c.in_ok-text.ensures) ∙ c.in_ok-out.ensures.ok))

pub returns-clause-user : goal.returns-clause-user
returns-clause-user c =
    let e = c.read.new.self in
    subst (λ (o : Out). AsksAs pop_speech o e) (sym c.of_pop_told.ensures) (asks_as_of c.in_ok-out.out e c.in_ok-out.ensures.user)
