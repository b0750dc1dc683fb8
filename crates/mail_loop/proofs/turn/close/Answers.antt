use Rattle.std.proofs.Common.{ap, ◌∙◌}
use Rattle.mail_loop.specs.Session.{is_home}
use Rattle.mail_loop.proofs.Dialogs.{opening_home}
use Rattle.mail_loop.proofs.turn.close.Goals as goal

pub returns-clause-free : goal.returns-clause-free
returns-clause-free g c = ap g.S.Speaks.speech.is_free c.end.ensures ∙ g.S.Speaks.speech.opens_free

pub returns-clause-home : goal.returns-clause-home
returns-clause-home g c house = ap (λ d. is_home g.S.Speaks.speech house d) c.end.ensures ∙ opening_home g.S.Speaks.speech house
