use Rattle.std.proofs.Common.{length, ◌≡◌, subst}
use Rattle.pop_session.specs.Dialog as pop
use Rattle.store_kept.specs.Kept.{store_of}
use Rattle.mail_loop.specs.Session.{size_in}
use Rattle.cost_laws.specs.Reads.{IsFewTexts, in_view}
use Rattle.cost_laws.proofs.Wanting.{IfRead, imap_few, pop_few}
use Rattle.cost_laws.proofs.reads.commands_read_few_texts.Goals as goal

pub returns-clause-imap : goal.returns-clause-imap
returns-clause-imap c = λ kept d next bodies is. subst (IfRead (IsFewTexts (size_in kept) (in_view d.selected))) is (imap_few kept d next)

pub returns-clause-pop : goal.returns-clause-pop
returns-clause-pop c = λ users kept d line bodies is.
    subst (IfRead (λ bodies. length bodies ≡ 1)) is (pop_few (pop.turn kept.house (store_of kept) kept.stamps (size_in kept) users d line).out)
