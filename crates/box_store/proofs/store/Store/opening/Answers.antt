use Rattle.std.proofs.Common.{List, sym, subst, IsTrue, ap}
use Rattle.verb_core.specs.declared.mailbox.BoxId.{BoxId}
use Rattle.verb_core.specs.declared.mailbox.Mailbox.{Mailbox}
use Rattle.verb_core.specs.Boxes.{is_rising}
use Rattle.verb_core.specs.Store.{IsValid}
use Rattle.mail_rows.specs.Confs.{Held}
use Rattle.box_store.proofs.store.Store.opening.Goals as goal

pub returns-clause-valid : goal.returns-clause-valid
returns-clause-valid c =
    subst IsValid (sym (λ j. record { house = c.in_ok-house.ensures j; conf = (ap (λ (h : Held). h.conf) c.new.ensures) j; boxes = c.in_ok-rows.ensures j }))
    (c.steps_keep_validity.ensures.opening c.args.house.now c.args.conf c.requires.house c.requires.aliases)

pub invariant_of-result : goal.invariant_of-result
invariant_of-result c =
    subst (λ (rows : List (BoxId × Mailbox)). IsTrue (is_rising rows)) (sym c.in_ok-rows.ensures)
    (c.steps_keep_validity.ensures.opening c.args.house.now c.args.conf c.requires.house c.requires.aliases).rising
