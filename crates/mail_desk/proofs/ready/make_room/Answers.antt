use Rattle.std.proofs.Common.{◌≡◌, IfOk, ap, subst, ◌∙◌}
use Rattle.verb_core.specs.declared.item.Item.{Item}
use Rattle.verb_core.specs.declared.item.Shown.{Shown}
use Rattle.verb_core.specs.Store.{MailStore}
use Rattle.stored_items.specs.Stored.{step_text}
use Rattle.box_store.specs.Effects.{applied}
use Rattle.mail_desk.proofs.ready.make_room.Goals as goal

pub returns-clause-does : goal.returns-clause-does
returns-clause-does c =
    let s = c.args.store.now.store in
    let text = c.args.text.now in
    subst (λ (after : MailStore × Shown). IfOk c.ready_effect.result (λ e. applied e s ≡ after.0))
    (ap (λ (i : Item). step_text s i text) c.item.ensures ∙ c.stored_items_do_alike.ensures.without s c.args.item.now text) c.ready_effect.ensures.store

pub returns-clause-shows : goal.returns-clause-shows
returns-clause-shows c =
    let s = c.args.store.now.store in
    let text = c.args.text.now in
    subst (λ (after : MailStore × Shown). IfOk c.ready_effect.result (λ e. e.shown ≡ after.1))
    (ap (λ (i : Item). step_text s i text) c.item.ensures ∙ c.stored_items_do_alike.ensures.without s c.args.item.now text) c.ready_effect.ensures.shown
