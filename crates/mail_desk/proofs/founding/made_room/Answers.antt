use Rattle.std.proofs.Common.{◌≡◌, IfOk, ap, subst, sym, ◌∙◌}
use Rattle.verb_core.specs.declared.item.Item.{Item}
use Rattle.verb_core.specs.declared.item.Shown.{Shown}
use Rattle.verb_core.specs.Items.{IsWellFormed}
use Rattle.verb_core.specs.Step.{step}
use Rattle.verb_core.specs.Store.{MailStore}
use Rattle.stored_items.specs.Stored.{step_text}
use Rattle.box_store.specs.Effects.{applied}
use Rattle.mail_desk.proofs.founding.made_room.Goals as goal

pub make_room-made-requires-clause-formed : goal.make_room-made-requires-clause-formed
make_room-made-requires-clause-formed c = subst (λ (i : Item). IsWellFormed c.args.store.now.store.house i) (sym c.in_ok-stored.ensures) c.requires.formed

pub returns-clause-does : goal.returns-clause-does
returns-clause-does c =
    let s = c.args.store.now.store in
    let item = c.args.item.now in
    let text = c.text_bytes-text.result.now in
    let alike : (step_text s c.in_ok-stored.stored text).0 ≡ (step s item).0 =
    ap (λ (i : Item). (step_text s i text).0) c.in_ok-stored.ensures ∙ ap (λ (after : MailStore × Shown). after.0) (c.stored_items_do_alike.ensures.with_own s item text c.text_bytes-text.ensures) in
    subst (λ (after : MailStore). IfOk c.make_room-made.result (λ e. applied e s ≡ after)) alike c.make_room-made.ensures.does
