use Rattle.std.proofs.Common.{◌≡◌, [], unwrap_or, ap, subst, sym, ◌∙◌}
use Rattle.verb_core.specs.declared.item.Item.{Item}
use Rattle.verb_core.specs.Items.{IsWellFormed, text_in}
use Rattle.mail_desk.specs.Entering.{CanEnter}
use Rattle.mail_desk.specs.Held.{Held}
use Rattle.store_kept.specs.Kept.{store_of}
use Rattle.mail_desk.proofs.Readied.{entered_as}
use Rattle.mail_desk.proofs.desk.Desk.ready_item.Goals as goal

pub make_ready-requires-clause-formed : goal.make_ready-requires-clause-formed
make_ready-requires-clause-formed c = subst (λ (i : Item). IsWellFormed c.args.self.now.kept.house i) (sym c.in-Ok.ensures) c.requires.formed

pub make_ready-requires-clause-number : goal.make_ready-requires-clause-number
make_ready-requires-clause-number c = ap (λ (i : Item). i.number) c.in-Ok.ensures ∙ c.requires.number

pub make_ready-requires-clause-alike : goal.make_ready-requires-clause-alike
make_ready-requires-clause-alike c =
    c.stored_items_do_alike.ensures.with_own (store_of c.args.self.now.kept) c.in-Ok.stored c.text_bytes.result.now
    (c.text_bytes.ensures ∙ ap (λ (i : Item). unwrap_or (text_in i.deed) []) (sym c.in-Ok.ensures))

pub returns-in-Ok-make_ready-clause-ready : goal.returns-in-Ok-make_ready-clause-ready
returns-in-Ok-make_ready-clause-ready c = entered_as c.args.item c.in-Ok.stored c.in-Ok-make_ready.made c.make_ready.new.self c.in-Ok.ensures c.in-Ok-make_ready.ensures.ready
