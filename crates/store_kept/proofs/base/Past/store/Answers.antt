use Rattle.std.proofs.Common.{◌≡◌, ◌∙◌, List, Err, ap, subst, true}
use Rattle.verb_core.specs.declared.mailbox.BoxId.{BoxId}
use Rattle.verb_core.specs.declared.mailbox.Mailbox.{Mailbox}
use Rattle.box_store.specs.Making.{IsRefusedAt}
use Rattle.store_kept.proofs.base.Past.store.Goals as goal

-- rows that make a store are not refused
pub unreachable-requires : goal.unreachable-requires
unreachable-requires c =
    c.rows_make_valid_stores.ensures.refused c.args.house.now c.args.self.now.rows c.in-Err-Row.field-0-0
    (subst (λ (rows : List (BoxId × Mailbox)). IsRefusedAt c.args.house.now rows c.in-Err-Row.field-0-0) c.in-Ok.ensures
    (c.from_rows.ensures.row c.in-Err-Row.field-0-0 (c.in-Err-Row.is ∙ ap (λ e. Err e) c.in-Err-Row.field-0-is)))
    c.args.self.now.conf c.requires
