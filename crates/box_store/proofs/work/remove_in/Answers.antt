use Rattle.std.proofs.Common.{[], ◌∷◌}
use Rattle.verb_core.specs.Mailboxes.{with_entries}
use Rattle.verb_core.specs.Mailboxes.{without as left_out}
use Rattle.mail_rows.proofs.PlaceLaws.{placed, gapped, row_changed, change_missing}
use Rattle.box_store.proofs.work.remove_in.Goals as goal

pub returns-in-Ok : goal.returns-in-Ok
returns-in-Ok c =
    row_changed c.args.mailbox.now c.args.rows.now.items c.in-Ok.at (with_entries (left_out (c.args.key ∷ []))) c.index_mut.result.now c.remove.new.mailbox
    (placed c.args.mailbox.now.user c.bytes.result.now c.args.mailbox.now.name c.as_slice.result.now c.args.rows.now.items c.in-Ok.at c.bytes.ensures.value c.as_slice.ensures.value c.in-Ok.ensures.found)
    c.requires c.index_mut.ensures.value c.remove.ensures

pub returns-in_default : goal.returns-in_default
returns-in_default c =
    change_missing c.args.mailbox.now c.args.rows.now.items c.in_default.field-0
    (gapped c.args.mailbox.now.user c.bytes.result.now c.args.mailbox.now.name c.as_slice.result.now c.args.rows.now.items c.in_default.field-0 c.bytes.ensures.value c.as_slice.ensures.value c.in_default.ensures.missing)
    (with_entries (left_out (c.args.key ∷ []))) c.requires
