use Rattle.std.proofs.Common.{◌∙◌, List, ap, ap₂}
use Rattle.undo_base.specs.declared.keys.Key.{Key}
use Rattle.verb_core.specs.declared.mailbox.BoxId.{BoxId}
use Rattle.verb_core.specs.Boxes.{box_of, change_row}
use Rattle.verb_core.specs.Mailboxes.{reflagged, with_entries}
use Rattle.mail_rows.specs.declared.change.FlagChange.{FlagChange}
use Rattle.mail_rows.specs.Mail.{all_flags_set}
use Rattle.mail_rows.specs.Changes.{changes_from}
use Rattle.box_store.proofs.Plans.{flags_do}
use Rattle.box_store.proofs.plan.flags_work.Goals as goal

pub returns : goal.returns
returns c = λ boxes rising whole same.
    let id : BoxId = box_of c.args.user c.args.mailbox.now in
    let set : List Key = c.in_ok-keys.keys in
    ap₂ (λ (q : BoxId) (changes : List FlagChange). change_row q (with_entries (all_flags_set changes)) boxes) c.in_ok-mailbox.ensures (c.in_ok-flags.ensures ∙ ap (changes_from 0 set c.args.how c.args.given) c.view_of.ensures)
    ∙ flags_do set c.as_slice.result.now c.in_ok-keys.ensures c.args.how c.args.given id c.args.rows.now boxes rising same
    ∙ ap (λ (keys : List Key). change_row id (with_entries (reflagged keys c.args.how c.args.given)) boxes) c.as_slice.ensures
