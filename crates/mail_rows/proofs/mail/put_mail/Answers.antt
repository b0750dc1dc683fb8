use Rattle.std.proofs.Common.{◌+◌, ◌∙◌, ◌++◌, List, length, ap, sym}
use Rattle.verb_core.specs.declared.mailbox.Entry.{Entry}
use Rattle.mail_rows.specs.Mail.{numbered}
use Rattle.mail_rows.proofs.MailLaws.{put_all-numbered}
use Rattle.mail_rows.proofs.KeyPlaces.{put_rises}
use Rattle.mail_rows.proofs.mail.put_mail.Goals as goal

pub from_parts-requires : goal.from_parts-requires
from_parts-requires c =
    put_rises c.into_parts-list.result.0.items c.joined-list.result.0.items c.as_slice.result.now c.args.mail.now c.args.mailbox.now.next c.into_parts-list.result.1 c.rise_on-in_order.result
    c.into_parts-list.ensures.order c.as_slice.ensures.value c.rise_on-in_order.ensures c.joined-list.ensures.list

pub returns-clause-mailbox : goal.returns-clause-mailbox
returns-clause-mailbox c =
    (λ j. record {
      next = c.args.mailbox.now.next + length c.args.mail.now;
      entries = (c.from_parts.ensures ∙ c.joined-list.ensures.list ∙ ap (λ (xs : List Entry). xs ++ numbered c.args.mailbox.now.next c.args.mail.now) (c.into_parts-list.ensures.list ∙ c.take_entries.ensures.list)) j;
    })
    ∙ sym (put_all-numbered c.args.mail.now c.args.mailbox.now)
