use Rattle.std.proofs.Common.{not, sym, ap, ◌∙◌}
use Rattle.verb_core.specs.declared.mailbox.Entry.{Entry}
use Rattle.imap_view.specs.Views.{is_message}
use Rattle.imap_view.proofs.Order.{any_at, any_past}
use Rattle.imap_view.proofs.Views.{no_entry, uid_of_message}
use Rattle.imap_view.proofs.messages.is_lost.Goals as goal

pub returns-then-at-entries : goal.returns-then-at-entries
returns-then-at-entries c =
    ap not (c.is_message.ensures ∙ sym (any_at (λ (e : Entry). e.uid) (is_message c.args.known) c.args.known.uid (uid_of_message c.args.known) c.args.entries.now c.requires.order c.args.at c.requires.below no_entry
    c.if-at-entries.true (c.requires.reached no_entry c.if-at-entries.true)))

pub returns : goal.returns
returns c =
    sym (ap not (any_past (λ (e : Entry). e.uid) (is_message c.args.known) c.args.known.uid (uid_of_message c.args.known) c.args.entries.now c.requires.order c.args.at c.requires.below c.if-at-entries.false))
