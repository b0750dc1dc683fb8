use Rattle.std.proofs.Common.{not, sym, ap, ◌∙◌}
use Rattle.imap_view.specs.declared.messages.Known.{Known}
use Rattle.imap_view.specs.Views.{is_message}
use Rattle.imap_view.proofs.Order.{any_at, any_past}
use Rattle.imap_view.proofs.Views.{no_message, uid_of_entry}
use Rattle.imap_view.proofs.messages.is_new.Goals as goal

pub returns-then-at-view : goal.returns-then-at-view
returns-then-at-view c =
    ap not (c.is_message.ensures ∙ sym (any_at (λ (k : Known). k.uid) (λ (k : Known). is_message k c.args.entry.now) c.args.entry.now.uid (uid_of_entry c.args.entry.now) c.args.view.now c.requires.order c.args.at c.requires.below no_message
    c.if-at-view.true (c.requires.reached no_message c.if-at-view.true)))

pub returns : goal.returns
returns c =
    sym (ap not (any_past (λ (k : Known). k.uid) (λ (k : Known). is_message k c.args.entry.now) c.args.entry.now.uid (uid_of_entry c.args.entry.now) c.args.view.now c.requires.order c.args.at c.requires.below c.if-at-view.false))
