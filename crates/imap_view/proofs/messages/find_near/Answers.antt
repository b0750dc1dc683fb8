use Rattle.std.proofs.Common.{sym, ◌∙◌}
use Rattle.verb_core.specs.declared.mailbox.Entry.{Entry}
use Rattle.imap_view.specs.Views.{is_message}
use Rattle.imap_view.proofs.Order.{found_there}
use Rattle.imap_view.proofs.Views.{no_entry, uid_of_message}
use Rattle.imap_view.proofs.messages.find_near.Goals as goal

pub returns-then-is_message : goal.returns-then-is_message
returns-then-is_message c =
    found_there (λ (e : Entry). e.uid) (is_message c.args.known) c.args.known.uid (uid_of_message c.args.known) c.args.entries.now c.requires c.args.place no_entry
    c.if-place-entries.true (sym c.is_message.ensures ∙ c.if-is_message.true)
