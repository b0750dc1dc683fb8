use Rattle.std.proofs.Common.{sym, ◌∙◌}
use Rattle.verb_core.specs.declared.mailbox.Entry.{Entry}
use Rattle.imap_view.specs.Views.{is_message}
use Rattle.imap_view.proofs.Order.{found_yes, found_no, find_gap}
use Rattle.imap_view.proofs.Views.{no_entry, uid_of_message}
use Rattle.imap_view.proofs.messages.find_entry.Goals as goal

pub returns-then-is_message : goal.returns-then-is_message
returns-then-is_message c =
    found_yes (λ (e : Entry). e.uid) (is_message c.args.known) c.args.known.uid (uid_of_message c.args.known) c.args.entries.now c.requires c.in-Ok.place no_entry
    c.in-Ok.ensures.bound c.in-Ok.ensures.place (sym c.is_message.ensures ∙ c.if-is_message.true)

pub returns-else-is_message : goal.returns-else-is_message
returns-else-is_message c =
    found_no (λ (e : Entry). e.uid) (is_message c.args.known) c.args.known.uid (uid_of_message c.args.known) c.args.entries.now c.requires c.in-Ok.place no_entry
    c.in-Ok.ensures.bound c.in-Ok.ensures.place (sym c.is_message.ensures ∙ c.if-is_message.false)

pub returns-in-Err : goal.returns-in-Err
returns-in-Err c = sym (find_gap (λ (e : Entry). e.uid) (is_message c.args.known) c.args.known.uid (uid_of_message c.args.known) c.args.entries.now c.requires c.in-Err.field-0 c.in-Err.ensures.place)
