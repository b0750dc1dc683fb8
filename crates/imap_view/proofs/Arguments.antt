-- Worked rows: which mailbox an argument names, where names may have superiors and where they may not.
use Rattle.std.proofs.Common.{◌≡◌, true, false, codes, None, Some, refl}
use Rattle.imap_view.specs.Names.{made_mailbox_of, mailbox_of}

inbox_alone : mailbox_of false (codes "inBox") ≡ Some (codes "INBOX")
inbox_alone = refl

inbox_alone_where_deep : mailbox_of true (codes "inBox") ≡ Some (codes "INBOX")
inbox_alone_where_deep = refl

inbox_first : mailbox_of true (codes "inBox/Inbox") ≡ Some (codes "INBOX/Inbox")
inbox_first = refl

inbox_first_where_flat : mailbox_of false (codes "inbox/x") ≡ Some (codes "inbox/x")
inbox_first_where_flat = refl

inbox_later : mailbox_of true (codes "a/inbox") ≡ Some (codes "a/inbox")
inbox_later = refl

inbox_and_more : mailbox_of true (codes "inboxes/x") ≡ Some (codes "inboxes/x")
inbox_and_more = refl

made_without_slash : made_mailbox_of true (codes "Work/2005/") ≡ Some (codes "Work/2005")
made_without_slash = refl

made_without_one_slash : made_mailbox_of true (codes "a//") ≡ Some (codes "a/")
made_without_one_slash = refl

made_inbox : made_mailbox_of true (codes "inbox/") ≡ Some (codes "INBOX")
made_inbox = refl

made_of_slash_alone : made_mailbox_of true (codes "/") ≡ None
made_of_slash_alone = refl

made_where_flat : made_mailbox_of false (codes "Work/") ≡ Some (codes "Work/")
made_where_flat = refl
