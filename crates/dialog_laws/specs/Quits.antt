-- What a QUIT that was answered leaves.
use Rattle.std.specs.Prelude.{◌≡◌, false, List, Some}
use Rattle.std.specs.Ordering.{eq_by_cmp}
use Rattle.undo_base.specs.declared.keys.Key.{Key}
use Rattle.undo_base.specs.declared.keys.User.{User}
use Rattle.verb_core.specs.declared.mailbox.BoxId.{BoxId}
use Rattle.verb_core.specs.Boxes.{box_cmp, box_of, row_at}
use Rattle.verb_core.specs.Live.{mail_of}
use Rattle.verb_core.specs.Mailboxes.{without}
use Rattle.verb_core.specs.Names.{inbox}
use Rattle.verb_core.specs.Store.{MailStore}

-- from one store to the other a user's INBOX lost the messages with these keys, those that were there, and no other, and every other mailbox is as it was
pub record OnlyGone (u : User) (keys : List Key) (s t : MailStore) : Type 0 where
  pub gone : mail_of t (Some u) inbox ≡ without keys (mail_of s (Some u) inbox)
  pub others : (id : BoxId) → eq_by_cmp box_cmp (box_of u inbox) id ≡ false → row_at id t.boxes ≡ row_at id s.boxes
