-- What is kept agrees on a user's mail.
use Rattle.std.specs.Prelude.{◌≡◌, Bool, true, false, not, ◌&&◌, bytes_eq, List, ℕ, Option, Some, None, IsTrue, if◌then◌else◌}
use Rattle.undo_base.specs.declared.keys.User.{User}
use Rattle.verb_core.specs.declared.conf.House.{House}
use Rattle.verb_core.specs.declared.mailbox.Body.{Body}
use Rattle.verb_core.specs.Boxes.{rows_of}
use Rattle.verb_core.specs.Store.{is_known}
use Rattle.store_kept.specs.Kept.{Kept, store_of}
use Rattle.store_kept.specs.Texts.{all_bodies, text_kept}
use Rattle.mail_desk.specs.Desk.{IsDesk}
use Rattle.desk_journal.specs.Stored.{is_recorded}

-- two texts are the same, or there is none of both
abbrev pub is_same_text : Option (List ℕ) → Option (List ℕ) → Bool
is_same_text (Some a) (Some b) = bytes_eq a b
is_same_text None None = true
is_same_text _ _ = false

-- both hold, or none
abbrev pub is_same : Bool → Bool → Bool
is_same a b = if a then b else not b

-- of a body both keep the same text, and both have it in a record or both in memory
abbrev pub is_alike : Kept → Kept → Body → Bool
is_alike k l body = is_same_text (text_kept k body) (text_kept l body) && is_same (is_recorded k k.timeline body) (is_recorded l l.timeline body)

-- Two stores in use of a house agree on one of its users: that user's mailboxes and their stamps are the same, and so are the texts of all that lies there. And what is
-- shared by design is the same: the house, the next number, and whether names may have superiors. Of other users' mailboxes, of the items in force,
-- of the configuration, the reports and the snapshots nothing is said.
pub record Agree (house : House) (u : User) (k l : Kept) : Type 0 where
  pub one : IsDesk k
  pub other : IsDesk l
  pub one_house : k.house ≡ house
  pub other_house : l.house ≡ house
  pub known : IsTrue (is_known house u)
  pub boxes : rows_of u (store_of k).boxes ≡ rows_of u (store_of l).boxes
  pub stamps : rows_of u k.stamps ≡ rows_of u l.stamps
  pub texts : IsTrue (all_bodies (is_alike k l) (rows_of u (store_of k).boxes))
  pub next : k.next ≡ l.next
  pub deep : k.deep ≡ l.deep
