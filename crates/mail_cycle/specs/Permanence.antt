-- What an IMAP client may rely on that keeps mail by UID (RFC 3501, section 2.3.1.1): what lasts from one moment of a store to a
-- later one.
--
-- `UidsLast` speaks of stamps below the earlier next number only: a stamp at or above it was given later, and nothing was known
-- of it.
--
-- A message as a client knows it has its key beside its text, so that two messages of one text are not taken for one.
use Rattle.std.specs.Prelude.{◌≡◌, ℕ, ◌<◌, ◌≤◌, true, List, Some}
use Rattle.verb_core.specs.declared.mailbox.Body.{Body}
use Rattle.verb_core.specs.declared.mailbox.BoxId.{BoxId}
use Rattle.verb_core.specs.declared.mailbox.Mailbox.{Mailbox}
use Rattle.store_kept.specs.Kept.{Kept, mailbox_at, stamp_at}
use Rattle.store_kept.specs.Texts.{text_at_hand, text_kept}
use Rattle.repair_desk.specs.Renewals.{extends_one}

-- a mailbox with a stamp that was given before had it then, and extends the one of then
abbrev pub StampsLast : Kept → Kept → Type 0
StampsLast old new = (id : BoxId) (stamp : ℕ) (m : Mailbox) → stamp < old.next → stamp_at new id ≡ Some stamp → mailbox_at new id ≡ Some m →
    (stamp_at old id ≡ Some stamp) × (extends_one (mailbox_at old id) m ≡ true)

-- A body whose number and rev were given before has the text that it had then. A text that a cycle takes away is at hand while the
-- cycle can be withdrawn, and comes back if it is.
abbrev pub TextsLast : Kept → Kept → Type 0
TextsLast old new = (body : Body) (text : List ℕ) → body.origin < old.next → body.rev < old.next → text_at_hand new body ≡ Some text →
    text_at_hand old body ≡ Some text

-- the next number has not fallen, and stamps and texts last
pub record UidsLast (old new : Kept) : Type 0 where
  pub next : old.next ≤ new.next
  pub stamps : StampsLast old new
  pub texts : TextsLast old new

-- A body that has a text, and whose number and rev were given before, had it then. A withdrawal alone lets a text come back that was
-- taken away.
abbrev pub TextsStay : Kept → Kept → Type 0
TextsStay old new = (body : Body) (text : List ℕ) → body.origin < old.next → body.rev < old.next → text_kept new body ≡ Some text →
    text_kept old body ≡ Some text

-- what a client knows lasts, and no text comes back
abbrev pub UidsStay : Kept → Kept → Type 0
UidsStay old new = UidsLast old new × TextsStay old new
