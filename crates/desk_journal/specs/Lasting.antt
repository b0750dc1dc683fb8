-- What contracts see of a desk over a disk.
use Rattle.std.specs.Prelude.{◌≡◌, ℕ, Bool, List}
use Rattle.verb_core.specs.declared.mailbox.Body.{Body}
use Rattle.shelf.specs.declared.note.Note.{Note}
use Rattle.seal_log.specs.declared.place.Place.{Place}
use Rattle.seal_log.specs.declared.log.Log.{Log}
use Rattle.mail_desk.specs.Held.{Held, Room}
use Rattle.store_kept.specs.Kept.{Kept}

-- What is kept, where each text lies, and where each snapshot from which a cycle can begin, by the number of items that it holds.
-- And the room that was made; the disk, the place of the journal's last gate, and whether a write or a sync failed.
pub record Lasting (D : Type 0) : Type 0 where
  pub kept : Kept
  pub notes : List (Body × Note)
  pub marks : List (ℕ × Place)
  pub room : Room
  pub disk : D
  pub gate : ℕ
  pub closed : Bool

-- a disk, and the gate at which the journal on it ends, up to which it is read
pub record PastTold (D : Type 0) : Type 0 where
  pub disk : D
  pub end : ℕ

-- the part of it that is the journal
pub record JournalTold (D : Type 0) : Type 0 where
  pub disk : D
  pub gate : ℕ
  pub closed : Bool

-- of a disk, the end of the journal on it, and its log
abbrev pub journal_of : {D : Type 0} → PastTold D → Log → JournalTold D
journal_of past log = record { disk = past.disk; gate = past.end; closed = log.closed }

-- of a desk in memory and its journal
abbrev pub lasting : {D : Type 0} → Held → JournalTold D → Lasting D
lasting held journal = record { kept = held.kept; notes = held.notes; marks = held.marks; room = held.room; disk = journal.disk; gate = journal.gate; closed = journal.closed }

-- from old to new nothing was kept and nothing was written
pub record IsUnwritten {D : Type 0} (old new : Lasting D) : Type 0 where
  pub kept : new.kept ≡ old.kept
  pub notes : new.notes ≡ old.notes
  pub marks : new.marks ≡ old.marks
  pub disk : new.disk ≡ old.disk
  pub gate : new.gate ≡ old.gate
  pub closed : new.closed ≡ old.closed
