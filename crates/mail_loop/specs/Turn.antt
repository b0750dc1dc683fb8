-- A turn of a connection, whatever it speaks: a unit of its stream, as a line or a command, and all that follows from it for the connection.
use Rattle.std.specs.Prelude.{ℕ, List, [], Option, None, Some}
use Rattle.verb_core.specs.declared.mailbox.BoxId.{BoxId}
use Rattle.store_kept.specs.Kept.{Kept}
use Rattle.verb_bytes.specs.declared.journal.JournalRecord.{JournalRecord}
use Rattle.desk_journal.specs.Reading.{Reads}
use Rattle.mail_loop.specs.TurnCounts.{TurnCounts, none_counted}

-- What a turn says, what is kept after it, the dialog after it, or none where the connection is closed, and the mailboxes that it took away. The
-- record whose sealing failed, where one did: serving ends then. Whether it could not read a text or was given another, and in how many writes it
-- found no memory.
pub record Turn (D : Type 0) : Type 0 where
  pub said : List ℕ
  pub kept : Kept
  pub dialog : Option D
  pub gone : List BoxId
  pub unsealed : List JournalRecord
  pub counts : TurnCounts

-- something is said, or nothing, and the dialog goes on
abbrev pub says : {D : Type 0} → List ℕ → Kept → D → Turn D
says said kept d = record { said = said; kept = kept; dialog = Some d; gone = []; unsealed = []; counts = none_counted }

-- something is said for the last time
abbrev pub ends : {D : Type 0} → List ℕ → Kept → Turn D
ends said kept = record { said = said; kept = kept; dialog = None; gone = []; unsealed = []; counts = none_counted }

-- no memory was found for a unit: it is lost, and the connection closes
abbrev pub lost : {D : Type 0} → Kept → Turn D
lost kept = ends [] kept

-- no memory was found for the answer to what was asked: the connection closes without it
abbrev pub unanswered : {D : Type 0} → Turn D → Turn D
unanswered t = record t { said = []; dialog = None }

-- the same turn, for which texts were read so
abbrev pub reading : {D : Type 0} → Reads → Turn D → Turn D
reading reads t = record t { counts = record { reads = reads; out_of_memory = t.counts.out_of_memory } }
