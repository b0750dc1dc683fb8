-- Which texts a desk tells while its journal is read, and what a read leaves.
use Rattle.std.specs.Prelude.{◌≡◌, ℕ, ◌+◌, ◌<◌, ◌==◌, Bool, false, nat_le, ◌&&◌, ◌||◌, is_some, List, [], ◌∷◌, Option, None, unwrap_or, if◌then◌else◌}
use Rattle.std.specs.Option.{option_map_or, option_or}
use Rattle.undo_outside.specs.Disk.{DiskTold, ReadFailed}
use Rattle.seal_log.specs.Settled.{ReadsAlone}
use Rattle.verb_core.specs.declared.mailbox.Body.{Body}
use Rattle.verb_core.specs.Texts.{BodiesTold}
use Rattle.shelf.specs.Notes.{note_of}
use Rattle.shelf.specs.declared.note.Note.{Note}
use Rattle.repair_desk.specs.Repairs.{text_asked}
use Rattle.mail_desk.specs.Held.{Held}
use Rattle.desk_journal.specs.declared.read_texts.Reading.{Reading}
use Rattle.desk_journal.specs.Lasting.{JournalTold, PastTold}
use Rattle.desk_journal.specs.Stored.{TextsHeld, is_recorded}
use Rattle.store_kept.specs.Kept.{Kept}
use Rattle.store_kept.specs.Texts.{items_asked, text_at_hand, text_kept}

-- the text that a request asks for a body, of two the last: its cycle's number is the body's rev
abbrev pub asked_of : ℕ → List (ℕ × List ℕ) → Body → Option (List ℕ)
asked_of c replaces body = if body.rev == c then text_asked replaces body.origin else None

-- whether a note tells of a range of a payload that lies before a gate
abbrev pub is_readable : ℕ → Note → Bool
is_readable gate note = nat_le (note.place.gate + 5 + note.place.length) gate && nat_le (note.from + note.length) note.place.length

-- where the text of a body lies that one of the items brings whose texts may be asked for, or that comes with the base, where a record
-- has it
abbrev pub noted_in : Held → Body → Option Note
noted_in held body = if is_recorded held.kept (items_asked held.kept) body then note_of held.notes body else None

-- whether a body's text is asked for by the request, or can be read
abbrev pub is_told : Held → ℕ → ℕ → List (ℕ × List ℕ) → Body → Bool
is_told held gate c replaces body =
    is_some (asked_of c replaces body) || option_map_or (is_readable gate) (noted_in held body) false

-- the text that the request asks for, or else that of the items in force, or of those that can come back, or that of the base
abbrev pub text_told : Held → ℕ → List (ℕ × List ℕ) → Body → Option (List ℕ)
text_told held c replaces body = option_or (asked_of c replaces body) (text_at_hand held.kept body)

-- Texts that come of bodies: any where a record has one, and else, where it is in memory, the one that is kept.
abbrev pub with_memory : Kept → List Body → List (List ℕ) → List (List ℕ)
with_memory kept [] texts = []
with_memory kept (body ∷ bodies) [] = []
with_memory kept (body ∷ bodies) (text ∷ texts) =
    (if is_recorded kept kept.timeline body then text else unwrap_or (text_kept kept body) []) ∷ with_memory kept bodies texts

-- the disk holds the texts of what is kept in memory
abbrev pub HoldsHeld : DiskTold → Held → Type 0
HoldsHeld disk held = (payloads : List (List ℕ)) × TextsHeld disk payloads held.kept held.notes held.marks

-- of what lies before a gate nothing changed but what reading leaves of the disk
pub record IsPastRead {D : Type 0} (told : D → DiskTold) (old new : PastTold D) : Type 0 where
  pub end : new.end ≡ old.end
  pub reads : ReadsAlone (told old.disk) (told new.disk)

-- It was only read, and no more once a read failed: so many failed before, and so many after.
pub record ReadsOn {D : Type 0} (told : D → DiskTold) (old new : PastTold D) (before after : ℕ) : Type 0 where
  pub still : IsPastRead told old new
  pub well : after ≡ 0 → (before ≡ 0) × ((told new.disk).failed_reads ≡ (told old.disk).failed_reads)
  pub fails : before ≡ 0 → 0 < after → ReadFailed (told old.disk) (told new.disk)
  pub stops : 0 < before → (0 < after) × (new ≡ old)

-- of a journal nothing changed but what reading leaves of the disk
pub record IsOnlyRead {D : Type 0} (told : D → DiskTold) (old new : JournalTold D) : Type 0 where
  pub gate : new.gate ≡ old.gate
  pub closed : new.closed ≡ old.closed
  pub reads : ReadsAlone (told old.disk) (told new.disk)

-- ---- the texts of a desk that is read

-- what they tell of themselves: they are those that are stored where the disk holds them
abbrev pub reading_told : {D : Type 0} → (D → DiskTold) → Reading D → BodiesTold
reading_told told r = record {
  holds = is_told r.desk.now r.past.now.end r.cycle r.replaces.now;
  texts = text_told r.desk.now r.cycle r.replaces.now;
  honest = HoldsHeld (told r.past.now.disk) r.desk.now;
  faults = r.failed;
}

-- what they tell before anything was read, of a request that brings these texts as the cycle c
abbrev pub told_first : {D : Type 0} → (D → DiskTold) → PastTold D → Held → ℕ → List (ℕ × List ℕ) → BodiesTold
told_first told past held c replaces = record {
  holds = is_told held past.end c replaces;
  texts = text_told held c replaces;
  honest = HoldsHeld (told past.disk) held;
  faults = 0;
}

-- the disk was read, and all else is the same
pub record LeadsOn {D : Type 0} (told : D → DiskTold) (old new : Reading D) : Type 0 where
  pub past : new.past.ghost_name ≡ old.past.ghost_name
  pub desk : new.desk.now ≡ old.desk.now
  pub replaces : new.replaces.now ≡ old.replaces.now
  pub cycle : new.cycle ≡ old.cycle
  pub reads : ReadsOn told old.past.now new.past.now old.failed new.failed
