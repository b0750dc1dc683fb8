-- Where the texts of what is kept lie in the journal.
use Rattle.std.specs.Prelude.{◌≡◌, ◌≤◌, ◌+◌, ◌==◌, ◌&&◌, ℕ, Bool, false, List, length, take, find, [], Option, Some, None, is_some, if◌then◌else◌}
use Rattle.std.specs.List.{AllByRecursion}
use Rattle.std.specs.Option.{option_map_or}
use Rattle.undo_outside.specs.Disk.{DiskTold}
use Rattle.verb_core.specs.Items.{text_in}
use Rattle.verb_core.specs.declared.item.Item.{Item}
use Rattle.verb_core.specs.declared.mailbox.Body.{Body}
use Rattle.verb_bytes.specs.declared.journal.CycleAsk.{CycleAsk}
use Rattle.verb_core.specs.Step.{run}
use Rattle.verb_core.specs.Store.{MailStore}
use Rattle.verb_bytes.specs.declared.journal.JournalRecord.{JournalRecord}
use Rattle.verb_bytes.specs.declared.journal.JournalRecord.TheVariants.{Cycle, Snapshot}
use Rattle.verb_bytes.specs.Spelling.{HasSpelling, record_bytes}
use Rattle.repair_desk.specs.Repairs.{inserted, text_asked}
use Rattle.seal_log.specs.Journal.{LiesAt}
use Rattle.seal_log.specs.Settled.{Holds, IsSettled}
use Rattle.seal_log.specs.declared.place.Place.{Place}
use Rattle.shelf.specs.Notes.{LiesBefore, note_of, noted_text}
use Rattle.shelf.specs.declared.note.Note.{Note}
use Rattle.mail_desk.specs.Held.{Held}
use Rattle.mail_desk.specs.Noting.{renoted}
use Rattle.mail_desk.specs.declared.noting.Fresh.{Fresh}
use Rattle.mail_desk.specs.Timeline.{body_of}
use Rattle.store_kept.specs.Coming.{HasUndoneTexts}
use Rattle.store_kept.specs.Kept.{BaseTexts, IsRun, Kept}
use Rattle.store_kept.specs.Texts.{is_in_memory, items_asked, text_before}
use Rattle.desk_journal.specs.Lasting.{Lasting}
use Rattle.desk_journal.specs.Permanence.{RevsBelow}

-- the text that an item has in a record, where this journal draws numbers from a first one on: none where it is in memory
abbrev pub recorded_in : ℕ → Item → Option (List ℕ)
recorded_in first i = if is_in_memory first i then None else text_in i.deed

-- the item among these that brings the text of a body: the first of its number and rev that has one
abbrev pub item_with : List Item → Body → Option Item
item_with t body = find (λ (i : Item). (i.number == body.origin) && (i.rev == body.rev) && is_some (text_in i.deed)) t

-- the text of a body that a record has: that of the one of these items that brings it, where it is not in memory, or else that of
-- the base
abbrev pub recorded_of : Kept → List Item → Body → Option (List ℕ)
recorded_of kept t body = option_map_or (recorded_in kept.first) (item_with t body) (text_before kept.texts body)

-- whether a record has one
abbrev pub is_recorded : Kept → List Item → Body → Bool
is_recorded kept t body = is_some (recorded_of kept t body)

-- ---- one text

-- the note tells of as many bytes as the text has, of a payload that lies before a gate
pub record IsBefore (gate : ℕ) (note : Note) (text : List ℕ) : Type 0 where
  pub lies : LiesBefore gate note
  pub size : note.length ≡ length text

-- the bytes that the note tells of are the text, in a journal of these payloads
pub record IsStored (payloads : List (List ℕ)) (note : Note) (text : List ℕ) : Type 0 where
  pub payload : List ℕ
  pub lies : LiesAt payloads note.place.gate note.place.length payload
  pub bytes : noted_text note payload ≡ text

-- ---- the texts of a timeline

-- the text that an item has in a record is noted, and so
abbrev pub HasNote : ℕ → (Note → List ℕ → Type 0) → List (Body × Note) → Item → Type 0
HasNote first P notes i = (text : List ℕ) → recorded_in first i ≡ Some text → (note : Note) × (note_of notes (body_of i) ≡ Some note) × P note text

-- each is noted as lying before a gate
abbrev pub NotedBefore : ℕ → ℕ → List (Body × Note) → List Item → Type 0
NotedBefore first gate notes timeline = AllByRecursion (HasNote first (IsBefore gate) notes) timeline

-- each lies where it is noted, in a journal of these payloads
abbrev pub TextsLie : ℕ → List (List ℕ) → List (Body × Note) → List Item → Type 0
TextsLie first payloads notes timeline = AllByRecursion (HasNote first (IsStored payloads) notes) timeline

-- ---- the texts of what is kept, as long as they may be asked for

-- a text that comes with the base is noted, and so
abbrev pub BaseHasNote : (Note → List ℕ → Type 0) → List (Body × Note) → Body × List ℕ → Type 0
BaseHasNote P notes r = (note : Note) × (note_of notes r.0 ≡ Some note) × P note r.1

-- each text that a record has is noted, and so: those of the items that may be asked for, and those that come with the base
pub record AllNoted (first : ℕ) (P : Note → List ℕ → Type 0) (notes : List (Body × Note)) (texts : BaseTexts) (asked : List Item) : Type 0 where
  pub items : AllByRecursion (HasNote first P notes) asked
  pub base : AllByRecursion (BaseHasNote P notes) texts

abbrev pub TextsNoted : ℕ → List (Body × Note) → Kept → Type 0
TextsNoted gate notes kept = AllNoted kept.first (IsBefore gate) notes kept.texts (items_asked kept)

abbrev pub TextsStored : List (List ℕ) → List (Body × Note) → Kept → Type 0
TextsStored payloads notes kept = AllNoted kept.first (IsStored payloads) notes kept.texts (items_asked kept)

-- ---- the snapshots

-- the store that so many of the first items in force left
abbrev pub store_at : Kept → ℕ → MailStore
store_at kept count = run kept.base (take count kept.timeline)

abbrev pub snapshot_at : Kept → ℕ → JournalRecord
snapshot_at kept count = Snapshot count (store_at kept count).conf (store_at kept count).boxes

-- a snapshot is marked: so many items are in force, and the store that they left lies there, in a journal of these payloads
pub record MarkLies (payloads : List (List ℕ)) (kept : Kept) (mark : ℕ × Place) : Type 0 where
  pub within : mark.0 ≤ length kept.timeline
  pub spelled : HasSpelling (snapshot_at kept mark.0)
  pub lies : LiesAt payloads mark.1.gate mark.1.length (record_bytes (snapshot_at kept mark.0))

-- each that is marked lies so
abbrev pub MarksLie : List (List ℕ) → Kept → List (ℕ × Place) → Type 0
MarksLie payloads kept marks = AllByRecursion (MarkLies payloads kept) marks

-- each is marked in a payload that lies before a gate
abbrev pub MarkedBefore : ℕ → List (ℕ × Place) → Type 0
MarkedBefore gate marks = AllByRecursion (λ (m : ℕ × Place). m.1.gate + 5 + m.1.length ≤ gate) marks

-- each text that may be asked for, and each snapshot, is noted as lying before a gate
pub record AreNoted (gate : ℕ) (held : Held) : Type 0 where
  pub noted : TextsNoted gate held.notes held.kept
  pub marked : MarkedBefore gate held.marks

-- ---- an item

-- What becomes of the notes when a record is performed whose bytes lie at a place before a gate: if each text was noted so,
-- each is.
pub record NotesTexts (gate : ℕ) (place : Place) (bytes : List ℕ) (old new : Held) : Type 0 where
  pub before : TextsNoted gate old.notes old.kept → TextsNoted gate new.notes new.kept
  pub lie : (payloads : List (List ℕ)) → LiesAt payloads place.gate place.length bytes → TextsStored payloads old.notes old.kept
      → TextsStored payloads new.notes new.kept

-- What becomes of the marks when a record is performed whose bytes lie at a place before a gate: if each snapshot lay where it was
-- marked, each does.
pub record KeepsMarks (gate : ℕ) (place : Place) (bytes : List ℕ) (old new : Held) : Type 0 where
  pub before : MarkedBefore gate old.marks → MarkedBefore gate new.marks
  pub lie : (payloads : List (List ℕ)) → LiesAt payloads place.gate place.length bytes → IsRun old.kept → MarksLie payloads old.kept old.marks
      → MarksLie payloads new.kept new.marks

-- ---- a cycle

-- the note tells of the text, in a payload of these bytes at a place
pub record LiesIn (place : Place) (bytes : List ℕ) (note : Note) (text : List ℕ) : Type 0 where
  pub place_is : note.place ≡ place
  pub size : note.length ≡ length text
  pub within : note.from + note.length ≤ length bytes
  pub is : noted_text note bytes ≡ text

-- Where the texts lie that the cycle c brings at a moment: in its own record, of these bytes.
pub record IsFresh (c at : ℕ) (ask : CycleAsk) (place : Place) (bytes : List ℕ) (fresh : Fresh) : Type 0 where
  pub place_is : fresh.place ≡ place
  pub replaced : (number : ℕ) (text : List ℕ) → text_asked ask.replaces number ≡ Some text
      → (note : Note) × (note_of fresh.shelf.notes (record { origin = number; rev = c }) ≡ Some note) × LiesIn place bytes note text
  pub given : AllByRecursion (HasNote c (LiesIn place bytes) fresh.shelf.notes) (inserted c at ask.inserts)

-- each text of the timeline, and each that comes with the base, lies where it lay before the cycle, or in the cycle's own record, or is
-- a notice's
abbrev pub Renotes : List (Body × Note) → Fresh → BaseTexts → List Item → List (Body × Note) → Type 0
Renotes old fresh texts timeline new = (body : Body) → note_of new body ≡ renoted old fresh texts timeline body

-- the same where the record at a place brings none
abbrev pub NotesNone : Place → List (Body × Note) → BaseTexts → List Item → List (Body × Note) → Type 0
NotesNone place old texts timeline new = (fresh : Fresh) × (fresh.place ≡ place) × (fresh.shelf.notes ≡ []) × Renotes old fresh texts timeline new

-- the same of the cycle c at a moment, where its record lies at a place
abbrev pub NotesCycle : ℕ → ℕ → CycleAsk → Place → List (Body × Note) → BaseTexts → List Item → List (Body × Note) → Type 0
NotesCycle c at ask place old texts timeline new =
    (fresh : Fresh) × IsFresh c at ask place (record_bytes (Cycle c at ask)) fresh × Renotes old fresh texts timeline new

-- ---- the disk

-- Each image of the disk begins with these payloads. In them each text that may be asked for lies where it is noted, and each
-- snapshot where it is marked. What is read is what was stored, the store is what the items in force leave, and what can come back
-- has its texts still. So the disk is honest.
pub record TextsHeld (disk : DiskTold) (payloads : List (List ℕ)) (kept : Kept) (notes : List (Body × Note)) (snapshots : List (ℕ × Place)) : Type 0 where
  pub held : Holds disk payloads
  pub lie : TextsStored payloads notes kept
  pub revs : RevsBelow kept
  pub back : HasUndoneTexts kept
  pub runs : IsRun kept
  pub marks : MarksLie payloads kept snapshots

-- the disk holds the texts, and it is settled behind their payloads
pub record SettledTexts (disk : DiskTold) (gate : ℕ) (kept : Kept) (notes : List (Body × Note)) (marks : List (ℕ × Place)) : Type 0 where
  pub payloads : List (List ℕ)
  pub texts : TextsHeld disk payloads kept notes marks
  pub settled : IsSettled disk gate payloads

-- the disk holds the texts of a desk, and while the desk is open it is settled behind their payloads
pub record HoldsTexts {D : Type 0} (told : D → DiskTold) (desk : Lasting D) : Type 0 where
  pub payloads : List (List ℕ)
  pub texts : TextsHeld (told desk.disk) payloads desk.kept desk.notes desk.marks
  pub settled : desk.closed ≡ false → IsSettled (told desk.disk) desk.gate payloads
