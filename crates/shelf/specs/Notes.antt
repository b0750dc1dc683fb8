-- What a shelf knows of bodies.
use Rattle.std.specs.Prelude.{◌≡◌, ℕ, ◌+◌, ◌≤◌, ◌==◌, ◌&&◌, Bool, List, [], ◌∷◌, Option, Some, None, option_map, slice_range, if◌then◌else◌}
use Rattle.seal_log.specs.declared.place.Place.{Place}
use Rattle.verb_core.specs.declared.mailbox.Body.{Body}
use Rattle.shelf.specs.declared.note.Note.{Note}

-- A shelf: each body that was noted with its last note, and room for so many notes more. And the snapshots that are kept, each by
-- its position with where it lies, and room for so many more of them.
pub record Noted : Type 0 where
  pub notes : List (Body × Note)
  pub room : ℕ
  pub marks : List (ℕ × Place)
  pub keeps : ℕ

abbrev pub same_body : Body → Body → Bool
same_body a b = (a.origin == b.origin) && (a.rev == b.rev)

-- the note of a body, where there is one
abbrev pub note_of : List (Body × Note) → Body → Option Note
note_of [] body = None
note_of (row ∷ rows) body = if same_body row.0 body then Some row.1 else note_of rows body

-- how many bytes a body has, where it was noted
abbrev pub size_of : List (Body × Note) → Body → Option ℕ
size_of rows body = option_map (λ note. note.length) (note_of rows body)

-- one body has the note, and each other what it had
abbrev pub NotesOnly : List (Body × Note) → List (Body × Note) → Body → Note → Type 0
NotesOnly old new body note = (other : Body) → note_of new other ≡ (if same_body body other then Some note else note_of old other)

-- ---- texts in a journal

-- the payload of a note lies before a gate, and the text lies in the payload
pub record LiesBefore (gate : ℕ) (note : Note) : Type 0 where
  pub place : note.place.gate + 5 + note.place.length ≤ gate
  pub range : note.from + note.length ≤ note.place.length

-- there is a note, and it lies before a gate
abbrev pub IsNotedBefore : ℕ → Option Note → Type 0
IsNotedBefore gate None = ⊥
IsNotedBefore gate (Some note) = LiesBefore gate note

-- the text of a note in its payload
abbrev pub noted_text : Note → List ℕ → List ℕ
noted_text note payload = slice_range payload note.from (note.from + note.length)
