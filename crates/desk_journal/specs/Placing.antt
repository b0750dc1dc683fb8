-- The texts that a cycle brings, noted in its own record.
use Rattle.std.specs.Prelude.{◌≡◌, ◌≢◌, ℕ, List, ◌∷◌, map, Option, Some, None}
use Rattle.std.specs.List.{AllByRecursion, filter_map}
use Rattle.verb_core.specs.declared.item.Act.{Act}
use Rattle.verb_core.specs.declared.item.Deed.TheVariants.{Act as Acts}
use Rattle.verb_core.specs.declared.mailbox.Body.{Body}
use Rattle.verb_core.specs.Items.{text_in}
use Rattle.verb_bytes.specs.declared.places.TextPlace.{TextPlace}
use Rattle.seal_log.specs.declared.place.Place.{Place}
use Rattle.shelf.specs.declared.note.Note.{Note}
use Rattle.shelf.specs.Notes.{NotesOnly, note_of}
use Rattle.repair_desk.specs.Repairs.{inserted, text_asked}
use Rattle.desk_journal.specs.Stored.{HasNote, LiesIn}

-- the texts that rows of new texts have, and those that acts give
abbrev pub texts_replacing : List (ℕ × List ℕ) → List (List ℕ)
texts_replacing replaces = map (λ (r : ℕ × List ℕ). r.1) replaces

abbrev pub texts_given : List Act → List (List ℕ)
texts_given acts = filter_map (λ (a : Act). text_in (Acts a)) acts

-- the note of a text of the record at a place
abbrev pub note_at : Place → TextPlace → Note
note_at place spot = record { place = place; from = spot.from; length = spot.length }

-- the first of the places that are left is noted of a body, and the others are left
pub record TakesFirst (place : Place) (body : Body) (spots rest : List TextPlace) (old new : List (Body × Note)) : Type 0 where
  pub spot : TextPlace
  pub is : spots ≡ spot ∷ rest
  pub notes : NotesOnly old new body (note_at place spot)

-- so is that of the text that an act gives, where it gives one
abbrev pub TakesGiven : Place → Body → Option (List ℕ) → List TextPlace → List TextPlace → List (Body × Note) → List (Body × Note) → Type 0
TakesGiven place body None spots rest old new = (rest ≡ spots) × (new ≡ old)
TakesGiven place body (Some text) spots rest old new = TakesFirst place body spots rest old new

-- each text that is asked for lies in a record of these bytes at a place, as it is noted
abbrev pub ReplacedLie : ℕ → List (ℕ × List ℕ) → Place → List ℕ → List (Body × Note) → Type 0
ReplacedLie c replaces place bytes notes = (number : ℕ) (text : List ℕ) → text_asked replaces number ≡ Some text
    → (note : Note) × (note_of notes (record { origin = number; rev = c }) ≡ Some note) × LiesIn place bytes note text

-- so does each text that acts give, noted of the act's item
abbrev pub GivenLie : ℕ → ℕ → List Act → Place → List ℕ → List (Body × Note) → Type 0
GivenLie c at acts place bytes notes = AllByRecursion (HasNote c (LiesIn place bytes) notes) (inserted c at acts)

-- the notes of bodies that have been replaced stay
abbrev pub KeepsReplaced : List (Body × Note) → List (Body × Note) → Type 0
KeepsReplaced old new = (body : Body) → body.rev ≢ 0 → note_of new body ≡ note_of old body
