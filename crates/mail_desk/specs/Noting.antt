-- Where the texts of a timeline lie after a cycle.
use Rattle.std.specs.Prelude.{◌≡◌, ℕ, ◌<◌, true, IsTrue, List, length, get_or, is_some, filter_map, Option, Some, None, if◌then◌else◌, option_map, option_and_then}
use Rattle.std.specs.List.{Contains}
use Rattle.std.specs.Option.{option_or}
use Rattle.verb_core.specs.declared.item.Item.{Item}
use Rattle.verb_core.specs.declared.mailbox.Body.{Body}
use Rattle.verb_core.specs.Deeds.{is_notice}
use Rattle.verb_core.specs.Items.{text_in}
use Rattle.store_kept.specs.Kept.{BaseTexts}
use Rattle.store_kept.specs.Texts.{text_with}
use Rattle.seal_log.specs.declared.place.Place.{Place}
use Rattle.shelf.specs.declared.note.Note.{Note}
use Rattle.shelf.specs.Notes.{note_of, size_of}
use Rattle.mail_desk.specs.declared.noting.Fresh.{Fresh}
use Rattle.mail_desk.specs.Timeline.{body_of, notice_text_of}

-- the note of a notice's text, which no record holds: the place of its cycle's record
abbrev pub notice_note : Place → List ℕ → Note
notice_note place text = record { place = place; from = 0; length = length text }

-- Where the text of a body lies after a cycle: where it lay before, or else in the cycle's own record, or else it is a notice's.
abbrev pub renoted : List (Body × Note) → Fresh → BaseTexts → List Item → Body → Option Note
renoted old fresh texts t body =
    option_and_then (λ (text : List ℕ).
    option_or (note_of old body) (option_or (note_of fresh.shelf.notes body) (option_map (notice_note fresh.place) (notice_text_of t body)))) (text_with texts t body)

-- ---- the rows of which a shelf is made

-- the note of the text that an item brings
abbrev pub note_by : List (Body × Note) → Fresh → Item → List ℕ → Option Note
note_by old fresh i text = option_or (note_of old (body_of i)) (option_or (note_of fresh.shelf.notes (body_of i)) (if is_notice i.deed then Some (notice_note fresh.place text) else None))

-- its body with the note
abbrev pub noted_by : List (Body × Note) → Fresh → Item → Option (Body × Note)
noted_by old fresh i = option_and_then (λ (text : List ℕ). option_map (λ (note : Note). (body_of i, note)) (note_by old fresh i text)) (text_in i.deed)

-- those of all items that bring a text
abbrev pub rows_by : List (Body × Note) → Fresh → List Item → List (Body × Note)
rows_by old fresh t = filter_map (noted_by old fresh) t

-- the bodies of the texts that come with a base, each with the note that it had
abbrev pub rows_before : List (Body × Note) → BaseTexts → List (Body × Note)
rows_before old texts = filter_map (λ (r : Body × List ℕ). option_map (λ (note : Note). (r.0, note)) (note_of old r.0)) texts

-- such a text had a note of its length
abbrev pub IsNotedBefore : List (Body × Note) → Body × List ℕ → Type 0
IsNotedBefore old r = size_of old r.0 ≡ Some (length r.1)

-- an item's text has a note, of its length
abbrev pub IsNotedBy : List (Body × Note) → Fresh → Item → Type 0
IsNotedBy old fresh i = option_map (λ (row : Body × Note). row.1.length) (noted_by old fresh i) ≡ option_map length (text_in i.deed)

-- the text of an item has a note, where it brings one
abbrev pub IsNotedIn : List (Body × Note) → Item → Type 0
IsNotedIn notes i = IsTrue (is_some (text_in i.deed)) → IsTrue (is_some (note_of notes (body_of i)))

-- a shelf has the notes of the first so many rows, and none that no row tells
pub record Knows (notes : List (Body × Note)) (rows : List (Body × Note)) (count : ℕ) : Type 0 where
  pub told : (body : Body) (note : Note) → note_of notes body ≡ Some note → Contains rows (body, note)
  pub noted : (place : ℕ) (d : Body × Note) → place < count → is_some (note_of notes (get_or rows place d).0) ≡ true
