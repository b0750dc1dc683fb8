-- What contracts see of a desk.
use Rattle.std.specs.Prelude.{ℕ, ◌<◌, ◌-◌, ◌^◌, List, map}
use Rattle.box_store.specs.Kept.{Kept as StoreHeld}
use Rattle.verb_core.specs.declared.mailbox.Body.{Body}
use Rattle.store_kept.specs.Kept.{Kept, Marks}
use Rattle.seal_log.specs.declared.place.Place.{Place}
use Rattle.shelf.specs.declared.note.Note.{Note}

-- the store with the room that it has; room for so many items, notes, reports and places of snapshots more
pub record Room : Type 0 where
  pub store : StoreHeld
  pub items : ℕ
  pub notes : ℕ
  pub reports : ℕ
  pub marks : ℕ

-- what is kept, with whole items; where each text lies; where each snapshot lies, by how many items it was taken after; and beside
-- them the room that was made
pub record Held : Type 0 where
  pub kept : Kept
  pub notes : List (Body × Note)
  pub marks : List (ℕ × Place)
  pub room : Room

-- what is known of the snapshots that lie there
abbrev pub marks_kept : ℕ → ℕ → List (ℕ × Place) → Marks
marks_kept since taken marks = record { since = since; taken = taken; places = map (λ (m : ℕ × Place). m.0) marks }

-- the most snapshots that are counted
abbrev pub most_taken : ℕ
most_taken = 2 ^ 64 - 1

-- there is room for the place of a snapshot, and it can be counted
pub record CanMark (held : Held) : Type 0 where
  pub room : 0 < held.room.marks
  pub left : held.kept.marks.taken < most_taken
