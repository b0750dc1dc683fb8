-- What a shelf knows of snapshots: where each lies, by the position in the timeline at which it was taken.
use Rattle.std.specs.Prelude.{ℕ, ◌<◌, ◌-◌, ⊤, nat_le, nat_lt, List, [], ◌∷◌, ◌++◌, length, filter, Option, slice_get}
use Rattle.std.specs.List.{AllByRecursion}
use Rattle.seal_log.specs.declared.place.Place.{Place}

-- the positions of snapshots strictly rise
abbrev pub MarksRise : List (ℕ × Place) → Type 0
MarksRise [] = ⊤
MarksRise (mark ∷ marks) = AllByRecursion (λ m. mark.0 < m.0) marks × MarksRise marks

-- the snapshots that are not behind a position
abbrev pub marks_at_or_before : ℕ → List (ℕ × Place) → List (ℕ × Place)
marks_at_or_before position marks = filter (λ m. nat_le m.0 position) marks

-- with a snapshot at a position, in place of one that was there
abbrev pub with_mark : ℕ → Place → List (ℕ × Place) → List (ℕ × Place)
with_mark position place marks = filter (λ m. nat_lt m.0 position) marks ++ (position, place) ∷ filter (λ m. nat_lt position m.0) marks

-- the last one
abbrev pub newest : List (ℕ × Place) → Option (ℕ × Place)
newest marks = slice_get marks (length marks - 1)
