-- How a shelf keeps its notes: in the order in which the bodies came to be.
use Rattle.std.specs.Prelude.{◌≡◌, ℕ, ◌<◌, ◌≤◌, List, length, max, get_or}
use Rattle.std.specs.Ordering.{nat_cmp, ordering_then}
use Rattle.std.specs.declared.cmp.Ordering.{Ordering}
use Rattle.std.specs.declared.cmp.Ordering.TheVariants.{Less, Equal, Greater}
use Rattle.verb_core.specs.declared.mailbox.Body.{Body}
use Rattle.shelf.specs.declared.note.Note.{Note}

-- the item or cycle that made a body comes first, so that a new body comes after those before it
abbrev pub made : Body → ℕ × ℕ × ℕ
made body = (max body.origin body.rev, body.origin, body.rev)

abbrev pub made_order : ℕ × ℕ × ℕ → ℕ × ℕ × ℕ → Ordering
made_order a b = ordering_then (ordering_then (nat_cmp a.0 b.0) (nat_cmp a.1 b.1)) (nat_cmp a.2 b.2)

unfoldable pub body_order : Body → Body → Ordering
body_order a b = made_order (made a) (made b)

-- the bodies rise, so that none comes twice
abbrev pub IsRising : List (Body × Note) → Type 0
IsRising rows = (i j : ℕ) (d : Body × Note) → i < j → j < length rows → body_order (get_or rows i d).0 (get_or rows j d).0 ≡ Less

-- the row at a place has the body
pub record IsAt (rows : List (Body × Note)) (body : Body) (place : ℕ) : Type 0 where
  pub within : place < length rows
  pub equal : (d : Body × Note) → body_order (get_or rows place d).0 body ≡ Equal

-- no row has the body: it would go to this place
pub record IsGapFor (rows : List (Body × Note)) (body : Body) (place : ℕ) : Type 0 where
  pub within : place ≤ length rows
  pub before : (j : ℕ) (d : Body × Note) → j < place → body_order (get_or rows j d).0 body ≡ Less
  pub after : (j : ℕ) (d : Body × Note) → place ≤ j → j < length rows → body_order (get_or rows j d).0 body ≡ Greater
