-- Worked rows.
use Rattle.std.proofs.Common.{◌≡◌, ℕ, List, [], ◌∷◌, Some, None, refl}
use Rattle.seal_log.specs.declared.place.Place.{Place}
use Rattle.shelf.specs.Marks.{marks_at_or_before, newest}
use Rattle.store_kept.specs.Kept.{newest_at}

-- at a snapshot's own place, between two, behind all, before all
own_place : newest_at 5 (2 ∷ 5 ∷ 7 ∷ []) ≡ 5
own_place = refl

between_two : newest_at 6 (2 ∷ 5 ∷ 7 ∷ []) ≡ 5
between_two = refl

behind_all : newest_at 9 (2 ∷ 5 ∷ 7 ∷ []) ≡ 7
behind_all = refl

before_all : newest_at 1 (2 ∷ 5 ∷ 7 ∷ []) ≡ 0
before_all = refl

-- ---- of marks

-- three snapshots, after two, five and seven items
abbrev three : List (ℕ × Place)
three = (2, record { gate = 10; length = 3 }) ∷ (5, record { gate = 20; length = 3 }) ∷ (7, record { gate = 30; length = 3 }) ∷ []

mark_between : newest (marks_at_or_before 6 three) ≡ Some (5, record { gate = 20; length = 3 })
mark_between = refl

mark_at_its_place : newest (marks_at_or_before 7 three) ≡ Some (7, record { gate = 30; length = 3 })
mark_at_its_place = refl

no_mark_before : newest (marks_at_or_before 1 three) ≡ None
no_mark_before = refl
