-- The fields that are asked for and the others, together.
use Rattle.std.proofs.Common.{◌≡◌, ℕ, Bool, true, false, List, [], ◌∷◌, filter, refl}
use Rattle.mail_sections.specs.Sections.{is_listed, is_wanted}
use Rattle.mail_sections.specs.Laws.{Parts}
use Rattle.mail_sections.specs.Laws.Parts.{neither, one, other}

parted_step : (names : List (List ℕ)) (field : List ℕ) (fields : List (List ℕ)) (t : Bool) → is_listed names field ≡ t
    → Parts fields (filter (is_wanted true names) fields) (filter (is_wanted false names) fields)
    → Parts (field ∷ fields) (filter (is_wanted true names) (field ∷ fields)) (filter (is_wanted false names) (field ∷ fields))
parted_step names field fields true e p = rw e (one field p)
parted_step names field fields false e p = rw e (other field p)

-- those that pass a test and those that don't
pub parted : (names : List (List ℕ)) (fields : List (List ℕ)) → Parts fields (filter (is_wanted true names) fields) (filter (is_wanted false names) fields)
parted names [] = neither
parted names (field ∷ fields) = parted_step names field fields (is_listed names field) refl (parted names fields)
