-- Where a user's rows, and the inferiors of a mailbox from its name with a `/` on, stand among rows in order: side by side.
use Rattle.std.specs.Prelude.{ℕ, ◌&&◌, ◌++◌, nat_lt, Bool, if◌then◌else◌, List, [], ◌∷◌, filter}
use Rattle.std.specs.Ordering.{is_lt}
use Rattle.undo_base.specs.declared.keys.User.{User}
use Rattle.verb_core.specs.declared.mailbox.BoxId.{BoxId}
use Rattle.verb_core.specs.declared.mailbox.Mailbox.{Mailbox}
use Rattle.verb_core.specs.Boxes.{box_cmp, box_of, same_user}
use Rattle.verb_core.specs.Names.{is_inferior}

-- whether a mailbox is a user's inferior of a name
abbrev pub is_under : User → List ℕ → BoxId → Bool
is_under u name q = same_user u q.user && is_inferior name q.name

-- whether it stands before all of these
abbrev pub stands_first : User → List ℕ → BoxId → Bool
stands_first u name q = is_lt (box_cmp q (box_of u (name ++ 47 ∷ [])))

-- the rows of the user's inferiors of a name
abbrev pub rows_under : User → List ℕ → List (BoxId × Mailbox) → List (BoxId × Mailbox)
rows_under u name rows = filter (λ r. is_under u name r.0) rows

-- whether it is an earlier user's
abbrev pub is_earlier : User → BoxId → Bool
is_earlier u q = nat_lt q.user.0 u.0

-- the rows behind those in front that pass a test
abbrev pub rows_from : (BoxId → Bool) → List (BoxId × Mailbox) → List (BoxId × Mailbox)
rows_from first [] = []
rows_from first (r ∷ rs) = if first r.0 then rows_from first rs else r ∷ rs
