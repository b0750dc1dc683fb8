-- Where a mailbox stands among rows in order.
use Rattle.std.specs.Prelude.{◌≡◌, ℕ, suc, Bool, true, false, if◌then◌else◌, List, [], ◌∷◌, slice_get}
use Rattle.std.specs.Ordering.{is_gt, is_eq}
use Rattle.std.specs.Option.{option_map_or}
use Rattle.verb_core.specs.declared.mailbox.BoxId.{BoxId}
use Rattle.verb_core.specs.declared.mailbox.Mailbox.{Mailbox}
use Rattle.verb_core.specs.Boxes.{box_cmp}

-- how many rows lie below
abbrev pub place_in : BoxId → List (BoxId × Mailbox) → ℕ
place_in id [] = 0
place_in id (r ∷ rs) = if is_gt (box_cmp id r.0) then suc (place_in id rs) else 0

-- whether the row at a place is the mailbox's
abbrev pub stands_at : BoxId → ℕ → List (BoxId × Mailbox) → Bool
stands_at id place rs = option_map_or (λ (r : BoxId × Mailbox). is_eq (box_cmp id r.0)) (slice_get rs place) false

-- the place of the mailbox's row
pub record IsPlace (id : BoxId) (rs : List (BoxId × Mailbox)) (place : ℕ) : Type 0 where
  pub at : place ≡ place_in id rs
  pub there : stands_at id place rs ≡ true

-- the place where the row of a mailbox would stand that has none
pub record IsGap (id : BoxId) (rs : List (BoxId × Mailbox)) (place : ℕ) : Type 0 where
  pub at : place ≡ place_in id rs
  pub missing : stands_at id place rs ≡ false
