-- What a deed that brings mailboxes, takes one out or changes names makes of the stamps.
use Rattle.std.specs.Prelude.{◌≡◌, ℕ, ◌+◌, ◌≤◌, nat_lt, Bool, false, ◌||◌, List, [], ◌∷◌, ◌++◌, map, length, bytes_eq, Option, Some, None, vec_capacity, if◌then◌else◌}
use Rattle.std.specs.Ordering.{eq_by_cmp, is_gt}
use Rattle.undo_base.specs.declared.keys.User.{User}
use Rattle.verb_core.specs.declared.item.Deed.{Deed}
use Rattle.verb_core.specs.declared.item.Deed.TheVariants.{Create, Rename, Delete}
use Rattle.verb_core.specs.declared.item.Way.{Way}
use Rattle.verb_core.specs.declared.item.Way.TheVariants.{Plain, NoSource, Merged}
use Rattle.verb_core.specs.declared.mailbox.BoxId.{BoxId}
use Rattle.verb_core.specs.Names.{inbox, is_fixed, superiors, with_superiors}
use Rattle.verb_core.specs.Boxes.{box_cmp, box_of, has_inferior, has_row, add_row, drop_row}
use Rattle.verb_core.specs.Step.{Boxes, way_of}
use Rattle.box_store.specs.Plans.{moves_of}
use Rattle.mail_desk.specs.declared.restamp.StampChange.{StampChange}
use Rattle.mail_desk.specs.declared.restamp.StampChange.TheVariants.{Made, Put, Gone, Moved}
use Rattle.mail_desk.specs.declared.restamp.StampChanges.{StampChanges}

abbrev pub StampRows : Type 0
StampRows = List (BoxId × ℕ)

-- whether a row stands before that of a mailbox
abbrev pub stands_before : BoxId → BoxId × ℕ → Bool
stands_before id r = is_gt (box_cmp id r.0)

-- whether the first row is the mailbox's
abbrev pub begins_with : BoxId → StampRows → Bool
begins_with id [] = false
begins_with id (r ∷ rs) = eq_by_cmp box_cmp id r.0

-- whether a row is a later user's
abbrev pub is_later : User → BoxId × ℕ → Bool
is_later u r = nat_lt u.0 r.0.user.0

-- ---- changes

-- what becomes of one stamp of a user, by the item of a number
abbrev pub changed : ℕ → User → StampChange → StampRows → StampRows
changed number u (Made name) stamps = if has_row (box_of u name) stamps then stamps else add_row (box_of u name) number stamps
changed number u (Put name) stamps = add_row (box_of u name) number stamps
changed number u (Gone name) stamps = drop_row (box_of u name) stamps
changed number u (Moved m) stamps = if has_row (box_of u m.from) stamps then add_row (box_of u m.to) number (drop_row (box_of u m.from) stamps) else stamps

-- and of some, one after the other
abbrev pub all_changed : ℕ → User → List StampChange → StampRows → StampRows
all_changed number u [] stamps = stamps
all_changed number u (c ∷ cs) stamps = all_changed number u cs (changed number u c stamps)

-- the stamps where they are changed
abbrev pub restamped : Option StampChanges → StampRows → StampRows
restamped None stamps = stamps
restamped (Some changes) stamps = all_changed changes.number changes.user changes.list.items stamps

-- there is an empty list with room for so many stamps and those that come
abbrev pub HasSpare : Option StampChanges → ℕ → Type 0
HasSpare None count = Unit {0}
HasSpare (Some changes) count = (changes.spare.items ≡ []) × (count + length changes.list.items ≤ vec_capacity changes.spare)

-- ---- by deeds

-- where a mailbox is left: INBOX stays, and one that has an inferior
abbrev pub changes_left : User → List ℕ → Boxes → List StampChange
changes_left u source boxes = if bytes_eq source inbox || has_inferior u source boxes then [] else Gone source ∷ []

-- where a mailbox has a new name, below superiors that are there
abbrev pub changes_named : User → List ℕ → List ℕ → Boxes → List StampChange
changes_named u source target boxes = if bytes_eq source inbox then Put target ∷ [] else map Moved (moves_of u source target boxes)

-- where a RENAME goes a way
abbrev pub changes_renamed : Way → User → List ℕ → List ℕ → Boxes → List StampChange
changes_renamed NoSource u source target boxes = []
changes_renamed Plain u source target boxes = map Made (superiors target) ++ changes_named u source target boxes
changes_renamed Merged u source target boxes = changes_left u source boxes

-- after an item
abbrev pub changes_by : User → Deed → Boxes → List StampChange
changes_by u (Create mailbox) boxes = if has_row (box_of u mailbox) boxes then [] else map Made (with_superiors mailbox)
changes_by u (Rename source target) boxes = changes_renamed (way_of u source target boxes) u source target boxes
changes_by u (Delete mailbox keys) boxes = if is_fixed mailbox then [] else changes_left u mailbox boxes
changes_by u _ boxes = []
