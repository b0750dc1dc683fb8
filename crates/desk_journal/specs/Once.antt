-- The keys that users have, in their order.
use Rattle.std.specs.Prelude.{◌&&◌, Bool, count_by, nat_le, List, map, flat_map}
use Rattle.std.specs.List.{list_all}
use Rattle.std.specs.declared.cmp.Ordering.{Ordering}
use Rattle.std.specs.Ordering.{is_lt, nat_cmp, ordering_then}
use Rattle.undo_base.specs.declared.keys.Key.{Key}
use Rattle.undo_base.specs.declared.keys.User.{User}
use Rattle.verb_core.specs.declared.mailbox.BoxId.{BoxId}
use Rattle.verb_core.specs.declared.mailbox.Entry.{Entry}
use Rattle.verb_core.specs.declared.mailbox.Mailbox.{Mailbox}
use Rattle.verb_core.specs.Boxes.{same_user}
use Rattle.verb_core.specs.KeyOrder.{key_cmp}
use Rattle.verb_core.specs.Mailboxes.{same_key}

-- by user, and then by key
abbrev pub held_cmp : User × Key → User × Key → Ordering
held_cmp a b = ordering_then (nat_cmp a.0.0 b.0.0) (key_cmp a.1 b.1)

abbrev pub comes_before : User × Key → User × Key → Bool
comes_before a b = is_lt (held_cmp a b)

-- the keys in a mailbox, each with its user, and those in all
abbrev pub keys_of_row : BoxId × Mailbox → List (User × Key)
keys_of_row r = map (λ (e : Entry). (r.0.user, e.key)) r.1.entries

abbrev pub keys_held : List (BoxId × Mailbox) → List (User × Key)
keys_held rows = flat_map keys_of_row rows

-- whether two are the same
abbrev pub same_held : User × Key → User × Key → Bool
same_held a b = same_user a.0 b.0 && same_key a.1 b.1

-- whether each is there once
abbrev pub each_once : List (User × Key) → Bool
each_once keys = list_all (λ (k : User × Key). nat_le (count_by (same_held k) keys) 1) keys
