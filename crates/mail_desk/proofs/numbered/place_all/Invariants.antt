use Rattle.std.proofs.Common.{◌≡◌, ◌+◌, ◌≤◌, ◌++◌, length, vec_len, vec_capacity}
use Rattle.mail_desk.specs.Places.{HasPlaces}
use Rattle.mail_desk.proofs.numbered.place_all.Given as goal

-- the items so far and those that are left are all of them, with room for what is left
abbrev pub invariant-loop-item : goal.invariant-loop-item
invariant-loop-item l = record {
  items : l.items.items ++ l.item-iterator.rest.items ≡ l.initial.items.items ++ l.fn.more;
  room : vec_len l.items + length l.item-iterator.rest.items ≤ vec_capacity l.items;
  rows : vec_len l.places + length l.item-iterator.rest.items ≤ vec_capacity l.places;
  places : HasPlaces l.initial.places.items l.initial.items.items (length l.initial.items.items) → HasPlaces l.places.items l.items.items (length l.items.items);
}
