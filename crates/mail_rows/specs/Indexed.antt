-- What looking up by key gives.
use Rattle.std.specs.Prelude.{◌≡◌, ◌<◌, ℕ, Bool, false, not, List, length, slice_index_or, Option, Some, None, is_some, option_map, filter, filter_map, map, if◌then◌else◌}
use Rattle.std.specs.List.{list_any}
use Rattle.std.specs.Map.{lookup}
use Rattle.undo_base.specs.declared.keys.Key.{Key}
use Rattle.verb_core.specs.declared.mailbox.Entry.{Entry}
use Rattle.verb_core.specs.declared.item.Sight.{Sight}
use Rattle.verb_core.specs.Mailboxes.{same_key, is_among, entry_of}

-- what stands beside a key
abbrev pub found_at : List (Key × Entry) → Key → Option Entry
found_at index key = lookup (same_key key) index

-- each entry beside its key
abbrev pub beside_keys : List Entry → List (Key × Entry)
beside_keys entries = map (λ (e : Entry). (e.key, e)) entries

-- the place of the entry of a key, or none
abbrev pub IsKeyPlace : Key → List Entry → Option ℕ → Type 0
IsKeyPlace key entries None = list_any (λ (e : Entry). same_key key e.key) entries ≡ false
IsKeyPlace key entries (Some place) = (place < length entries) × ((d : Entry) → (slice_index_or entries place d).key ≡ key)

-- the entry of a key, where the key is one of those that are asked for
abbrev pub indexed : List Key → List Entry → Key → Option Entry
indexed keys entries key = if is_among keys key then entry_of entries key else None

-- whether the entry lacks `\Deleted`
abbrev pub no_deleted : Entry → Bool
no_deleted e = not e.flags.deleted

-- the keys beside which something stands
abbrev pub there_by : List (Key × Entry) → List Key → List Key
there_by index keys = filter (λ key. is_some (found_at index key)) keys

-- a key with the rev of the body beside it
abbrev pub sight_at : List (Key × Entry) → Key → Option Sight
sight_at index key = option_map (λ (e : Entry). record { key = key; rev = e.body.rev }) (found_at index key)

abbrev pub sights_by : List (Key × Entry) → List Key → List Sight
sights_by index keys = filter_map (sight_at index) keys
