-- The messages of a view that a command names, and what lies of them in the mailbox (RFC 3501, 6.4.5 and 9: sequence-set).
use Rattle.std.specs.Prelude.{ℕ, ◌+◌, Bool, List, filter_map, slice_get, is_some, Option, None, Some, option_map, option_and_then, unwrap_or, if◌then◌else◌}
use Rattle.undo_base.specs.declared.keys.Key.{Key}
use Rattle.imap_stream.specs.declared.picks.SetRange.{SetRange}
use Rattle.imap_stream.specs.Sets.{picked, refused}
use Rattle.verb_core.specs.declared.mailbox.Body.{Body}
use Rattle.verb_core.specs.declared.mailbox.Entry.{Entry}
use Rattle.imap_fetch.specs.declared.messages.Message.{Message}
use Rattle.imap_view.specs.declared.messages.Known.{Known}
use Rattle.imap_view.specs.Views.{entry_of, uids_of}

-- the places, from 0, of the messages that a set names; none where it names a number that there is not
abbrev pub places_by : List ℕ → List SetRange → Bool → Option (List ℕ)
places_by uids set by_uid = if is_some (refused by_uid set uids) then None else Some (picked set uids by_uid)

-- the places in a view
abbrev pub places_named : List Known → List SetRange → Bool → Option (List ℕ)
places_named view set by_uid = places_by (uids_of view) set by_uid

abbrev pub key_at : List Known → ℕ → Option Key
key_at view place = option_map (λ (known : Known). known.key) (slice_get view place)

-- the keys of the messages at these places, also of those that are no longer there
abbrev pub keys_at : List Known → List ℕ → List Key
keys_at view places = filter_map (key_at view) places

-- the message at a place, with its number from 1, as it lies now
abbrev pub message_at : (Body → Option ℕ) → List Entry → List Known → ℕ → Option Message
message_at sizes entries view place =
    option_map (λ (e : Entry). record { place = place + 1; entry = e; size = unwrap_or (sizes e.body) 0 })
    (option_and_then (entry_of entries) (slice_get view place))

-- the messages at these places that are still there
abbrev pub rows_at : (Body → Option ℕ) → List Entry → List Known → List ℕ → List Message
rows_at sizes entries view places = filter_map (message_at sizes entries view) places

-- no size is told of any text
abbrev pub untold : Body → Option ℕ
untold body = None
