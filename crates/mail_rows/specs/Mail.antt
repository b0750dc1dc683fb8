-- What comes to the end of a mailbox, and other flags of its entries.
use Rattle.std.specs.Prelude.{ℕ, ◌+◌, List, [], ◌∷◌, slice_get, slice_set, option_map, unwrap_or}
use Rattle.verb_core.specs.declared.mailbox.Entry.{Entry}
use Rattle.mail_rows.specs.declared.change.FlagChange.{FlagChange}

-- the entries under the UIDs from a first one on
abbrev pub numbered : ℕ → List Entry → List Entry
numbered uid [] = []
numbered uid (e ∷ es) = record e { uid = uid } ∷ numbered (uid + 1) es

-- with other flags of the entry at a place
abbrev pub flags_set : FlagChange → List Entry → List Entry
flags_set c entries = unwrap_or (option_map (λ (e : Entry). slice_set entries c.place (record e { flags = c.flags })) (slice_get entries c.place)) entries

-- with other flags of the entries at these places
abbrev pub all_flags_set : List FlagChange → List Entry → List Entry
all_flags_set [] entries = entries
all_flags_set (c ∷ cs) entries = all_flags_set cs (flags_set c entries)
