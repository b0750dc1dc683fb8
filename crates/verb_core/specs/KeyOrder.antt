-- The order of keys, and entries whose keys rise.
use Rattle.std.specs.Prelude.{Bool, true, ◌&&◌, List, [], ◌∷◌, Option, Some, None}
use Rattle.std.specs.declared.cmp.Ordering.{Ordering}
use Rattle.std.specs.Ordering.{ordering_then, nat_cmp, is_lt}
use Rattle.undo_base.specs.declared.keys.Key.{Key}
use Rattle.verb_core.specs.declared.mailbox.Entry.{Entry}

-- by item, and then by index
abbrev pub key_cmp : Key → Key → Ordering
key_cmp a b = ordering_then (nat_cmp a.item b.item) (nat_cmp a.index b.index)

-- whether a key lies above another one, where there is one
abbrev pub is_above : Option Key → Key → Bool
is_above None key = true
is_above (Some low) key = is_lt (key_cmp low key)

-- whether the entries' keys strictly rise, from above a key on where there is one
abbrev pub keys_rise_from : Option Key → List Entry → Bool
keys_rise_from low [] = true
keys_rise_from low (e ∷ es) = is_above low e.key && keys_rise_from (Some e.key) es

-- whether the entries' keys strictly rise
abbrev pub keys_rise : List Entry → Bool
keys_rise entries = keys_rise_from None entries

-- the key of the last entry, or the one given where there is no entry
abbrev pub last_key : Option Key → List Entry → Option Key
last_key low [] = low
last_key low (e ∷ es) = last_key (Some e.key) es
