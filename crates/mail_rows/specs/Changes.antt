-- The mail that an item brings, and the flags that it changes.
use Rattle.std.specs.Prelude.{ℕ, ◌+◌, if◌then◌else◌, List, [], ◌∷◌, map, filter_map, Option, Some, None, option_map}
use Rattle.std.specs.List.{enumerate_from}
use Rattle.undo_base.specs.declared.keys.Key.{Key}
use Rattle.undo_base.specs.declared.keys.Flags.{Flags}
use Rattle.undo_base.specs.declared.asks.How.{How}
use Rattle.verb_core.specs.declared.item.Aim.{Aim}
use Rattle.verb_core.specs.declared.item.Act.TheVariants.{Give}
use Rattle.verb_core.specs.declared.item.Deed.{Deed}
use Rattle.verb_core.specs.declared.item.Deed.TheVariants.{Deliver, Append, Act as Acts, Notice}
use Rattle.verb_core.specs.declared.mailbox.Entry.{Entry}
use Rattle.verb_core.specs.Mailboxes.{is_among, changed, no_flags}
use Rattle.verb_core.specs.Aims.{box_aimed}
use Rattle.mail_rows.specs.declared.change.FlagChange.{FlagChange}
use Rattle.mail_rows.specs.declared.change.Put.{Put}
use Rattle.mail_rows.specs.Indexed.{found_at}

-- the mail of each aim
abbrev pub puts_by : (ℕ → List Entry) → List Aim → List Put
puts_by mail aims = map (λ (a : Aim). record { mailbox = box_aimed a; mail = mail a.index }) aims

-- the flags that a STORE changes among these entries, of which the first stands at a place
abbrev pub changes_from : ℕ → List Key → How → Flags → List Entry → List FlagChange
changes_from place keys how given [] = []
changes_from place keys how given (e ∷ es) =
    if is_among keys e.key then record { place = place; flags = changed how given e.flags } ∷ changes_from (place + 1) keys how given es
    else changes_from (place + 1) keys how given es

-- the entry beside a key, under a new key
abbrev pub copy_by : ℕ → List (Key × Entry) → ℕ × Key → Option Entry
copy_by number index k = option_map (λ (e : Entry). record e { key = record { item = number; index = k.0 } }) (found_at index k.1)

abbrev pub copies_by : ℕ → List (Key × Entry) → List Key → List Entry
copies_by number index keys = filter_map (copy_by number index) (enumerate_from 0 keys)

-- the flags and the moment of the message that a deed of this moment brings
abbrev pub own_message : ℕ → Deed → Option (Flags × ℕ)
own_message at (Deliver from to text) = Some (no_flags, at)
own_message at (Append mailbox flags moment text) = Some (flags, moment)
own_message at (Acts (Give u mailbox text)) = Some (no_flags, at)
own_message at (Notice u text) = Some (no_flags, at)
own_message at _ = None
