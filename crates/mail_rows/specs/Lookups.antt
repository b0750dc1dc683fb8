-- What lookups find, and where.
use Rattle.std.specs.Prelude.{IsTrue, List}
use Rattle.undo_base.specs.declared.keys.Key.{Key}
use Rattle.verb_core.specs.declared.mailbox.Entry.{Entry}
use Rattle.verb_core.specs.KeyOrder.{keys_rise}
use Rattle.mail_rows.specs.Indexed.{beside_keys}
use Rattle.mail_rows.specs.declared.key_index.Lookup.{Lookup}
use Rattle.mail_rows.specs.declared.key_index.Lookup.TheVariants.{Halves, Noted}

-- what stands beside keys
abbrev pub beside : Lookup → List (Key × Entry)
beside (Halves entries) = beside_keys entries.now
beside (Noted found) = found.entries

-- what is searched by halves has keys that rise
abbrev pub AreInOrder : Lookup → Type 0
AreInOrder (Halves entries) = IsTrue (keys_rise entries.now)
AreInOrder (Noted found) = Unit {0}
