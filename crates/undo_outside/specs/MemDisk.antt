-- A disk in memory, as the history of its calls.
use Rattle.std.specs.Prelude.{ℕ, Bool, true, false, List, [], ◌∷◌, ◌++◌, take, Option, Some, None, Vec, if◌then◌else◌}
use Rattle.std.specs.declared.alloc.Global.{Global}
use Rattle.undo_outside.specs.declared.mem_disk.Write.{Write}
use Rattle.undo_outside.specs.History.{Change, Wrote, Synced, overwritten}

-- a write of the record, and the sync behind it where there was one
abbrev pub marks : Bool → Change → List Change
marks true e = Synced ∷ e ∷ []
marks false e = e ∷ []

abbrev pub changes_of : Write → List Change
changes_of w = marks w.synced (Wrote w.place w.bytes.items w.done)

-- the record read onto an older history
abbrev pub onto : List Change → List Write → List Change
onto older [] = older
onto older (w ∷ ws) = onto (changes_of w ++ older) ws

-- the history of a record
abbrev pub history : List Write → List Change
history ws = onto [] ws

-- what reads give: the bytes at the start, until a write has made others
abbrev pub held : List ℕ → Option (Vec ℕ Global) → List ℕ
held start None = start
held start (Some bytes) = bytes.items

-- what reads give after a write of the record
abbrev pub content_with : List ℕ → Write → List ℕ
content_with content w = if w.done then overwritten content w.place w.bytes.items else content

-- what was there, with the first bytes of the next write of the record
abbrev pub torn_after : List ℕ → ℕ → List Write → List ℕ
torn_after content kept [] = content
torn_after content kept (w ∷ ws) = overwritten content w.place (take kept w.bytes.items)
