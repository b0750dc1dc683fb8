-- How many bytes are kept of a stream.
use Rattle.std.specs.Prelude.{ℕ, ◌+◌, List, length, sum_by, Option, None, Some}
use Rattle.imap_stream.specs.Commands.{Heard}
use Rattle.imap_stream.specs.declared.begun.Awaits.{Awaits}
use Rattle.imap_stream.specs.declared.begun.Awaits.TheVariants.{Line, Literal, End}

-- how many bytes texts have
abbrev pub octets_in : List (List ℕ) → ℕ
octets_in texts = sum_by (λ text. length text) texts

-- the tag of a command whose line is too long
abbrev pub tag_kept : Awaits → Option (List ℕ)
tag_kept Line = None
tag_kept (Literal n) = None
tag_kept (End tag) = tag

-- how many bytes a tag has
abbrev pub tag_octets : Option (List ℕ) → ℕ
tag_octets None = 0
tag_octets (Some tag) = length tag

-- how many literals come before the next line
abbrev pub invited : Awaits → ℕ
invited Line = 0
invited (Literal n) = 1
invited (End tag) = 0

-- how many bytes are kept of what has come: the lines and literals of a command, the tag of one whose line is too long, and what follows them
abbrev pub held_in : Heard → ℕ
held_in h = octets_in h.begun.lines + octets_in h.begun.literals + tag_octets (tag_kept h.awaits) + length h.rest
