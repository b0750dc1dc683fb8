-- What one line of a script says.
use Rattle.std.specs.Prelude.{ℕ, ◌-◌, Bool, ◌==◌, ◌||◌, List, [], ◌∷◌, ◌++◌, length, drop, slice_index, nat_eq, codes, replicate, Option, None, Some, option_map, option_and_then, if◌then◌else◌}
use Rattle.std.specs.List.{starts_with, before_first, after_first, flat_map}
use Rattle.std.specs.Str.{bytes_eq}
use Rattle.undo_outside.specs.declared.event.Event.{Event}
use Rattle.undo_outside.specs.declared.event.What.{What}
use Rattle.undo_outside.specs.declared.event.What.TheVariants.{Joined, Bytes, Left, Idle}
use Rattle.undo_outside.specs.Roles.{role_with}
use Rattle.script_link.specs.declared.line.ScriptLine.{ScriptLine}
use Rattle.script_link.specs.declared.line.ScriptLine.TheVariants.{Skipped, Moment, Happens, Bad}
use Rattle.undo_base.specs.LineEnd.{crlf}
use Rattle.undo_base.specs.Digits.{number_between}
use Rattle.script_link.specs.Numbers.{moment_of, conn_of}
use Rattle.script_link.specs.Texts.{unspelled}

-- a text and CRLF
abbrev pub said : List ℕ → List ℕ
said text = text ++ crlf

abbrev pub event_of : ℕ → ℕ → What → Event
event_of conn at what = record { conn = conn; at = at; what = what }

-- an empty line, or one that begins with '#'
abbrev pub is_skipped : List ℕ → Bool
is_skipped line = (length line == 0) || (slice_index line 0 == 35)

-- what stands before the first space of what follows a word, and what stands behind it
abbrev pub first_part : List ℕ → List ℕ
first_part rest = before_first (λ b. b == 32) rest

abbrev pub other_parts : List ℕ → List ℕ
other_parts rest = after_first (λ b. b == 32) rest

-- a line that says nothing of the grammar is bad
abbrev pub happens : Option Event → ScriptLine
happens None = Bad
happens (Some event) = Happens event

-- at the connection that a text names this happens, if it is something
abbrev pub happens_at : ℕ → List ℕ → Option What → Option Event
happens_at at conn what = option_and_then (λ c. option_map (event_of c at) what) (conn_of conn)

-- what follows 'at '
abbrev pub at_line : Option ℕ → ScriptLine
at_line None = Bad
at_line (Some at) = Moment at

-- what follows 'open ': a connection and what it speaks
unfoldable pub open_line : ℕ → List ℕ → ScriptLine
open_line at rest = happens (happens_at at (first_part rest) (option_map Joined (role_with (other_parts rest))))

-- what follows 'line ': a connection alone, or a text behind it, which is a line
unfoldable pub text_line : ℕ → List ℕ → ScriptLine
text_line at rest = happens (happens_at at (first_part rest) (option_map (λ bytes. Bytes (said bytes)) (unspelled (other_parts rest))))

-- at least one byte
abbrev pub some_bytes : List ℕ → Option What
some_bytes [] = None
some_bytes (b ∷ bytes) = Some (Bytes (b ∷ bytes))

-- what follows 'data ': a connection and a text of at least one byte
unfoldable pub data_line : ℕ → List ℕ → ScriptLine
data_line at rest = happens (happens_at at (first_part rest) (option_and_then some_bytes (unspelled (other_parts rest))))

-- so many lines, each of so many octets with its CRLF
abbrev pub filling : ℕ → ℕ → List ℕ
filling lines size = flat_map (λ line. line) (replicate lines (said (replicate (size - 2) 97)))

-- 1 to 2000 lines, each of 2 to 1000 octets
abbrev pub filled : List ℕ → Option What
filled numbers =
    option_and_then (λ lines. option_map (λ size. Bytes (filling lines size)) (number_between 2 1000 (other_parts numbers))) (number_between 1 2000 (first_part numbers))

-- what follows 'fill ': a connection, the number of lines, and the octets of each
unfoldable pub fill_line : ℕ → List ℕ → ScriptLine
fill_line at rest = happens (happens_at at (first_part rest) (filled (other_parts rest)))

-- what follows 'gone ': a connection
unfoldable pub gone_line : ℕ → List ℕ → ScriptLine
gone_line at rest = happens (happens_at at rest (Some Left))

-- what a line says at a moment
unfoldable pub script_line : ℕ → List ℕ → ScriptLine
script_line at line =
    if is_skipped line then Skipped
    else (if starts_with nat_eq line (codes "at ") then at_line (moment_of (drop 3 line))
    else (if starts_with nat_eq line (codes "open ") then open_line at (drop 5 line)
    else (if starts_with nat_eq line (codes "line ") then text_line at (drop 5 line)
    else (if starts_with nat_eq line (codes "data ") then data_line at (drop 5 line)
    else (if starts_with nat_eq line (codes "fill ") then fill_line at (drop 5 line)
    else (if starts_with nat_eq line (codes "gone ") then gone_line at (drop 5 line)
    else (if bytes_eq line (codes "idle") then Happens (event_of 0 at Idle)
    else Bad)))))))
