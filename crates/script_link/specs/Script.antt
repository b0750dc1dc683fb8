-- Scripts: lines that end in LF, of which the last may lack it.
use Rattle.std.specs.Prelude.{◌≡◌, ℕ, ◌+◌, List, [], ◌∷◌, map, Result, Ok, Err}
use Rattle.std.specs.Io.BufRead.{strip_last}
use Rattle.undo_outside.specs.declared.event.Event.{Event}
use Rattle.script_link.specs.declared.script.BadScript.{BadScript}
use Rattle.script_link.specs.declared.script.BadScript.TheVariants.{Line, NoMemory}
use Rattle.script_link.specs.declared.line.ScriptLine.{ScriptLine}
use Rattle.script_link.specs.declared.line.ScriptLine.TheVariants.{Skipped, Moment, Happens, Bad}
use Rattle.script_link.specs.Pieces.{pieces_of}
use Rattle.script_link.specs.Line.{script_line}

-- the lines of a text, each without its LF
abbrev pub text_lines : List ℕ → List (List ℕ)
text_lines bytes = map (strip_last 10) (pieces_of bytes)

-- the events before which an event comes, unless a line is bad
abbrev pub with_event : Event → Result (List Event) ℕ → Result (List Event) ℕ
with_event event (Ok events) = Ok (event ∷ events)
with_event event (Err n) = Err n

-- a line, of this number, and what follows it from a moment on
abbrev pub then_line : ScriptLine → ℕ → ℕ → (ℕ → Result (List Event) ℕ) → Result (List Event) ℕ
then_line Skipped n at more = more at
then_line (Moment m) n at more = more m
then_line (Happens event) n at more = with_event event (more at)
then_line Bad n at more = Err n

-- the events of lines, of which the first has this number, from a moment on, or the number of the first bad line
abbrev pub events_from : ℕ → ℕ → List (List ℕ) → Result (List Event) ℕ
events_from n at [] = Ok []
events_from n at (line ∷ lines) = then_line (script_line at line) n at (λ m. events_from (n + 1) m lines)

-- the events of a script, or the number of its first bad line, from 1
abbrev pub script_of : List ℕ → Result (List Event) ℕ
script_of bytes = events_from 1 0 (text_lines bytes)

-- a script is read, or its first bad line is told, or no memory is found
abbrev pub ReadsScript : Result (List Event) ℕ → Result (List Event) BadScript → Type 0
ReadsScript script (Ok events) = script ≡ Ok events
ReadsScript script (Err (Line n)) = script ≡ Err n
ReadsScript script (Err NoMemory) = Unit {0}
