-- One more line of a head.
use Rattle.std.specs.Prelude.{◌≡◌, ℕ, ◌+◌, ◌<◌, ◌≤◌, true, false, List, ◌++◌, length, Some, None, if◌then◌else◌}
use Rattle.console_head.specs.declared.lines.Lines.{Lines}
use Rattle.console_head.specs.declared.lines.Found.{Found}
use Rattle.console_head.specs.declared.lines.Found.TheVariants.{Line, Whole, Nothing}
use Rattle.console_head.specs.Lines.{is_empty_line, head_of}
use Rattle.console_head.specs.Coming.{looked_at}

-- the lines with one more that is not empty: the request line, or a header line
abbrev pub with_line : Lines → List ℕ → Lines
with_line lines line =
    record { start = lines.start + length line; begun = true; fields = if lines.begun then lines.fields + 1 else lines.fields; searched = 0 }

-- the lines with one more that is empty and stands in front
abbrev pub with_empty : Lines → List ℕ → Lines
with_empty lines line = record { start = lines.start + length line; begun = false; fields = lines.fields; searched = 0 }

abbrev pub lines_with : Lines → List ℕ → Lines
lines_with lines line =
    if is_empty_line line then (if lines.begun then lines else with_empty lines line) else with_line lines line

-- an empty line behind the request line ends the head
abbrev pub shown_by : Lines → List ℕ → Found
shown_by lines line =
    if is_empty_line line then (if lines.begun then Whole (record { size = lines.start + length line; fields = lines.fields }) else Line) else Line

-- what was found: a further line, the head that the bytes begin with, or none
abbrev pub Finds : Lines → Lines → List ℕ → Found → Type 0
Finds old new bytes Line = old.start < new.start
Finds old new bytes (Whole head) = (head.size ≤ length bytes) × (head_of bytes ≡ Some head) × ((more : List ℕ) → head_of (bytes ++ more) ≡ Some head)
Finds old new bytes Nothing = head_of bytes ≡ None

-- where nothing was found, all octets were looked at
abbrev pub LooksAtAll : Lines → List ℕ → Found → Type 0
LooksAtAll new bytes Line = Unit {0}
LooksAtAll new bytes (Whole head) = Unit {0}
LooksAtAll new bytes Nothing = looked_at new ≡ length bytes
