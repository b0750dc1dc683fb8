-- What is known of bytes of which more may come.
use Rattle.std.specs.Prelude.{◌≡◌, ◌⊎◌, ℕ, ◌+◌, ◌<◌, ◌≤◌, List, ◌++◌, length, take, drop, slice_index, Option, Some, None, Ok, option_map, if◌then◌else◌}
use Rattle.console_head.specs.declared.lines.Head.{Head}
use Rattle.console_head.specs.declared.lines.Lines.{Lines}
use Rattle.console_head.specs.declared.request.Coming.{Coming}
use Rattle.console_head.specs.Lines.{lines_of, section_of, head_of_lines, head_of}
use Rattle.console_head.specs.Request.{Says, SaysBy}

-- a head that goes on behind lines
abbrev pub beyond : Lines → Head → Head
beyond lines head = record { size = lines.start + head.size; fields = lines.fields + head.fields }

-- what the bytes behind lines give
abbrev pub resumed : Lines → List ℕ → Option Head
resumed lines rest = if lines.begun then section_of (lines_of rest) else head_of_lines (lines_of rest)

-- how many octets were looked at
abbrev pub looked_at : Lines → ℕ
looked_at lines = lines.start + lines.searched

-- the lines are the first ones of bytes, and no LF stands where it was looked for behind them
pub record AreFirst (lines : Lines) (bytes : List ℕ) : Type 0 where
  pub within : lines.start + lines.searched ≤ length bytes
  pub fields : lines.fields ≤ lines.start
  pub none : (k : ℕ) → k < lines.searched → slice_index (drop lines.start bytes) k ≡ 10 → ⊥
  pub same : (more : List ℕ) → head_of (bytes ++ more) ≡ option_map (beyond lines) (resumed lines (drop lines.start bytes ++ more))

-- of bytes that are not yet a request all were looked at, or more are known to be wanted
abbrev pub HasLearnt : Coming → List ℕ → Type 0
HasLearnt coming bytes = (looked_at coming.lines ≡ length bytes) ⊎ (length bytes < coming.least)

-- what is known is true of these bytes: their first lines, and below which length they and more are not yet a request
pub record IsKnown (coming : Coming) (bytes : List ℕ) : Type 0 where
  pub lines : AreFirst coming.lines (take 16384 bytes)
  pub least : (more : List ℕ) → length bytes + length more < coming.least → Says (bytes ++ more) (Ok None)

-- the length below which bytes are not yet a request is as it was, or it is now known by a head and what it announces
abbrev pub IsLeast : ℕ → ℕ → List ℕ → Head → Type 0
IsLeast old new bytes head =
    (new ≡ old)
    ⊎ ((more : List ℕ) → length bytes + length more < new → SaysBy (bytes ++ more) (Some head) (Ok None))
