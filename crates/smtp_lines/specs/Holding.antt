-- How the code keeps a stream.
use Rattle.std.specs.Prelude.{◌≡◌, ℕ, ◌≤◌, Bool, true, false, List, ◌∷◌, ◌++◌, length, take, drop}
use Rattle.smtp_lines.specs.Passed.{passes}

-- bytes with the mark of what is left out behind the first 1,048,576
abbrev pub marked : List ℕ → List ℕ
marked bytes = take 1048576 bytes ++ 256 ∷ drop 1048576 bytes

-- the stream that bytes stand for of which some were given: of a line that is too long all behind its first bytes may be left out
abbrev pub seen : Bool → ℕ → List ℕ → List ℕ
seen false given bytes = drop given bytes
seen true given bytes = marked bytes

-- At the first places of the bytes that were not given no CRLF begins; of a line that is too long none was given, and its first bytes and another are there.
abbrev pub IsKept : Bool → ℕ → ℕ → List ℕ → Type 0
IsKept false given passed bytes = passes passed (drop given bytes) ≡ true
IsKept true given passed bytes = (given ≡ 0) × (1048577 ≤ length bytes) × (passes 1048577 (marked bytes) ≡ true)

-- what contracts see of a buffer: the stream that its bytes stand for, and how many bytes are in memory, those that were given included
pub record Buffered : Type 0 where
  pub stream : List ℕ
  pub kept : ℕ
