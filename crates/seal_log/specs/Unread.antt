-- What lies on a disk and is not read.
use Rattle.std.specs.Prelude.{ℕ, ◌+◌, List, ◌++◌, replicate, slice_range, take}

-- so many bytes from a place on, with zeros where there are none
abbrev pub bytes_there : List ℕ → ℕ → ℕ → List ℕ
bytes_there content at count = take count (slice_range content at (at + count) ++ replicate count 0)
