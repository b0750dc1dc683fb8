-- What lies on a disk and is not read.
use Rattle.std.proofs.Common.{◌≡◌, ℕ, ◌+◌, ◌-◌, ◌≤◌, List, ◌++◌, length, replicate, take, drop, ap, ◌∙◌, arith}
use Rattle.std.specs.Prelude.{slice_range}
use Rattle.std.proofs.lemmas.List.{take_at, length-append, length-drop, length-replicate, length-take}
use Rattle.seal_log.specs.Unread.{bytes_there}

-- it has so many bytes
pub length-there : (content : List ℕ) (at count : ℕ) → length (bytes_there content at count) ≡ count
length-there content at count =
    let there = slice_range content at (at + count) in
    omega (arith, length-take count (there ++ replicate count 0), length-append there (replicate count 0), length-replicate {A = ℕ} count 0)

-- it is what lies there, where there are so many
pub there_is : (content bytes : List ℕ) (at count : ℕ) → slice_range content at (at + count) ≡ bytes → length bytes ≡ count → bytes_there content at count ≡ bytes
there_is content bytes at count is long = ap (λ (l : List ℕ). take count (l ++ replicate count 0)) is ∙ take_at bytes (replicate count 0) count long

pub length-range : (payload : List ℕ) (from count : ℕ) → from + count ≤ length payload → length (slice_range payload from (from + count)) ≡ count
length-range payload from count within = omega (arith, within, length-take ((from + count) - from) (drop from payload), length-drop from payload)
