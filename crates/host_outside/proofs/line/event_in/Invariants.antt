use Rattle.std.proofs.Common.{◌≡◌, ℕ, ◌<◌, ◌≤◌, take}
use Rattle.host_outside.specs.Searches.{EndsSearch, IsUnbroken, fresh, told}
use Rattle.host_outside.proofs.line.event_in.Given as goal

-- what was gone through ends no line that has the word, and the line that is gone through began at the place
abbrev pub invariant-loop-place : goal.invariant-loop-place
invariant-loop-place l = record {
  known : l.known ≡ told l.fn.line (take l.place l.octets);
  none : (k : ℕ) → k < l.place → EndsSearch l.fn.line l.octets k → ⊥;
  begun : l.begun ≤ l.place;
  begins : 0 < l.begun → told l.fn.line (take l.begun l.octets) ≡ fresh;
  unbroken : l.begun ≡ 0 → IsUnbroken l.octets l.place;
}
