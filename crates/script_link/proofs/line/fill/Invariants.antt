use Rattle.std.proofs.Common.{◌≡◌, List, ℕ, replicate}
use Rattle.std.specs.List.{flat_map}
use Rattle.script_link.proofs.line.fill.Given as goal

abbrev pub invariant-loop : goal.invariant-loop
invariant-loop l = l.text ≡ flat_map (λ (line : List ℕ). line) (replicate l.counter l.line)
