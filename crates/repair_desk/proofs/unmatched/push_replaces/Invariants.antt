use Rattle.std.proofs.Common.{◌≡◌, ◌++◌, ℕ, List, map, take}
use Rattle.repair_desk.specs.Repairs.{missing}
use Rattle.repair_desk.proofs.unmatched.push_replaces.Given as goal

abbrev pub invariant-loop-replace : goal.invariant-loop-replace
invariant-loop-replace l = l.numbers ≡ l.initial.numbers ++ missing l.met (map (λ (r : ℕ × List ℕ). r.0) (take l.replace-index l.replaces))
