use Rattle.std.proofs.Common.{◌≡◌, ◌++◌, map}
use Rattle.time_desk.specs.Cutting.{key_body}
use Rattle.time_desk.proofs.cut.bodies_with.Given as goal

-- the bodies so far, and those of the keys that are left
abbrev pub invariant-loop-key : goal.invariant-loop-key
invariant-loop-key l = l.bodies ++ map key_body l.key-iterator ≡ map key_body l.keys.keys
