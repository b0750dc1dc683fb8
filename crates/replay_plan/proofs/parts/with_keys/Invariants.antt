use Rattle.std.proofs.Common.{◌≡◌, ◌++◌, drop}
use Rattle.replay_plan.specs.Slots.{key_parts}
use Rattle.replay_plan.proofs.parts.with_keys.Given as goal

abbrev pub invariant-loop-key : goal.invariant-loop-key
invariant-loop-key l = l.parts.items ++ key_parts (drop l.key-index l.keys) ≡ l.fn.parts.items ++ key_parts l.keys
