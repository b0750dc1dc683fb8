use Rattle.std.proofs.Common.{◌≡◌, drop}
use Rattle.verb_core.specs.KeyOrder.{keys_rise_from}
use Rattle.verb_core.proofs.mail.keys_rise_from.Given as goal

-- what is left rises from the last key on where all rise
abbrev pub invariant-loop-entry : goal.invariant-loop-entry
invariant-loop-entry l = keys_rise_from l.last (drop l.entry-index l.entries) ≡ keys_rise_from l.fn.low l.entries
