use Rattle.std.proofs.Common.{◌≡◌, drop}
use Rattle.verb_core.specs.Names.{has_whole_parts}
use Rattle.verb_core.proofs.NameBytes.{whole_from}
use Rattle.verb_core.proofs.fixed.has_whole_parts.Given as goal

-- what is left tells of all
abbrev pub invariant-loop-byte : goal.invariant-loop-byte
invariant-loop-byte l = whole_from l.begins (drop l.byte-index l.name) ≡ has_whole_parts l.name
