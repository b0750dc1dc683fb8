use Rattle.std.proofs.Common.{◌≡◌, map, take}
use Rattle.search_verb.specs.Asked.{asked_by}
use Rattle.search_verb.proofs.copying.+copy_key.Given as goal

abbrev pub invariant-copy_all-loop-i : goal.invariant-copy_all-loop-i
invariant-copy_all-loop-i l = map asked_by l.all.items ≡ map asked_by (take l.i l.keys)
