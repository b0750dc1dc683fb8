use Rattle.std.proofs.Common.{◌≡◌, map, drop}
use Rattle.search_verb.specs.Asked.{all_of, asked_by}
use Rattle.search_verb.specs.Meets.{needed}
use Rattle.search_verb.proofs.matching.+looks.Given as goal

abbrev pub invariant-looks_of_all-loop-i : goal.invariant-looks_of_all-loop-i
invariant-looks_of_all-loop-i l = l.most ≡ needed (all_of (map asked_by (drop l.i l.keys)))
