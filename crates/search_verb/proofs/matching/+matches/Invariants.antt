use Rattle.std.proofs.Common.{◌≡◌, map, drop}
use Rattle.search_verb.specs.Asked.{all_of, asked_by}
use Rattle.search_verb.specs.Meets.{meets, facts_of}
use Rattle.search_verb.proofs.matching.+matches.Given as goal

abbrev pub invariant-matches_all-loop-i : goal.invariant-matches_all-loop-i
invariant-matches_all-loop-i l = meets (all_of (map asked_by l.keys)) (facts_of l.what) ≡ meets (all_of (map asked_by (drop l.i l.keys))) (facts_of l.what)
