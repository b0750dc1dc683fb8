use Rattle.std.proofs.Common.{◌≡◌, map, drop}
use Rattle.search_verb.specs.Asked.{all_of, asked_by}
use Rattle.search_verb.specs.Meets.{meets, facts_of}
use Rattle.search_verb.proofs.strings.+finds.Given as goal

abbrev pub invariant-finds_all-loop-i : goal.invariant-finds_all-loop-i
invariant-finds_all-loop-i l = meets (all_of (map asked_by l.keys)) (facts_of l.what) ≡ meets (all_of (map asked_by (drop l.i l.keys))) (facts_of l.what)
