use Rattle.std.proofs.Common.{◌≡◌, ◌++◌, drop, IsTrue}
use Rattle.replay_plan.specs.Lines.{are_places, number_words}
use Rattle.replay_plan.proofs.telling.push_words.Given as goal

-- the words so far, and those of the places that are left, are all
abbrev pub invariant-loop-place : goal.invariant-loop-place
invariant-loop-place l = record {
  places : IsTrue (are_places l.numbers (drop l.place-index l.places));
  words : l.out ++ number_words l.numbers (drop l.place-index l.places) ≡ l.initial.out ++ number_words l.numbers l.places;
}
