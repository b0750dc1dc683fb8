use Rattle.std.proofs.Common.{◌≡◌, ◌+◌, length, map}
use Rattle.std.specs.Vec.Iter.{into_iter_items, into_iter_len}
use Rattle.replay_crew.specs.Working.{applied_each, put_each, shown_at}
use Rattle.replay_crew.proofs.run.apply_each.Given as goal

-- what is left, done to the store so far, is all of it done to the store at first
abbrev pub invariant-loop-one : goal.invariant-loop-one
invariant-loop-one g l = record {
  long : into_iter_len l.one-iterator ≡ length (into_iter_items l.one-iterator);
  store : applied_each (into_iter_items l.one-iterator) l.store.store ≡ applied_each (into_iter_items l.initial.one-iterator) l.initial.store.store;
  shows : put_each (map shown_at (into_iter_items l.one-iterator)) l.shows.items ≡ put_each (map shown_at (into_iter_items l.initial.one-iterator)) l.initial.shows.items;
  steps : l.steps + length (into_iter_items l.one-iterator) ≡ l.initial.steps + length (into_iter_items l.initial.one-iterator);
}
