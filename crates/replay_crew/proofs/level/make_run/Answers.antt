use Rattle.std.proofs.Common.{◌*◌, drop, length, subst, sym}
use Rattle.std.specs.List.{AllByRecursion}
use Rattle.replay_crew.specs.Working.{CanMake, run_at, run_length}
use Rattle.replay_crew.proofs.Loops.{all_drop, all_take, at_place}
use Rattle.replay_crew.proofs.level.make_run.Goals as goal

pub make-requires-clause-can : goal.make-requires-clause-can
make-requires-clause-can g c κs within =
    let can = CanMake c.args.store.now.store c.args.items.now in
    let places = c.args.places.now in
    let size = run_length (length places) in
    let here : AllByRecursion can (run_at places c.args.run) = all_take can size (drop (c.args.run * size) places) (all_drop can (c.args.run * size) places c.requires.can) in
    at_place can c.run_of-here.result.now c.loop-place.place-index 0 c.loop-place-test.true (subst (AllByRecursion can) (sym c.run_of-here.ensures) here)
