use Rattle.repair_desk.proofs.Looking.{one_more_place}
use Rattle.desk_journal.proofs.new_texts.last_places.Goals as goal

pub loop-place-preserved : goal.loop-place-preserved
loop-place-preserved c = λ n. one_more_place c.args.replaces.now c.loop-place.place n c.index-replaces-place.result _ _ c.loop-place-test.true c.index-replaces-place.is (c.in_ok-insert.ensures.updates.0 n) (c.loop-place.invariant n)
