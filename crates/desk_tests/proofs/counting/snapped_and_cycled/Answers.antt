use Rattle.std.proofs.Common.{◌≡◌, length, subst, sym, arith, Some}
use Rattle.repair_desk.specs.Repairs.{position}
use Rattle.store_kept.specs.Kept.{Kept, newest_at, snapshotted}
use Rattle.cycle_rules.specs.Asking.{cycle_due}
use Rattle.desk_tests.proofs.Newest.{newest_here}
use Rattle.desk_tests.proofs.Resting.{has_numbers, has_point, never_rises}
use Rattle.desk_tests.proofs.counting.snapped_and_cycled.Goals as goal

-- the cycle begins with the snapshot that was taken behind the last item
pub returns-in-Ok : goal.returns-in-Ok
returns-in-Ok g c = record {
  rests = λ holds there.
      let at = c.args.at in
      let ask = c.args.ask in
      let old = c.args.desk.now in
      let mid = c.snapshot.new.self in
      let is : mid.kept ≡ snapshotted old.kept = c.in-Ok.ensures.ok in
      let newest : newest_at (length mid.kept.timeline) mid.kept.marks.places ≡ length mid.kept.timeline =
      subst (λ (k : Kept). newest_at (length k.timeline) k.marks.places ≡ length k.timeline) (sym is) (newest_here (length old.kept.timeline) old.kept.marks.places) in
      let at_end : position mid.kept.timeline ask.point ≡ Some (length mid.kept.timeline) = subst (λ (k : Kept). position k.timeline ask.point ≡ Some (length k.timeline)) (sym is) there in
      never_rises mid.kept at ask c.requires.inserts at_end newest (c.nothing_asked_changes_nothing.ensures.items mid.kept at ask c.requires.inserts)
      (c.timelines_have_their_length.ensures.items mid.kept at ask (length mid.kept.timeline) (omega arith))
      c.cycle.result c.args.steps.now c.cycle.new.steps
      (λ due rewinds. c.cycle.ensures.rewinds due rewinds (c.in-Ok.ensures.sealed.texts holds))
      c.cycle.ensures.once
      (has_point g.D.Disk.told at ask mid c.cycle.new.self c.cycle.result (cycle_due mid.kept at ask) c.cycle.ensures.done)
      (has_numbers g.D.Disk.told at ask mid c.cycle.new.self c.cycle.result (cycle_due mid.kept at ask) c.cycle.ensures.done);
}
