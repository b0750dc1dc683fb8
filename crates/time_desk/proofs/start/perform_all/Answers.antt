use Rattle.std.proofs.Common.{◌++◌, ◌∙◌, ℕ, length, get_or, subst, sym}
use Rattle.desk_journal.specs.Going.{read_on}
use Rattle.desk_journal.specs.Stored.{AreNoted}
use Rattle.seal_log.specs.Journal.{sealed}
use Rattle.time_desk.proofs.Standings.{leads_all, leads_step, lies_behind, nth_of, stops_step}
use Rattle.time_desk.proofs.start.perform_all.Goals as goal

pub returns-in-Err-clause-bad : goal.returns-in-Err-clause-bad
returns-in-Err-clause-bad g c before payloads texts are =
    let gate = length (sealed before) in
    let i = c.loop-place.place-index in
    let place = get_or c.args.places.now i (record { gate = 0; length = 0 }) in
    let nth = nth_of gate payloads c.args.places.now i (record { gate = 0; length = 0 }) are c.loop-place-test.true in
    let here = c.loop-place.invariant.texts before payloads texts are in
    stops_step c.args.desk.now.kept c.loop-place.desk.kept gate payloads i place c.in-Err.fault nth (c.loop-place.invariant.led before payloads texts are)
    (c.in-Err.ensures.bad (before ++ payloads) nth.payload here (lies_behind before payloads i place nth))

pub loop-place-preserved : goal.loop-place-preserved
loop-place-preserved g c = record {
  still = read_on g.D.Disk.told c.args.past.now c.loop-place.past c.perform_at.new.past c.loop-place.invariant.still c.perform_at.ensures.still;
  none_failed = c.in-Ok.ensures.ok ∙ c.loop-place.invariant.none_failed;
  led = λ before payloads texts are.
      let gate = length (sealed before) in
      let i = c.loop-place.place-index in
      let place = get_or c.args.places.now i (record { gate = 0; length = 0 }) in
      let nth = nth_of gate payloads c.args.places.now i (record { gate = 0; length = 0 }) are c.loop-place-test.true in
      let here = c.loop-place.invariant.texts before payloads texts are in
      leads_step c.args.desk.now.kept c.loop-place.desk.kept c.perform_at.new.desk.kept gate payloads i place nth (c.loop-place.invariant.led before payloads texts are)
      (c.in-Ok.ensures.performed (before ++ payloads) nth.payload here (lies_behind before payloads i place nth));
  texts = λ before payloads texts are.
      let i = c.loop-place.place-index in
      let place = get_or c.args.places.now i (record { gate = 0; length = 0 }) in
      let nth = nth_of (length (sealed before)) payloads c.args.places.now i (record { gate = 0; length = 0 }) are c.loop-place-test.true in
      c.in-Ok.ensures.texts (before ++ payloads) nth.payload (c.loop-place.invariant.texts before payloads texts are) (lies_behind before payloads i place nth);
  noted = subst (λ (n : ℕ). AreNoted n c.perform_at.new.desk) (sym c.perform_at.ensures.still.end) c.in-Ok.ensures.noted;
}

pub returns-clause-performed : goal.returns-clause-performed
returns-clause-performed g c before payloads texts are =
    leads_all c.args.desk.now.kept c.loop-place.desk.kept (length (sealed before)) payloads c.args.places.now c.loop-place.place-index are c.loop-place-test.false (c.loop-place.invariant.led before payloads texts are)

pub returns-clause-texts : goal.returns-clause-texts
returns-clause-texts g c before payloads texts are = c.loop-place.invariant.texts before payloads texts are
