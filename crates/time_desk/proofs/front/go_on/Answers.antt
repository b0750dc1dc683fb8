use Rattle.std.proofs.Common.{◌≡◌, ◌++◌, ◌+◌, ◌∙◌, Bool, List, ℕ, ap, get_or, length, subst, sym}
use Rattle.verb_bytes.specs.declared.journal.JournalRecord.{JournalRecord}
use Rattle.seal_log.specs.Journal.{sealed}
use Rattle.seal_log.specs.declared.place.Place.{Place}
use Rattle.desk_journal.specs.Going.{read_on}
use Rattle.desk_journal.specs.Records.{payloads_of}
use Rattle.desk_journal.proofs.Staying.{holds_on}
use Rattle.time_desk.specs.Fronts.{FoundNoted, GoesOnWith, WentOn}
use Rattle.time_desk.proofs.Founding.{going_all, going_over, going_step, going_stops}
use Rattle.time_desk.proofs.Standings.{lies_behind, nth_of}
use Rattle.time_desk.proofs.front.go_on.Goals as goal

pub returns-in-Ok-false-clause-went : goal.returns-in-Ok-false-clause-went
returns-in-Ok-false-clause-went g c records payloads holds are is =
    let d : Place = record { gate = 0; length = 0 } in
    let gate = length (sealed (payloads_of records)) in
    let i = c.loop-place.place-index in
    let place = get_or c.args.places.now i d in
    let nth = nth_of gate payloads c.args.places.now i d are c.loop-place-test.true in
    let here = holds_on (g.D.Disk.told c.args.past.now.disk) (g.D.Disk.told c.loop-place.past.disk) (payloads_of records ++ payloads) c.loop-place.invariant.still.reads holds in
    subst (λ (n : ℕ). WentOn records payloads n c.go_on_at.new.founding) (sym c.loop-place.invariant.counted)
    (going_over records payloads gate i place c.loop-place.founding c.go_on_at.new.founding nth (c.loop-place.invariant.going records payloads holds are is)
    (subst (λ (b : Bool). GoesOnWith c.loop-place.founding nth.payload b c.go_on_at.new.founding) c.in-Ok-false.field-0-test
    (c.in-Ok-false.ensures.goes (payloads_of records ++ payloads) nth.payload here (lies_behind (payloads_of records) payloads i place nth))))

pub returns-in-Ok-false-clause-stored : goal.returns-in-Ok-false-clause-stored
returns-in-Ok-false-clause-stored g c records payloads holds are stored =
    let d : Place = record { gate = 0; length = 0 } in
    let i = c.loop-place.place-index in
    let place = get_or c.args.places.now i d in
    let nth = nth_of (length (sealed (payloads_of records))) payloads c.args.places.now i d are c.loop-place-test.true in
    let here = holds_on (g.D.Disk.told c.args.past.now.disk) (g.D.Disk.told c.loop-place.past.disk) (payloads_of records ++ payloads) c.loop-place.invariant.still.reads holds in
    c.in-Ok-false.ensures.stored (payloads_of records ++ payloads) nth.payload here (lies_behind (payloads_of records) payloads i place nth) (c.loop-place.invariant.stored records payloads holds are stored)

pub returns-in-Err-clause-bad : goal.returns-in-Err-clause-bad
returns-in-Err-clause-bad g c records payloads holds are is =
    let d : Place = record { gate = 0; length = 0 } in
    let i = c.loop-place.place-index in
    let place = get_or c.args.places.now i d in
    let nth = nth_of (length (sealed (payloads_of records))) payloads c.args.places.now i d are c.loop-place-test.true in
    let here = holds_on (g.D.Disk.told c.args.past.now.disk) (g.D.Disk.told c.loop-place.past.disk) (payloads_of records ++ payloads) c.loop-place.invariant.still.reads holds in
    going_stops records payloads i place c.loop-place.founding c.in-Err.fault nth (c.loop-place.invariant.going records payloads holds are is)
    (c.in-Err.ensures.bad (payloads_of records ++ payloads) nth.payload here (lies_behind (payloads_of records) payloads i place nth))

pub loop-place-preserved : goal.loop-place-preserved
loop-place-preserved g c = record {
  still = read_on g.D.Disk.told c.args.past.now c.loop-place.past c.go_on_at.new.past c.loop-place.invariant.still c.go_on_at.ensures.still;
  none_failed = c.in-Ok-true.ensures.ok ∙ c.loop-place.invariant.none_failed;
  counted = ap (λ (n : ℕ). n + 1) c.loop-place.invariant.counted;
  noted = subst (λ (n : ℕ). FoundNoted n c.go_on_at.new.founding) (sym c.go_on_at.ensures.still.end) c.in-Ok-true.ensures.noted;
  grounded = c.in-Ok-true.ensures.grounded;
  going = λ records payloads holds are is.
      let d : Place = record { gate = 0; length = 0 } in
      let gate = length (sealed (payloads_of records)) in
      let i = c.loop-place.place-index in
      let place = get_or c.args.places.now i d in
      let nth = nth_of gate payloads c.args.places.now i d are c.loop-place-test.true in
      let here = holds_on (g.D.Disk.told c.args.past.now.disk) (g.D.Disk.told c.loop-place.past.disk) (payloads_of records ++ payloads) c.loop-place.invariant.still.reads holds in
      going_step records payloads gate i place c.loop-place.founding c.go_on_at.new.founding nth (c.loop-place.invariant.going records payloads holds are is)
      (subst (λ (b : Bool). GoesOnWith c.loop-place.founding nth.payload b c.go_on_at.new.founding) c.in-Ok-true.field-0-test
      (c.in-Ok-true.ensures.goes (payloads_of records ++ payloads) nth.payload here (lies_behind (payloads_of records) payloads i place nth)));
  stored = λ records payloads holds are stored.
      let d : Place = record { gate = 0; length = 0 } in
      let i = c.loop-place.place-index in
      let place = get_or c.args.places.now i d in
      let nth = nth_of (length (sealed (payloads_of records))) payloads c.args.places.now i d are c.loop-place-test.true in
      let here = holds_on (g.D.Disk.told c.args.past.now.disk) (g.D.Disk.told c.loop-place.past.disk) (payloads_of records ++ payloads) c.loop-place.invariant.still.reads holds in
      c.in-Ok-true.ensures.stored (payloads_of records ++ payloads) nth.payload here (lies_behind (payloads_of records) payloads i place nth) (c.loop-place.invariant.stored records payloads holds are stored);
}

pub returns-clause-went : goal.returns-clause-went
returns-clause-went g c records payloads holds are is =
    subst (λ (n : ℕ). WentOn records payloads n c.loop-place.founding) (sym c.loop-place.invariant.counted)
    (going_all records payloads (length (sealed (payloads_of records))) c.args.places.now c.loop-place.place-index c.loop-place.founding are c.loop-place-test.false (c.loop-place.invariant.going records payloads holds are is))
