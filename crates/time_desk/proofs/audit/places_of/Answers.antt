use Rattle.std.proofs.Common.{◌≡◌, ◌+◌, ◌≤◌, ◌∙◌, List, Option, length, sym, subst, arith}
use Rattle.std.specs.Prelude.{IfSome}
use Rattle.std.specs.List.{All}
use Rattle.seal_log.specs.Journal.{sealed}
use Rattle.seal_log.specs.declared.place.Place.{Place}
use Rattle.desk_journal.specs.Going.{read_on}
use Rattle.desk_journal.proofs.Staying.{holds_on}
use Rattle.time_desk.proofs.Places.{all_seen, fits_push, next_seen, none_left_here, seen_on}
use Rattle.time_desk.proofs.audit.places_of.Goals as goal

pub loop-gate-preserved : goal.loop-gate-preserved
loop-gate-preserved g c =
    let old = c.args.past.now in
    let within : (c.in-Some.place.gate ≡ c.loop-gate.gate) × (c.in-Some.place.gate + 5 + c.in-Some.place.length ≤ c.loop-gate.past.end) =
    subst (λ (o : Option Place). IfSome o (λ place. (place.gate ≡ c.loop-gate.gate) × (place.gate + 5 + place.length ≤ c.loop-gate.past.end))) c.in-Some.is c.in_ok-place.ensures.within in
    record {
      still = read_on g.D.Disk.told old c.loop-gate.past c.place_at.new.past c.loop-gate.invariant.still c.place_at.ensures.still;
      none_failed = c.in_ok-place.ensures.cause.ok ∙ c.loop-gate.invariant.none_failed;
      seen = λ payloads held short end_is.
          let here = holds_on (g.D.Disk.told old.disk) (g.D.Disk.told c.loop-gate.past.disk) payloads c.loop-gate.invariant.still.reads held in
          let now_end : c.loop-gate.past.end ≡ length (sealed payloads) = c.loop-gate.invariant.still.end ∙ end_is in
          let next = next_seen payloads c.loop-gate.places c.loop-gate.gate c.loop-gate.past.end short now_end (omega (arith, c.loop-gate-test.true, c.end.ensures)) (c.loop-gate.invariant.seen payloads held short end_is) in
          seen_on payloads c.loop-gate.places c.loop-gate.gate c.loop-gate.past.end c.in-Some.place c.push.new.self (c.loop-gate.gate + (5 + c.from.result)) next
          (sym c.in-Some.is ∙ c.in_ok-place.ensures.place payloads (length next.payload) next.payload here next.lies next.short next.within) c.in_ok-push-in-Some.ensures.ok (omega (arith, c.from.ensures));
      within = omega (arith, c.place_at.ensures.still.end, within.0, within.1, c.from.ensures);
      places = subst (λ (ps : List Place). All (λ (p : Place). p.gate + 5 + p.length ≤ c.args.past.now.end) ps) (sym c.in_ok-push-in-Some.ensures.ok) (fits_push c.args.past.now.end c.loop-gate.places c.in-Some.place c.loop-gate.invariant.places (omega (arith, within.1, c.loop-gate.invariant.still.end)));
    }

pub returns-clause-found : goal.returns-clause-found
returns-clause-found g c payloads held short end_is =
    let found = all_seen payloads c.loop-gate.places c.loop-gate.gate c.loop-gate.past.end (c.loop-gate.invariant.still.end ∙ end_is) (omega (arith, c.loop-gate-test.false, c.end.ensures)) (c.loop-gate.invariant.seen payloads held short end_is) in
    (found.0, found.1 ∙ c.loop-gate.invariant.still.end)

pub returns-in-None-clause-found : goal.returns-in-None-clause-found
returns-in-None-clause-found g c payloads held short end_is =
    let old = c.args.past.now in
    let here = holds_on (g.D.Disk.told old.disk) (g.D.Disk.told c.loop-gate.past.disk) payloads c.loop-gate.invariant.still.reads held in
    let now_end : c.loop-gate.past.end ≡ length (sealed payloads) = c.loop-gate.invariant.still.end ∙ end_is in
    let next = next_seen payloads c.loop-gate.places c.loop-gate.gate c.loop-gate.past.end short now_end (omega (arith, c.loop-gate-test.true, c.end.ensures)) (c.loop-gate.invariant.seen payloads held short end_is) in
    none_left_here (record { gate = c.loop-gate.gate; length = length next.payload }) (sym c.in-None.is ∙ c.in_ok-place.ensures.place payloads (length next.payload) next.payload here next.lies next.short next.within)
