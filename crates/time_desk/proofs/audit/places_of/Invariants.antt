use Rattle.std.proofs.Common.{◌≡◌, ◌+◌, ◌-◌, ◌≤◌, List, ℕ, length}
use Rattle.std.specs.List.{All, AllByRecursion}
use Rattle.seal_log.specs.Journal.{sealed, IsPayload}
use Rattle.seal_log.specs.Settled.{Holds}
use Rattle.seal_log.specs.declared.place.Place.{Place}
use Rattle.desk_journal.specs.Telling.{IsPastRead}
use Rattle.time_desk.proofs.Places.{Seen}
use Rattle.time_desk.proofs.audit.places_of.Given as goal

abbrev pub invariant-loop-gate : goal.invariant-loop-gate
invariant-loop-gate g l = record {
  still : IsPastRead g.D.Disk.told l.fn.past l.past;
  none_failed : (g.D.Disk.told l.past.disk).failed_reads ≡ (g.D.Disk.told l.fn.past.disk).failed_reads;
  seen : (payloads : List (List ℕ)) → Holds (g.D.Disk.told l.fn.past.disk) payloads → AllByRecursion IsPayload payloads → l.fn.past.end ≡ length (sealed payloads) → Seen payloads l.places l.gate;
  within : l.gate ≤ l.past.end;
  places : All (λ (p : Place). p.gate + 5 + p.length ≤ l.fn.past.end) l.places;
}

abbrev pub decreases-loop-gate : goal.decreases-loop-gate
decreases-loop-gate g l = l.past.end - l.gate
