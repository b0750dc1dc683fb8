use Rattle.std.proofs.Common.{◌≡◌, ◌<◌, ◌≤◌, ◌+◌, ◌-◌}
use Rattle.std.specs.List.{All}
use Rattle.undo_outside.specs.Moments.{OnlyReads}
use Rattle.seal_log.proofs.Looks.{HasRead}
use Rattle.seal_log.proofs.loading.scan.Given as goal

abbrev pub invariant-frames : goal.invariant-frames
invariant-frames g l = record {
  within : l.gate < l.end;
  places : All (λ place. place.gate + 5 + place.length ≤ l.gate) l.places;
  reads : OnlyReads (g.D.Disk.told l.fn.disk) (g.D.Disk.told l.disk);
  none_failed : (g.D.Disk.told l.disk).failed_reads ≡ (g.D.Disk.told l.fn.disk).failed_reads;
  read : (g.D.Disk.told l.fn.disk).honest → HasRead (g.D.Disk.told l.fn.disk).content l.gate l.places;
}

abbrev pub decreases-frames : goal.decreases-frames
decreases-frames g l = l.end - l.gate
