use Rattle.std.proofs.Common.{◌≡◌, false, take, length}
use Rattle.std.specs.List.{list_any}
use Rattle.store_kept.specs.Texts.{texts_kept}
use Rattle.desk_journal.specs.Stored.{is_recorded}
use Rattle.desk_journal.specs.Telling.{HoldsHeld, IsPastRead, with_memory}
use Rattle.desk_journal.proofs.texts.texts_at.Given as goal

-- The disk was only read, where a record has the text of one of the bodies so far. The texts are those of these bodies, as are those in memory in any
-- case.
abbrev pub invariant-loop-body : goal.invariant-loop-body
invariant-loop-body g l = record {
  still : IsPastRead g.D.Disk.told l.fn.past l.past;
  none_failed : (g.D.Disk.told l.past.disk).failed_reads ≡ (g.D.Disk.told l.fn.past.disk).failed_reads;
  alone : list_any (is_recorded l.desk.kept l.desk.kept.timeline) (take l.body-index l.bodies) ≡ false → l.past ≡ l.fn.past;
  count : length l.texts ≡ l.body-index;
  memory : with_memory l.desk.kept (take l.body-index l.bodies) l.texts ≡ l.texts;
  texts : HoldsHeld (g.D.Disk.told l.fn.past.disk) l.desk → l.texts ≡ texts_kept l.desk.kept (take l.body-index l.bodies);
}
