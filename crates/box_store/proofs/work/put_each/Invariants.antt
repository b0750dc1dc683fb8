use Rattle.std.proofs.Common.{◌≡◌, drop, true}
use Rattle.verb_core.specs.Boxes.{is_rising}
use Rattle.box_store.specs.Effects.{put_each}
use Rattle.box_store.proofs.GrowLaws.{Growing}
use Rattle.box_store.proofs.work.put_each.Given as goal

-- the puts that are left, on the rows so far, are all of them on the rows at first
abbrev pub invariant-loop-place : goal.invariant-loop-place
invariant-loop-place l = record {
  rows : put_each (drop l.place l.puts) l.rows.items ≡ put_each l.puts l.fn.rows.items;
  rising : is_rising l.rows.items ≡ true;
  spares : Growing (drop l.place l.puts) (drop l.place l.spares) l.rows.items;
}
