use Rattle.std.proofs.Common.{◌≡◌, ◌≤◌, ◌++◌, zip, drop, length}
use Rattle.replay_plan.specs.Placing.{levels_behind, levels_by_item, highest}
use Rattle.replay_plan.specs.Slots.{TellsLevels, Knows, Leads}
use Rattle.replay_plan.proofs.planning.each_level.Given as goal

-- the levels so far, and those of the items that are left, are all; both tables know the levels so far
abbrev pub invariant-loop-place : goal.invariant-loop-place
invariant-loop-place l = record {
  count : length l.levels.items ≡ l.place;
  all : l.levels.items ++ levels_behind (zip l.all l.levels.items) (drop l.place l.all) ≡ levels_by_item l.all;
  few : highest l.levels.items ≤ l.place;
  tells : TellsLevels (zip l.all l.levels.items) l.last;
  knows : Knows (zip l.all l.levels.items) l.next;
  leads : Leads l.end l.next;
}
