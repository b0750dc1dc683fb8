use Rattle.std.proofs.Common.{◌≡◌, ◌≤◌, ◌<◌, ℕ, max, true, false, take}
use Rattle.replay_plan.specs.Slots.{is_avoided, Leads, SameTaken}
use Rattle.replay_plan.proofs.skips.past_item.Given as goal

-- each level passed so far is taken for the item, and where none was passed the first is free for the touches so far
abbrev pub invariant-loop-touch : goal.invariant-loop-touch
invariant-loop-touch l = record {
  same : SameTaken l.fn.next l.next;
  leads : Leads l.end l.next;
  from : l.level ≤ l.free;
  within : l.free ≤ max l.level l.end;
  passed : (lower : ℕ) → l.level ≤ lower → lower < l.free → is_avoided l.fn.next l.touches lower ≡ true;
  still : l.free ≡ l.level → is_avoided l.fn.next (take l.touch-index l.touches) l.level ≡ false;
}
