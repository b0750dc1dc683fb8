use Rattle.std.proofs.Common.{◌≡◌, ◌≤◌, ◌<◌, ◌-◌, ℕ, max, true}
use Rattle.replay_plan.specs.Slots.{is_avoided, Leads, SameTaken, IsPast}
use Rattle.replay_plan.proofs.skips.free_level.Given as goal

-- each level below the one so far is taken for the item
abbrev pub invariant-loop-level : goal.invariant-loop-level
invariant-loop-level l = record {
  same : SameTaken l.fn.next l.next;
  leads : Leads l.end l.next;
  from : l.low ≤ l.level;
  past : IsPast l.end l.fn.next l.touches l.level l.free;
  first : (lower : ℕ) → l.low ≤ lower → lower < l.level → is_avoided l.fn.next l.touches lower ≡ true;
}

abbrev pub decreases-loop-level : goal.decreases-loop-level
decreases-loop-level l = max l.low l.end - l.level
