use Rattle.std.proofs.Common.{◌≡◌, ◌≤◌, ◌<◌, ◌-◌, ℕ, max, true, nat_lt}
use Rattle.replay_plan.specs.declared.slots.Part.TheVariants.{Level}
use Rattle.replay_plan.specs.Slots.{spot_on, level_at, Leads, SameTaken}
use Rattle.replay_plan.proofs.skips.first_free.Given as goal

-- each level passed so far is taken
abbrev pub invariant-loop-further : goal.invariant-loop-further
invariant-loop-further l = record {
  same : SameTaken l.fn.next l.next;
  leads : Leads l.end l.next;
  further : l.further ≡ level_at l.next (spot_on l.touch l.written (Level l.free));
  from : l.level ≤ l.free;
  within : l.free ≤ max l.level l.end;
  first : (lower : ℕ) → l.level ≤ lower → lower < l.free → nat_lt 0 (level_at l.fn.next (spot_on l.touch l.written (Level lower))) ≡ true;
}

abbrev pub decreases-loop-further : goal.decreases-loop-further
decreases-loop-further l = l.end - l.free
