use Rattle.std.proofs.Common.{◌≡◌, ◌++◌, take, drop}
use Rattle.cycle_rules.specs.Judging.{shown_after}
use Rattle.mail_cycle.proofs.showing.show_all.Given as goal

-- the items so far, and what the answers that are left make of those that are left, are all of them
abbrev pub invariant-loop-item : goal.invariant-loop-item
invariant-loop-item l = record {
  later : drop l.item-index l.item-items ≡ drop l.item-index l.fn.items.items;
  items : take l.item-index l.item-items ++ shown_after l.left (drop l.item-index l.fn.items.items) l.now ≡ shown_after l.front l.fn.items.items l.now-2;
}
