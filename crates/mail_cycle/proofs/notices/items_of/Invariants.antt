use Rattle.std.proofs.Common.{◌≡◌, ◌+◌, ◌++◌, drop}
use Rattle.cycle_rules.specs.Cycles.{notice_items}
use Rattle.mail_cycle.proofs.notices.items_of.Given as goal

-- the items so far, and those of the notices that are left, are all of them
abbrev pub invariant-loop-notice : goal.invariant-loop-notice
invariant-loop-notice l = record {
  number : l.number ≡ l.last + l.notice-index;
  items : l.items ++ notice_items l.number l.at (drop l.notice-index l.notices) ≡ notice_items l.last l.at l.notices;
}
