use Rattle.std.proofs.Common.{◌≡◌, ◌+◌, ◌++◌, take, drop}
use Rattle.mail_rows.specs.Mail.{numbered}
use Rattle.mail_rows.proofs.mail.begun_anew.Given as goal

-- the first entries have their new UIDs
abbrev pub invariant-loop-entry : goal.invariant-loop-entry
invariant-loop-entry l = record {
  items : l.entry-items ≡ numbered 1 (take l.entry-index l.fn.list.items) ++ drop l.entry-index l.fn.list.items;
  next : l.next ≡ 1 + l.entry-index;
}
