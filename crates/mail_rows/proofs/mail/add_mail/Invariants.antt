use Rattle.std.proofs.Common.{◌≡◌, ◌+◌, ◌≤◌, ◌++◌, drop, length, vec_len, vec_capacity}
use Rattle.mail_rows.specs.Mail.{numbered}
use Rattle.mail_rows.proofs.mail.add_mail.Given as goal

-- the list with what is left is the list at first with all
abbrev pub invariant-loop-entry : goal.invariant-loop-entry
invariant-loop-entry l = record {
  items : l.list.items ++ numbered l.uid (drop l.entry-index l.mail) ≡ l.fn.list.items ++ numbered l.first l.mail;
  uid : l.uid ≡ l.first + l.entry-index;
  room : vec_len l.list + length l.mail ≤ vec_capacity l.list + l.entry-index;
}
