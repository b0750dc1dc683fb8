use Rattle.std.proofs.Common.{drop}
use Rattle.console_http.specs.Members.{user_in}
use Rattle.console_http.proofs.Lists.{IsReadSoFar}
use Rattle.console_http.proofs.members.named_users.Given as goal

abbrev pub invariant-loop-value : goal.invariant-loop-value
invariant-loop-value l = IsReadSoFar (user_in l.house) l.users (drop l.value-index l.values.items) l.values.items
