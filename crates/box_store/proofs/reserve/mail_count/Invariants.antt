use Rattle.std.proofs.Common.{◌≡◌, ◌+◌, drop}
use Rattle.box_store.specs.Effects.{mail_in}
use Rattle.box_store.proofs.reserve.mail_count.Given as goal

-- the count so far and the mail that is left are all of the mail
abbrev pub invariant-loop-put : goal.invariant-loop-put
invariant-loop-put l = l.count + mail_in (drop l.put-index l.puts) ≡ mail_in l.puts
