use Rattle.std.proofs.Common.{◌≡◌, map, take}
use Rattle.verb_core.specs.Recipients.{resolved}
use Rattle.mail_rows.proofs.reach.meanings.Given as goal

abbrev pub invariant-loop-local : goal.invariant-loop-local
invariant-loop-local l = l.all ≡ map (resolved l.house l.conf) (take l.local-index l.to)
