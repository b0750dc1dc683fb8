use Rattle.std.proofs.Common.{◌≡◌, take}
use Rattle.mail_rows.specs.Indexed.{sights_by}
use Rattle.mail_rows.proofs.sights.sights_in.Given as goal

abbrev pub invariant-loop-key : goal.invariant-loop-key
invariant-loop-key l = l.sights ≡ sights_by l.index (take l.key-index l.keys)
