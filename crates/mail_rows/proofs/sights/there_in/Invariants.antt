use Rattle.std.proofs.Common.{◌≡◌, take}
use Rattle.mail_rows.specs.Indexed.{there_by}
use Rattle.mail_rows.proofs.sights.there_in.Given as goal

abbrev pub invariant-loop-key : goal.invariant-loop-key
invariant-loop-key l = l.there ≡ there_by l.index (take l.key-index l.keys)
