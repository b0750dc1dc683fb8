use Rattle.std.proofs.Common.{◌≡◌, take}
use Rattle.verb_core.specs.Mailboxes.{keys_of, without}
use Rattle.mail_rows.proofs.sights.others_of.Given as goal

abbrev pub invariant-loop-entry : goal.invariant-loop-entry
invariant-loop-entry l = l.others ≡ keys_of (without l.fn.keys (take l.entry-index l.entries))
