use Rattle.std.proofs.Common.{◌≡◌, ◌&&◌, filter, take}
use Rattle.verb_core.specs.Mailboxes.{is_among, keys_of}
use Rattle.mail_rows.proofs.sights.marked_among.Given as goal

abbrev pub invariant-loop-entry : goal.invariant-loop-entry
invariant-loop-entry l = l.marked ≡ keys_of (filter (λ e. e.flags.deleted && is_among l.fn.only e.key) (take l.entry-index l.entries))
