use Rattle.std.proofs.Common.{◌≡◌, take}
use Rattle.mail_rows.specs.Changes.{puts_by, copies_by}
use Rattle.mail_rows.proofs.new_mail.put_each_copies.Given as goal

abbrev pub invariant-loop-aim : goal.invariant-loop-aim
invariant-loop-aim l = l.puts ≡ puts_by (λ _. copies_by l.fn.number l.index l.fn.keys) (take l.aim-index l.aims)
