use Rattle.std.proofs.Common.{◌≡◌, ◌∷◌, [], take}
use Rattle.verb_core.specs.Step.{message}
use Rattle.mail_rows.specs.Changes.{puts_by}
use Rattle.mail_rows.proofs.new_mail.message_puts.Given as goal

abbrev pub invariant-loop-aim : goal.invariant-loop-aim
invariant-loop-aim l = l.puts ≡ puts_by (λ index. message l.fn.item index l.fn.flags l.fn.at ∷ []) (take l.aim-index l.aims)
