use Rattle.mail_rows.proofs.new_mail.put_copies.Goals as goal

pub returns : goal.returns
returns c = λ j. record { mailbox = c.in_ok-mailbox.ensures j; mail = c.in_ok-mail.ensures j }
