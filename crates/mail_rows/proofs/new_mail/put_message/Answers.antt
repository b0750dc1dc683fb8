use Rattle.std.proofs.Common.{◌∙◌, ◌++◌, ◌∷◌, [], List, ap₂}
use Rattle.verb_core.specs.declared.mailbox.Entry.{Entry}
use Rattle.mail_rows.proofs.new_mail.put_message.Goals as goal

pub returns : goal.returns
returns c =
    let mail = c.in_ok-push.ensures.ok ∙ ap₂ (λ (before : List Entry) (e : Entry). before ++ e ∷ []) c.new-mail.ensures c.message.ensures in
    λ j. record { mailbox = c.in_ok-mailbox.ensures j; mail = mail j }
