use Rattle.std.proofs.Common.{◌∙◌, List, ap}
use Rattle.std.proofs.lemmas.Result.{IfOk-weaker}
use Rattle.verb_core.specs.declared.mailbox.Entry.{Entry}
use Rattle.mail_rows.specs.Changes.{puts_by}
use Rattle.mail_rows.proofs.KeysSeen.{copies_are}
use Rattle.mail_rows.proofs.new_mail.copy_puts.Goals as goal

pub returns : goal.returns
returns c = IfOk-weaker c.put_each_copies.result _ _ (λ r e. e ∙ ap (λ (mail : List Entry). puts_by (λ _. mail) c.args.aims.now) (copies_are c.in_ok-index.index c.args.keys.now c.args.entries.now c.in_ok-index.ensures c.args.number)) c.put_each_copies.ensures
