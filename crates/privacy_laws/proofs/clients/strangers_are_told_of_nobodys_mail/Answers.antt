use Rattle.privacy_laws.proofs.Outside.{strangers}
use Rattle.privacy_laws.proofs.clients.strangers_are_told_of_nobodys_mail.Goals as goal

pub returns : goal.returns
returns c house s t one other deep tag d asked user selected = strangers house s t one other deep tag d asked user selected
