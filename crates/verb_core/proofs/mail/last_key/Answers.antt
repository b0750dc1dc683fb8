use Rattle.std.proofs.Common.{◌∙◌, option_map, ap}
use Rattle.verb_core.specs.declared.mailbox.Entry.{Entry}
use Rattle.verb_core.proofs.KeyOrders.{last_read}
use Rattle.verb_core.proofs.mail.last_key.Goals as goal

pub returns-in-Some : goal.returns-in-Some
returns-in-Some c = ap (option_map (λ (x : Entry). x.key)) c.in-Some.ensures.value ∙ last_read c.args.entries.now
