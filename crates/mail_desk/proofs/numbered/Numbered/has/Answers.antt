use Rattle.std.proofs.Common.{ap, is_some, sym, ◌∙◌}
use Rattle.mail_desk.proofs.Indexes.{copied_some, number_found}
use Rattle.mail_desk.proofs.numbered.Numbered.has.Goals as goal

pub returns : goal.returns
returns c = c.is_some.ensures ∙ sym (copied_some c.find.result) ∙ ap is_some c.find.ensures ∙ number_found c.args.self.now.items c.args.number
