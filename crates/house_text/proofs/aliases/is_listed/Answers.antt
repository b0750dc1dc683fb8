use Rattle.std.proofs.Common.{sym, ◌∙◌}
use Rattle.house_text.specs.Configuration as spec
use Rattle.house_text.proofs.Lists.{any_seen}
use Rattle.house_text.proofs.aliases.is_listed.Goals as goal

pub returns : goal.returns
returns c = c.is_among.ensures ∙ sym (any_seen (λ d. spec.is_text d c.args.name.now) c.args.values.now)
