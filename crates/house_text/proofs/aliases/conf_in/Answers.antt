use Rattle.std.proofs.Common.{sym, ◌∙◌, option_map}
use Rattle.toml.specs.View.{view}
use Rattle.house_text.proofs.Sound.{listed_aliases_known}
use Rattle.house_text.proofs.aliases.conf_in.Goals as goal

pub returns-clause-known : goal.returns-clause-known
returns-clause-known c =
    listed_aliases_known c.args.accounts.now (option_map (λ v. view v.now) c.value_at.result) c.in-Some.aliases (sym c.in_ok-aliases.ensures.value ∙ c.in-Some.is)
