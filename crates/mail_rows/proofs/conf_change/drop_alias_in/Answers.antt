use Rattle.std.proofs.Common.{bytes_eq, not, rules}
use Rattle.std.proofs.lemmas.Fn.{filter_same}
use Rattle.verb_core.specs.declared.conf.Alias.{Alias}
use Rattle.mail_rows.proofs.conf_change.drop_alias_in.Goals as goal

pub returns : goal.returns
returns c = filter_same _ (λ (a : Alias). not (bytes_eq c.args.local.now a.local)) _ (λ x b f k. search rules) _ _ c.retain.ensures.filtered
