use Rattle.std.proofs.Common.{ℕ, nat_lt, rules}
use Rattle.std.proofs.lemmas.Fn.{filter_same}
use Rattle.mail_desk.proofs.numbered.keep_places.Goals as goal

pub returns-clause-items : goal.returns-clause-items
returns-clause-items c = filter_same _ (λ (r : ℕ × ℕ). nat_lt r.1 c.args.from) _ (λ x b f k. search rules) _ _ c.retain.ensures.filtered
