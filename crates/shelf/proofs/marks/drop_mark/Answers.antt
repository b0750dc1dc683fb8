use Rattle.std.proofs.Common.{ℕ, ◌==◌, not, rules}
use Rattle.std.proofs.lemmas.Fn.{filter_same}
use Rattle.seal_log.specs.declared.place.Place.{Place}
use Rattle.shelf.proofs.marks.drop_mark.Goals as goal

pub returns-clause-items : goal.returns-clause-items
returns-clause-items c = filter_same _ (λ (m : ℕ × Place). not (m.0 == c.args.position)) _ (λ x b f k. search rules) _ _ c.retain.ensures.filtered
