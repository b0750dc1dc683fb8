use Rattle.std.proofs.Common.{sym, ◌∙◌, arith}
use Rattle.mail_rows.proofs.KeyPlaces.{key_at_place}
use Rattle.mail_rows.proofs.places.is_at.Goals as goal

pub returns : goal.returns
returns c = λ same. key_at_place c.args.entries.now c.args.key c.args.place _ (omega arith) (sym c.has_key.ensures ∙ same)
