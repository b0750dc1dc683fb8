use Rattle.std.proofs.Common.{◌≡◌, ◌∷◌, subst}
use Rattle.verb_core.specs.Mailboxes.{is_among}
use Rattle.mail_rows.proofs.Keys.{one_more}
use Rattle.mail_rows.proofs.key_set.KeySet.insert.Goals as goal

pub returns : goal.returns
returns c = λ other. subst (λ keys. is_among c.insert.new.self.keys other ≡ is_among (c.args.key ∷ keys) other) c.self.view_is (one_more c.args.key other c.self.inside.keys.keys c.insert.new.self.keys (c.in_ok-insert.ensures.updates.0 other))
