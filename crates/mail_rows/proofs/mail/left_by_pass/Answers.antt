use Rattle.std.proofs.Common.{◌∙◌, [], ◌∷◌, not, rules}
use Rattle.std.proofs.lemmas.Fn.{filter_same}
use Rattle.verb_core.specs.declared.mailbox.Entry.{Entry}
use Rattle.verb_core.specs.Mailboxes.{is_among}
use Rattle.mail_rows.proofs.mail.left_by_pass.Goals as goal

pub returns : goal.returns
returns c =
    c.from_vec.ensures
    ∙ filter_same _ (λ (e : Entry). not (is_among (c.args.key ∷ []) e.key)) _ (λ x b f k. search rules) _ _ c.retain.ensures.filtered
