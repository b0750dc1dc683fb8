use Rattle.std.proofs.Common.{◌∙◌, ◌++◌, ◌∷◌, [], List, ℕ, ap}
use Rattle.std.proofs.lemmas.List.{append_assoc}
use Rattle.verb_core.specs.declared.mailbox.BoxId.{BoxId}
use Rattle.verb_core.specs.declared.mailbox.Mailbox.{Mailbox}
use Rattle.verb_core.specs.Mailboxes.{no_mail}
use Rattle.verb_core.specs.Boxes.{box_of}
use Rattle.mail_rows.proofs.opening.push_fixed.Goals as goal

pub returns : goal.returns
returns c =
    let first = c.empty_row.ensures ∙ ap (λ (name : List ℕ). (box_of c.args.user name, no_mail)) c.in_ok-inbox.ensures in
    let second = c.empty_row-2.ensures ∙ ap (λ (name : List ℕ). (box_of c.args.user name, no_mail)) c.in_ok-lost.ensures in
    c.in_ok-push-2.ensures.items
    ∙ ap (λ (rows : List (BoxId × Mailbox)). rows ++ c.empty_row-2.result ∷ []) c.in_ok-push.ensures.items
    ∙ append_assoc c.args.rows.now.items (c.empty_row.result ∷ []) (c.empty_row-2.result ∷ [])
    ∙ (λ j. c.args.rows.now.items ++ first j ∷ second j ∷ [])
