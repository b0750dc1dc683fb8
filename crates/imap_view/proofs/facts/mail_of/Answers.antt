use Rattle.std.proofs.Common.{◌≡◌, List, [], Option, true, sym, ap, ◌∙◌, subst, option_map}
use Rattle.std.specs.Prelude.{unwrap_or}
use Rattle.verb_core.specs.declared.mailbox.Entry.{Entry}
use Rattle.verb_core.specs.declared.mailbox.Mailbox.{Mailbox}
use Rattle.verb_core.specs.Boxes.{box_of, mail_at}
use Rattle.imap_view.specs.Views.{is_by_uid}
use Rattle.imap_view.proofs.Mail.{mail_by_uid}
use Rattle.imap_view.proofs.facts.mail_of.Goals as goal

-- the mailbox is one of a valid store
pub returns-in-Some-clause-order : goal.returns-in-Some-clause-order
returns-in-Some-clause-order c =
    let store = c.args.store.now.store in
    let id = box_of c.asker.result c.args.name.now in
    let is : mail_at id store.boxes ≡ c.as_slice.result.now =
    ap (λ (o : Option Mailbox). unwrap_or (option_map (λ (m : Mailbox). m.entries) o) []) (sym c.in-Some.ensures) ∙ sym c.as_slice.ensures in
    subst (λ (es : List Entry). is_by_uid es ≡ true) is (mail_by_uid store.house id store.boxes c.requires.rows)
