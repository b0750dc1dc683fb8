use Rattle.std.proofs.Common.{rules}
use Rattle.std.proofs.lemmas.Fn.{always_returns_same}
use Rattle.verb_core.specs.declared.mailbox.BoxId.{BoxId}
use Rattle.verb_core.specs.declared.mailbox.Mailbox.{Mailbox}
use Rattle.verb_core.specs.Boxes.{box_cmp, box_of}
use Rattle.mail_rows.proofs.PlaceLaws.{searched}
use Rattle.mail_rows.proofs.rows.place_of.Goals as goal

-- the closure compares a row with the mailbox
pub returns-clause-found : goal.returns-clause-found
returns-clause-found c =
    (searched (box_of c.args.user c.args.name.now) c.args.rows.now c.requires c.binary_search_by.result c.binary_search_by.ensures.bound
    (c.binary_search_by.ensures.position (λ (r : BoxId × Mailbox). box_cmp r.0 (box_of c.args.user c.args.name.now)) (always_returns_same _ _ _ (λ a r f called. (search rules, search rules))))).found

pub returns-clause-missing : goal.returns-clause-missing
returns-clause-missing c =
    (searched (box_of c.args.user c.args.name.now) c.args.rows.now c.requires c.binary_search_by.result c.binary_search_by.ensures.bound
    (c.binary_search_by.ensures.position (λ (r : BoxId × Mailbox). box_cmp r.0 (box_of c.args.user c.args.name.now)) (always_returns_same _ _ _ (λ a r f called. (search rules, search rules))))).missing
