use Rattle.std.proofs.Common.{◌≡◌, ◌≤◌, ◌∙◌, sym, subst, length, length}
use Rattle.verb_core.specs.Mailboxes.{there}
use Rattle.verb_core.specs.Boxes.{box_of}
use Rattle.verb_core.specs.Live.{asker, mail_of}
use Rattle.box_store.specs.Refusing.{box_outgrows}
use Rattle.box_store.proofs.KeysThere.{few-there}
use Rattle.box_store.proofs.Growth.{box_outgrows-fewer}
use Rattle.box_store.proofs.room.copy_outgrows.Goals as goal

pub returns-then-not-box_outgrows : goal.returns-then-not-box_outgrows
returns-then-not-box_outgrows c =
    sym (box_outgrows-fewer c.args.store.now.store.boxes (box_of (asker c.args.by) c.args.target.now) (length (there (mail_of c.args.store.now.store c.args.by c.args.mailbox.now) c.args.keys.now)) c.len.result
    (subst (λ n. length (there (mail_of c.args.store.now.store c.args.by c.args.mailbox.now) c.args.keys.now) ≤ n) (sym c.len.ensures) (few-there (mail_of c.args.store.now.store c.args.by c.args.mailbox.now) c.args.keys.now))
    (subst (λ u. box_outgrows c.args.store.now.store.boxes (box_of u c.args.target.now) c.len.result ≡ c.box_outgrows.result) c.who_acts.ensures (sym c.box_outgrows.ensures) ∙ c.if-not-box_outgrows.true))
