use Rattle.std.proofs.lemmas.Result.{IfOk-weaker}
use Rattle.shelf.specs.Notes.{size_of}
use Rattle.imap_session.proofs.Turns.{check_is, noop_is}
use Rattle.imap_session.proofs.obey.obey.Goals as goal

pub returns-in-Noop-clause-ok : goal.returns-in-Noop-clause-ok
returns-in-Noop-clause-ok c =
    IfOk-weaker c.follow.result _ _ (λ out told.
    noop_is c.args.house.now c.args.store.now.store (size_of c.args.sizes.now.notes) c.args.deep c.args.command.now.tag c.args.dialog.now c.args.command.now.what _ c.in-Noop.is (told c.args.dialog.now.awaits))
    c.follow.ensures.ok

pub returns-in-Check-clause-ok : goal.returns-in-Check-clause-ok
returns-in-Check-clause-ok c =
    IfOk-weaker c.check.result _ _ (λ out told.
    check_is c.args.house.now c.args.store.now.store (size_of c.args.sizes.now.notes) c.args.deep c.args.command.now.tag c.args.dialog.now c.args.command.now.what _ c.in-Check.is (told c.args.dialog.now.awaits))
    c.check.ensures.ok
