use Rattle.std.proofs.Common.{◌≡◌, subst, sym, true, refl}
use Rattle.imap_session.specs.declared.dialog.Dialog.{Dialog}
use Rattle.imap_session.specs.Dialog.{is_due, settle}
use Rattle.imap_session.specs.Sound.{IsSoundDialog}
use Rattle.imap_session.proofs.Settled.{dialog_after, fine_settled}
use Rattle.imap_session.proofs.session.ImapSession.done.Goals as goal

pub invariant_of-self : goal.invariant_of-self
invariant_of-self c = (
  dialog_after c.settle.result (settle c.args.store.now.store c.args.stamps.now c.self.inside.dialog c.args.outcome.now) c.self.inside.dialog c.settle.new.dialog c.settle.ensures.ok c.settle.ensures.err IsSoundDialog
      (fine_settled c.args.store.now.store c.args.stamps.now c.self.inside.dialog c.args.outcome.now c.requires.valid c.self.invariant.0 (subst (λ (d : Dialog). is_due d ≡ true) (sym c.self.view_is) c.requires.due)).sound c.self.invariant.0,
  λ other. refl,
)
