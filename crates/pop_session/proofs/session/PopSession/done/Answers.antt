use Rattle.std.proofs.Common.{◌≡◌, subst, sym, true, refl}
use Rattle.pop_session.specs.declared.dialog.Dialog.{Dialog}
use Rattle.pop_session.specs.Dialog.{AsksAsUser, IsNext, is_at_home, is_due, settle}
use Rattle.pop_session.specs.Sound.{IsSoundDialog}
use Rattle.pop_session.proofs.Turns.{dialog_after, fine_settled, out_after}
use Rattle.pop_session.proofs.session.PopSession.done.Goals as goal

pub invariant_of-self : goal.invariant_of-self
invariant_of-self c = (
  dialog_after c.settle.result (settle c.self.inside.dialog c.args.outcome.now) c.self.inside.dialog c.settle.new.dialog c.settle.ensures.ok c.settle.ensures.err IsSoundDialog
      (fine_settled c.self.inside.dialog c.args.outcome.now c.self.invariant.0 (subst (λ (d : Dialog). is_due d ≡ true) (sym c.self.view_is) c.requires)).sound c.self.invariant.0,
  λ other. refl,
)

pub returns-clause-next : goal.returns-clause-next
returns-clause-next c =
    out_after c.settle.result (settle c.self.inside.dialog c.args.outcome.now) c.settle.new.dialog c.settle.ensures.ok IsNext
    (fine_settled c.self.inside.dialog c.args.outcome.now c.self.invariant.0 (subst (λ (d : Dialog). is_due d ≡ true) (sym c.self.view_is) c.requires)).next

pub returns-clause-user : goal.returns-clause-user
returns-clause-user c =
    out_after c.settle.result (settle c.self.inside.dialog c.args.outcome.now) c.settle.new.dialog c.settle.ensures.ok AsksAsUser
    (fine_settled c.self.inside.dialog c.args.outcome.now c.self.invariant.0 (subst (λ (d : Dialog). is_due d ≡ true) (sym c.self.view_is) c.requires)).user

pub returns-clause-home : goal.returns-clause-home
returns-clause-home c = λ house before.
    let home = subst (λ (d : Dialog). is_at_home house d ≡ true) (sym c.self.view_is) before in
    dialog_after c.settle.result (settle c.self.inside.dialog c.args.outcome.now) c.self.inside.dialog c.settle.new.dialog c.settle.ensures.ok c.settle.ensures.err (λ (d : Dialog). is_at_home house d ≡ true)
    ((fine_settled c.self.inside.dialog c.args.outcome.now c.self.invariant.0 (subst (λ (d : Dialog). is_due d ≡ true) (sym c.self.view_is) c.requires)).home house home) home
