use Rattle.std.proofs.Common.{◌≡◌, subst, sym, true, refl}
use Rattle.pop_session.specs.declared.dialog.Dialog.{Dialog}
use Rattle.pop_session.specs.Dialog.{AsksAsUser, IsNext, heard, is_at_home, is_reading}
use Rattle.pop_session.specs.Sound.{IsSoundDialog}
use Rattle.pop_session.proofs.Turns.{dialog_after, fine_heard, out_after}
use Rattle.pop_session.proofs.session.PopSession.read.Goals as goal

pub invariant_of-self : goal.invariant_of-self
invariant_of-self c = (
  dialog_after c.hear.result (heard c.self.inside.dialog c.args.text.now) c.self.inside.dialog c.hear.new.dialog c.hear.ensures.ok c.hear.ensures.err IsSoundDialog
      (fine_heard c.self.inside.dialog c.args.text.now c.self.invariant.0 (subst (λ (d : Dialog). is_reading d ≡ true) (sym c.self.view_is) c.requires)).sound c.self.invariant.0,
  λ other. refl,
)

pub returns-clause-next : goal.returns-clause-next
returns-clause-next c =
    out_after c.hear.result (heard c.self.inside.dialog c.args.text.now) c.hear.new.dialog c.hear.ensures.ok IsNext
    (fine_heard c.self.inside.dialog c.args.text.now c.self.invariant.0 (subst (λ (d : Dialog). is_reading d ≡ true) (sym c.self.view_is) c.requires)).next

pub returns-clause-user : goal.returns-clause-user
returns-clause-user c =
    out_after c.hear.result (heard c.self.inside.dialog c.args.text.now) c.hear.new.dialog c.hear.ensures.ok AsksAsUser
    (fine_heard c.self.inside.dialog c.args.text.now c.self.invariant.0 (subst (λ (d : Dialog). is_reading d ≡ true) (sym c.self.view_is) c.requires)).user

pub returns-clause-home : goal.returns-clause-home
returns-clause-home c = λ house before.
    let home = subst (λ (d : Dialog). is_at_home house d ≡ true) (sym c.self.view_is) before in
    dialog_after c.hear.result (heard c.self.inside.dialog c.args.text.now) c.self.inside.dialog c.hear.new.dialog c.hear.ensures.ok c.hear.ensures.err (λ (d : Dialog). is_at_home house d ≡ true)
    ((fine_heard c.self.inside.dialog c.args.text.now c.self.invariant.0 (subst (λ (d : Dialog). is_reading d ≡ true) (sym c.self.view_is) c.requires)).home house home) home
