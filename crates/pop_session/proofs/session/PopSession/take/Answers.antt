use Rattle.std.proofs.Common.{◌≡◌, subst, sym, true, refl}
use Rattle.shelf.specs.Notes.{size_of}
use Rattle.pop_session.specs.declared.dialog.Dialog.{Dialog}
use Rattle.pop_session.specs.Dialog.{AsksAsUser, IsNext, ReadsOf, is_at_home, is_free, turn}
use Rattle.pop_session.specs.Sound.{IsSoundDialog}
use Rattle.pop_session.proofs.Turns.{dialog_after, fine_turn, out_after}
use Rattle.pop_session.proofs.session.PopSession.take.Goals as goal

pub invariant_of-self : goal.invariant_of-self
invariant_of-self c = (
  dialog_after c.take_line.result (turn c.args.house.now c.args.store.now.store c.args.stamps.now (size_of c.args.sizes.now.notes) c.args.in_use.now c.self.inside.dialog c.args.line.now) c.self.inside.dialog c.take_line.new.dialog c.take_line.ensures.ok c.take_line.ensures.err IsSoundDialog
      (fine_turn c.args.house.now c.args.store.now.store c.args.stamps.now (size_of c.args.sizes.now.notes) c.args.in_use.now c.self.inside.dialog c.args.line.now c.self.invariant.0 (subst (λ (d : Dialog). is_free d ≡ true) (sym c.self.view_is) c.requires.free)).sound c.self.invariant.0,
  λ other. refl,
)

pub returns-clause-next : goal.returns-clause-next
returns-clause-next c =
    out_after c.take_line.result (turn c.args.house.now c.args.store.now.store c.args.stamps.now (size_of c.args.sizes.now.notes) c.args.in_use.now c.self.inside.dialog c.args.line.now) c.take_line.new.dialog c.take_line.ensures.ok IsNext
    (fine_turn c.args.house.now c.args.store.now.store c.args.stamps.now (size_of c.args.sizes.now.notes) c.args.in_use.now c.self.inside.dialog c.args.line.now c.self.invariant.0 (subst (λ (d : Dialog). is_free d ≡ true) (sym c.self.view_is) c.requires.free)).next

pub returns-clause-user : goal.returns-clause-user
returns-clause-user c =
    out_after c.take_line.result (turn c.args.house.now c.args.store.now.store c.args.stamps.now (size_of c.args.sizes.now.notes) c.args.in_use.now c.self.inside.dialog c.args.line.now) c.take_line.new.dialog c.take_line.ensures.ok AsksAsUser
    (fine_turn c.args.house.now c.args.store.now.store c.args.stamps.now (size_of c.args.sizes.now.notes) c.args.in_use.now c.self.inside.dialog c.args.line.now c.self.invariant.0 (subst (λ (d : Dialog). is_free d ≡ true) (sym c.self.view_is) c.requires.free)).user

pub returns-clause-reads : goal.returns-clause-reads
returns-clause-reads c =
    out_after c.take_line.result (turn c.args.house.now c.args.store.now.store c.args.stamps.now (size_of c.args.sizes.now.notes) c.args.in_use.now c.self.inside.dialog c.args.line.now) c.take_line.new.dialog c.take_line.ensures.ok (λ out d. ReadsOf c.args.store.now.store out)
    (fine_turn c.args.house.now c.args.store.now.store c.args.stamps.now (size_of c.args.sizes.now.notes) c.args.in_use.now c.self.inside.dialog c.args.line.now c.self.invariant.0 (subst (λ (d : Dialog). is_free d ≡ true) (sym c.self.view_is) c.requires.free)).reads

pub returns-clause-stays : goal.returns-clause-stays
returns-clause-stays c =
    let home = subst (λ (d : Dialog). is_at_home c.args.house.now d ≡ true) (sym c.self.view_is) c.requires.home in
    dialog_after c.take_line.result (turn c.args.house.now c.args.store.now.store c.args.stamps.now (size_of c.args.sizes.now.notes) c.args.in_use.now c.self.inside.dialog c.args.line.now) c.self.inside.dialog c.take_line.new.dialog c.take_line.ensures.ok c.take_line.ensures.err (λ (d : Dialog). is_at_home c.args.house.now d ≡ true)
    ((fine_turn c.args.house.now c.args.store.now.store c.args.stamps.now (size_of c.args.sizes.now.notes) c.args.in_use.now c.self.inside.dialog c.args.line.now c.self.invariant.0 (subst (λ (d : Dialog). is_free d ≡ true) (sym c.self.view_is) c.requires.free)).home home) home
