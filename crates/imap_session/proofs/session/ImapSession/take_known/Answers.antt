use Rattle.std.proofs.Common.{◌≡◌, subst, sym, true, refl}
use Rattle.shelf.specs.Notes.{size_of}
use Rattle.imap_session.specs.declared.dialog.Dialog.{Dialog}
use Rattle.imap_session.specs.Dialog.{AsksAsUser, IsNext, ReadsOf, is_at_home, is_free, is_view_current, stays_current, turn, without_memory}
use Rattle.imap_session.specs.Sound.{IsSoundDialog}
use Rattle.imap_session.proofs.Turns.{current_after, fine_left, fine_obey}
use Rattle.imap_session.proofs.Settled.{dialog_after, out_after}
use Rattle.imap_session.proofs.session.ImapSession.take_known.Goals as goal

pub invariant_of-self : goal.invariant_of-self
invariant_of-self c = (
  dialog_after c.obey.result (turn c.args.house.now c.args.store.now.store (size_of c.args.sizes.now.notes) c.args.deep c.self.inside.dialog c.args.command.now) (without_memory c.args.command.now.what c.self.inside.dialog) c.obey.new.dialog c.obey.ensures.ok c.obey.ensures.err IsSoundDialog
      (fine_obey c.args.house.now c.args.store.now.store c.self.inside.dialog c.self.invariant.0 (subst (λ (d : Dialog). is_free d ≡ true) (sym c.self.view_is) c.requires.free) (size_of c.args.sizes.now.notes) c.args.deep c.args.command.now.tag c.args.command.now.what c.requires.valid).sound (fine_left c.args.house.now c.self.inside.dialog c.args.command.now.what c.self.invariant.0).sound,
  λ other. refl,
)

pub returns-clause-next : goal.returns-clause-next
returns-clause-next c =
    out_after c.obey.result (turn c.args.house.now c.args.store.now.store (size_of c.args.sizes.now.notes) c.args.deep c.self.inside.dialog c.args.command.now) c.obey.new.dialog c.obey.ensures.ok IsNext
    (fine_obey c.args.house.now c.args.store.now.store c.self.inside.dialog c.self.invariant.0 (subst (λ (d : Dialog). is_free d ≡ true) (sym c.self.view_is) c.requires.free) (size_of c.args.sizes.now.notes) c.args.deep c.args.command.now.tag c.args.command.now.what c.requires.valid).next

pub returns-clause-user : goal.returns-clause-user
returns-clause-user c =
    out_after c.obey.result (turn c.args.house.now c.args.store.now.store (size_of c.args.sizes.now.notes) c.args.deep c.self.inside.dialog c.args.command.now) c.obey.new.dialog c.obey.ensures.ok AsksAsUser
    (fine_obey c.args.house.now c.args.store.now.store c.self.inside.dialog c.self.invariant.0 (subst (λ (d : Dialog). is_free d ≡ true) (sym c.self.view_is) c.requires.free) (size_of c.args.sizes.now.notes) c.args.deep c.args.command.now.tag c.args.command.now.what c.requires.valid).user

pub returns-clause-reads : goal.returns-clause-reads
returns-clause-reads c =
    out_after c.obey.result (turn c.args.house.now c.args.store.now.store (size_of c.args.sizes.now.notes) c.args.deep c.self.inside.dialog c.args.command.now) c.obey.new.dialog c.obey.ensures.ok (λ out d. ReadsOf c.args.store.now.store out)
    (fine_obey c.args.house.now c.args.store.now.store c.self.inside.dialog c.self.invariant.0 (subst (λ (d : Dialog). is_free d ≡ true) (sym c.self.view_is) c.requires.free) (size_of c.args.sizes.now.notes) c.args.deep c.args.command.now.tag c.args.command.now.what c.requires.valid).reads

pub returns-clause-stays : goal.returns-clause-stays
returns-clause-stays c =
    dialog_after c.obey.result (turn c.args.house.now c.args.store.now.store (size_of c.args.sizes.now.notes) c.args.deep c.self.inside.dialog c.args.command.now) (without_memory c.args.command.now.what c.self.inside.dialog) c.obey.new.dialog c.obey.ensures.ok c.obey.ensures.err (λ (d : Dialog). is_at_home c.args.house.now d ≡ true)
    ((fine_obey c.args.house.now c.args.store.now.store c.self.inside.dialog c.self.invariant.0 (subst (λ (d : Dialog). is_free d ≡ true) (sym c.self.view_is) c.requires.free) (size_of c.args.sizes.now.notes) c.args.deep c.args.command.now.tag c.args.command.now.what c.requires.valid).home (subst (λ (d : Dialog). is_at_home c.args.house.now d ≡ true) (sym c.self.view_is) c.requires.home)) ((fine_left c.args.house.now c.self.inside.dialog c.args.command.now.what c.self.invariant.0).home (subst (λ (d : Dialog). is_at_home c.args.house.now d ≡ true) (sym c.self.view_is) c.requires.home))

pub obey-requires-clause-current : goal.obey-requires-clause-current
obey-requires-clause-current c = λ h. subst (λ (d : Dialog). is_view_current c.args.store.now.store d ≡ true) (sym c.self.view_is) (c.requires.current h)

pub returns-clause-current : goal.returns-clause-current
returns-clause-current c =
    out_after c.obey.result (turn c.args.house.now c.args.store.now.store (size_of c.args.sizes.now.notes) c.args.deep c.self.inside.dialog c.args.command.now) c.obey.new.dialog c.obey.ensures.ok
    (λ out d. stays_current c.args.current c.args.command.now.what out ≡ true → is_view_current c.args.store.now.store d ≡ true)
    (current_after c.args.house.now c.args.store.now.store (size_of c.args.sizes.now.notes) c.args.deep c.args.command.now.tag c.self.inside.dialog c.args.command.now.what c.args.current
    (fine_obey c.args.house.now c.args.store.now.store c.self.inside.dialog c.self.invariant.0 (subst (λ (d : Dialog). is_free d ≡ true) (sym c.self.view_is) c.requires.free) (size_of c.args.sizes.now.notes) c.args.deep c.args.command.now.tag c.args.command.now.what c.requires.valid)
    (λ h. subst (λ (d : Dialog). is_view_current c.args.store.now.store d ≡ true) (sym c.self.view_is) (c.requires.current h)))
