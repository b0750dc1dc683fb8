use Rattle.std.proofs.Common.{◌+◌, ◌-◌, ◌≤◌, ℕ, arith, length, subst, sym}
use Rattle.verb_core.specs.declared.item.Item.{Item}
use Rattle.std.specs.Prelude.{List, OnErr}
use Rattle.replay_crew.specs.Hearing.{TellsAll}
use Rattle.mail_cycle.proofs.Made.{behind_formed, enough, reached_where}
use Rattle.mail_cycle.proofs.cycling.at_point.Goals as goal

pub go_to-requires-clause-place : goal.go_to-requires-clause-place
go_to-requires-clause-place g c =
    let told = g.B.Bodies.told c.args.bodies.now in
    subst (λ (n : ℕ). n - c.args.first.count ≤ length c.in-Ok.edited.items) (sym c.place.ensures.place)
    (enough c.args.due.now c.stands.ensures.task c.args.first c.requires.begins told told c.in-Ok.edited c.in-Ok.ensures)

pub go_to-requires-clause-formed : goal.go_to-requires-clause-formed
go_to-requires-clause-formed g c =
    let told = g.B.Bodies.told c.args.bodies.now in
    behind_formed c.args.due.now c.stands.ensures.task c.args.first c.requires.begins told told c.in-Ok.edited c.in-Ok.ensures

pub go_to-requires-clause-texts : goal.go_to-requires-clause-texts
go_to-requires-clause-texts g c = subst (λ (items : List Item). TellsAll (g.B.Bodies.told c.args.bodies.now) items) (sym c.in-Ok.ensures.items) c.requires.texts

pub returns-in-Ok-clause-there : goal.returns-in-Ok-clause-there
returns-in-Ok-clause-there g c =
    let done = c.go_to.ensures in
    reached_where c.args.due.now c.stands.ensures.task c.args.first c.requires.begins (g.B.Bodies.told c.args.bodies.now) (g.B.Bodies.told c.go_to.new.bodies) c.in-Ok.edited c.in-Ok.ensures
    c.go_to.result c.place.result c.place.ensures.place c.requires.texts done.stays done.passes done.from done.kept done.unmatched

pub returns-in-Ok-clause-most : goal.returns-in-Ok-clause-most
returns-in-Ok-clause-most g c = subst (λ (n : ℕ). OnErr c.go_to.result (c.go_to.new.steps + c.args.first.count ≤ c.args.steps.now + n)) c.place.ensures.place c.go_to.ensures.most

pub returns-in-Err-clause-most : goal.returns-in-Err-clause-most
returns-in-Err-clause-most g c = omega (arith, c.requires.begins.few)
