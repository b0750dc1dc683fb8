use Rattle.std.proofs.Common.{◌≤◌, ◌∙◌, ap, arith, length, subst, sym, take}
use Rattle.mail_desk.specs.Places.{Placed}
use Rattle.mail_desk.proofs.Indexes.{index_sorted, still_kept, taken_twice}
use Rattle.mail_desk.proofs.numbered.Numbered.go_on.Goals as goal

pub invariant_of-self : goal.invariant_of-self
invariant_of-self c =
    let d = c.self.inside in
    let place = subst (λ (p : Placed). c.args.place ≤ length p.items) (sym c.self.view_is) c.requires.place in
    let from : c.args.from ≤ length d.items.items = omega (arith, c.requires.from, place) in
    let front = c.truncate.ensures.items ∙ ap (take c.args.from) c.move_behind.ensures.items ∙ taken_twice c.args.from c.args.place d.items.items c.requires.from in
    index_sorted _ _ _ (c.place_all.ensures.places (still_kept d.places.items _ d.items.items _ c.args.from c.self.invariant from c.keep_places.ensures.items front)) c.sort.ensures.ordered c.sort.ensures.same
