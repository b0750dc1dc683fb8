use Rattle.std.proofs.Common.{◌≡◌, ℕ, List, ◌∙◌, ap, map, subst, sym}
use Rattle.seal_log.specs.declared.place.Place.{Place}
use Rattle.shelf.specs.Marks.{MarksRise, with_mark}
use Rattle.shelf.specs.Notes.{Noted}
use Rattle.shelf.proofs.MarkLemmas.{positions_with, rise_with}
use Rattle.shelf.proofs.rows.Shelf.keep.Goals as goal

-- the positions still rise
pub invariant_of-self : goal.invariant_of-self
invariant_of-self c =
    (c.self.invariant.0, subst MarksRise (sym c.put_mark.ensures.items) (rise_with c.args.position c.args.place c.self.inside.marks.items c.self.invariant.1))

pub returns-clause-positions : goal.returns-clause-positions
returns-clause-positions c =
    let same : c.self.inside.marks.items ≡ c.args.self.now.marks = ap (λ (v : Noted). v.marks) c.self.view_is in
    ap (map (λ (m : ℕ × Place). m.0)) (c.put_mark.ensures.items ∙ ap (λ (ms : List (ℕ × Place)). with_mark c.args.position c.args.place ms) same)
    ∙ positions_with c.args.position c.args.place c.args.self.now.marks
