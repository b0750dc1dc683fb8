use Rattle.std.proofs.Common.{◌≡◌, ℕ, ◌∙◌, ap, map, nat_le, subst, sym, take}
use Rattle.seal_log.specs.declared.place.Place.{Place}
use Rattle.shelf.specs.Marks.{MarksRise, marks_at_or_before}
use Rattle.shelf.specs.Notes.{Noted}
use Rattle.shelf.proofs.MarkLemmas.{map_filter, rise_filter}
use Rattle.shelf.proofs.rows.Shelf.forget_after.Goals as goal

-- what is left
left : (c : goal.After-truncate) → c.truncate.new.self.items ≡ marks_at_or_before c.args.position c.self.inside.marks.items
left c = c.truncate.ensures.items ∙ ap (take c.count_to-count.result) (sym c.as_slice.ensures.value) ∙ c.count_to-count.ensures.front ∙ ap (marks_at_or_before c.args.position) c.as_slice.ensures.value

-- it still rises
pub invariant_of-self : goal.invariant_of-self
invariant_of-self c = (c.self.invariant.0, subst MarksRise (sym (left c)) (rise_filter (λ (m : ℕ × Place). nat_le m.0 c.args.position) c.self.inside.marks.items c.self.invariant.1))

pub returns-clause-positions : goal.returns-clause-positions
returns-clause-positions c =
    let same : c.self.inside.marks.items ≡ c.args.self.now.marks = ap (λ (v : Noted). v.marks) c.self.view_is in
    ap (map (λ (m : ℕ × Place). m.0)) (left c ∙ ap (marks_at_or_before c.args.position) same)
    ∙ map_filter (λ (m : ℕ × Place). m.0) (λ p. nat_le p c.args.position) c.args.self.now.marks
