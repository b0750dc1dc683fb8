use Rattle.std.proofs.Common.{ℕ, ◌==◌, not, sym, subst, ap, ◌∙◌, take, drop, filter, nat_lt}
use Rattle.seal_log.specs.declared.place.Place.{Place}
use Rattle.shelf.specs.Marks.{MarksRise}
use Rattle.shelf.proofs.MarkLemmas.{rise_filter, put_between}
use Rattle.shelf.proofs.marks.put_mark.Goals as goal

-- what is left still rises
pub count_before-at-requires : goal.count_before-at-requires
count_before-at-requires c =
    subst MarksRise (sym (c.as_slice.ensures.value ∙ c.drop_mark.ensures.items))
    (rise_filter (λ (m : ℕ × Place). not (m.0 == c.args.position)) c.args.marks.now.items c.requires.rising)

-- and the snapshot comes into its place
pub returns-clause-items : goal.returns-clause-items
returns-clause-items c =
    let left = c.as_slice.ensures.value in
    c.insert_within.ensures.items
    ∙ put_between c.args.position c.args.place c.args.marks.now.items c.drop_mark.new.marks.items c.count_before-at.result c.drop_mark.ensures.items
    (ap (take c.count_before-at.result) (sym left) ∙ c.count_before-at.ensures.front ∙ ap (filter (λ (m : ℕ × Place). nat_lt m.0 c.args.position)) left)
    (ap (drop c.count_before-at.result) (sym left) ∙ c.count_before-at.ensures.rest ∙ ap (filter (λ (m : ℕ × Place). not (nat_lt m.0 c.args.position))) left)
