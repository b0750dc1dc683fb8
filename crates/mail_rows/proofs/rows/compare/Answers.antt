use Rattle.std.proofs.Common.{◌∙◌, List, ℕ, Ordering, ap, ap₂, sym}
use Rattle.std.specs.Ordering.{nat_cmp, ordering_then}
use Rattle.std.specs.Cmp.Lexicographic.{slice_cmp}
use Rattle.mail_rows.proofs.rows.compare.Goals as goal

pub returns-in-Less : goal.returns-in-Less
returns-in-Less c = ap (λ (o : Ordering). ordering_then o (slice_cmp nat_cmp c.args.row.now.0.name c.args.name.now)) (sym c.in-Less.is ∙ c.cmp.ensures)

pub returns-in-Equal : goal.returns-in-Equal
returns-in-Equal c =
    c.cmp-in-Equal.ensures
    ∙ ap₂ (λ (o : Ordering) (own : List ℕ). ordering_then o (slice_cmp nat_cmp own c.args.name.now)) (sym c.in-Equal.is ∙ c.cmp.ensures) c.bytes.ensures.value

pub returns-in-Greater : goal.returns-in-Greater
returns-in-Greater c = ap (λ (o : Ordering). ordering_then o (slice_cmp nat_cmp c.args.row.now.0.name c.args.name.now)) (sym c.in-Greater.is ∙ c.cmp.ensures)
