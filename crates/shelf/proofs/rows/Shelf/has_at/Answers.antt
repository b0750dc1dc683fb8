use Rattle.std.proofs.Common.{sym, subst, ◌∙◌, arith}
use Rattle.shelf.specs.Notes.{Noted}
use Rattle.shelf.specs.Rows.{IsAt}
use Rattle.shelf.proofs.PlaceLemmas.{at_place}
use Rattle.shelf.proofs.rows.Shelf.has_at.Goals as goal

-- the row that was read has the body
pub returns : goal.returns
returns c = λ same.
    subst (λ (v : Noted). IsAt v.notes c.args.body c.args.place) c.self.view_is
    (at_place c.self.inside.rows.items c.args.body c.args.place c.index.result.now (omega arith) c.index.ensures (sym c.is_same.ensures ∙ same))
