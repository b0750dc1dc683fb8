use Rattle.std.proofs.Common.{sym, subst, set}
use Rattle.shelf.specs.Notes.{Noted, NotesOnly}
use Rattle.shelf.specs.Rows.{IsAt}
use Rattle.shelf.proofs.PlaceLemmas.{rising_set, notes_only_set}
use Rattle.shelf.proofs.rows.Shelf.note.Goals as goal

-- the body was noted, and its note is written over
pub invariant_of-self : goal.invariant_of-self
invariant_of-self c =
    let found = subst (λ (v : Noted). IsAt v.notes c.args.body c.in-Ok.at) (sym c.self.view_is) c.in-Ok.ensures.found in
    (rising_set c.self.inside.rows.items c.self.invariant.0 c.args.body c.in-Ok.at found (record { place = c.args.place; from = c.args.from; length = c.args.length }), c.self.invariant.1)

pub returns-in-Ok-clause-notes : goal.returns-in-Ok-clause-notes
returns-in-Ok-clause-notes c =
    let found = subst (λ (v : Noted). IsAt v.notes c.args.body c.in-Ok.at) (sym c.self.view_is) c.in-Ok.ensures.found in
    subst (λ (v : Noted). NotesOnly v.notes (set c.self.inside.rows.items c.in-Ok.at (c.args.body, record { place = c.args.place; from = c.args.from; length = c.args.length })) c.args.body (record { place = c.args.place; from = c.args.from; length = c.args.length }))
    c.self.view_is (notes_only_set c.self.inside.rows.items c.self.invariant.0 c.args.body c.in-Ok.at found (record { place = c.args.place; from = c.args.from; length = c.args.length }))
