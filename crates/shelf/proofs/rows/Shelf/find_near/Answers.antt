use Rattle.std.proofs.Common.{◌≡◌, Some, sym, ap, subst, ◌∙◌, get_or}
use Rattle.verb_core.specs.declared.mailbox.Body.{Body}
use Rattle.shelf.specs.declared.note.Note.{Note}
use Rattle.shelf.specs.Notes.{Noted, note_of}
use Rattle.shelf.specs.Rows.{IsAt}
use Rattle.shelf.proofs.PlaceLemmas.{note_at, note_in_gap}
use Rattle.shelf.proofs.rows.Shelf.find_near.Goals as goal

-- the note that was read is the body's
pub returns-in-Ok : goal.returns-in-Ok
returns-in-Ok c =
    let found = subst (λ (v : Noted). IsAt v.notes c.args.body c.in-Ok.at) (sym c.self.view_is) c.in-Ok.ensures.found in
    let there : note_of c.self.inside.rows.items c.args.body ≡ Some (get_or c.self.inside.rows.items c.in-Ok.at c.index.result.now).1 = note_at c.self.inside.rows.items c.self.invariant.0 c.args.body c.in-Ok.at found c.index.result.now in
    let is : note_of c.self.inside.rows.items c.args.body ≡ Some c.index.result.now.1 = there ∙ ap (λ (row : Body × Note). Some row.1) (sym c.index.ensures) in
    subst (λ (v : Noted). Some c.index.result.now.1 ≡ note_of v.notes c.args.body) c.self.view_is (sym is)

-- the body is not noted
pub returns-in-Err : goal.returns-in-Err
returns-in-Err c = sym (note_in_gap _ _ _ c.in-Err.ensures.absent)
