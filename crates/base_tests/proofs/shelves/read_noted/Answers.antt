use Rattle.std.proofs.Common.{◌≡◌, Some, ap, sym, subst, ◌∙◌, cond}
use Rattle.seal_log.specs.Log.{last_gate}
use Rattle.shelf.specs.declared.note.Note.{Note}
use Rattle.shelf.specs.Notes.{IsNotedBefore, note_of}
use Rattle.shelf.proofs.OrderLemmas.{tested_itself}
use Rattle.base_tests.proofs.shelves.read_noted.Goals as goal

-- the note is that of the body
pub text-found-requires-clause-noted : goal.text-found-requires-clause-noted
text-found-requires-clause-noted g c =
    let note : Note = record { place = c.args.place; from = 2; length = 4 } in
    let is : note_of c.note.new.self.notes c.body-body.result ≡ Some note =
    c.note.ensures.notes c.body-body.result ∙ ap (λ b. cond b (Some note) (note_of c.note_room.new.self.notes c.body-body.result)) (tested_itself c.body-body.result) in
    subst (IsNotedBefore (last_gate c.args.log.now)) (sym is) (record { place = c.requires.place; range = c.requires.range })
