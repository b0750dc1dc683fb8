use Rattle.std.proofs.Common.{◌≡◌, ℕ, List, refl, length, not, subst, sym, true, ◌&&◌, ◌∙◌}
use Rattle.std.specs.Cmp.{first_so}
use Rattle.verb_core.specs.declared.mailbox.Body.{Body}
use Rattle.verb_core.specs.Names.{is_empty}
use Rattle.shelf.specs.declared.note.Note.{Note}
use Rattle.shelf.specs.Notes.{NotesOnly}
use Rattle.store_kept.specs.Founding.{has_text_of, names_body, text_stands}
use Rattle.store_kept.specs.Naming.{texts_come}
use Rattle.mail_desk.specs.Founding.{Founded}
use Rattle.mail_desk.specs.contracts.founding.Founding.{the_view}
use Rattle.mail_desk.proofs.Foundings.{founding_text}
use Rattle.mail_desk.proofs.founding.Founding.text_lying.Goals as goal

pub invariant_of-self : goal.invariant_of-self
invariant_of-self c =
    let d = c.self.inside in
    let f : Founded = the_view d in
    let b = f.based in
    let body = c.args.body in
    let note : Note = record { place = c.args.place; from = c.args.from; length = length c.args.text } in
    let stands : text_stands b body ≡ true = subst (λ (g : Founded). text_stands g.based body ≡ true) (sym c.self.view_is) c.requires in
    let empty : is_empty b.items ≡ true = first_so (is_empty b.items) (names_body b.rows body) (first_so (is_empty b.items && names_body b.rows body) (not (has_text_of b.texts body)) stands) in
    founding_text f d.past.texts c.put_lying.new.self d.numbers.items d.store.store d.shelf.marks c.note.new.self.marks body c.args.text note c.note.new.self.notes (texts_come c.put_lying.new.self) c.self.invariant empty c.put_lying.ensures.names c.put_lying.ensures.texts
    (subst (λ (notes : List (Body × Note)). NotesOnly notes c.note.new.self.notes body note) c.in-Ok.ensures.notes (subst (λ (n : ℕ). NotesOnly c.note_room.new.self.notes c.note.new.self.notes body (record note { length = n })) c.len-size.ensures c.note.ensures.notes))
    refl (c.note.ensures.marks ∙ c.in-Ok.ensures.marks)
