use Rattle.std.proofs.Common.{◌≡◌, [], ◌∷◌, ◌++◌, List, ap, subst, sym, true, ◌∙◌}
use Rattle.verb_core.specs.declared.conf.House.{House}
use Rattle.verb_core.specs.declared.item.Item.{Item}
use Rattle.verb_core.specs.Items.{IsWellFormed, text_in}
use Rattle.verb_core.specs.Store.{IsValid, MailStore}
use Rattle.shelf.specs.declared.note.Note.{Note}
use Rattle.verb_core.specs.declared.mailbox.Body.{Body}
use Rattle.box_store.specs.Effects.{applied}
use Rattle.store_kept.specs.Founding.{can_be_kept}
use Rattle.mail_desk.specs.Founding.{Founded}
use Rattle.mail_desk.specs.Timeline.{NotesText, body_of}
use Rattle.mail_desk.proofs.Foundings.{founding_item, store_house, store_valid}
use Rattle.mail_desk.specs.contracts.founding.Founding.{the_view}
use Rattle.mail_desk.proofs.founding.Founding.keep.Goals as goal

pub made_room-requires-clause-valid : goal.made_room-requires-clause-valid
made_room-requires-clause-valid c =
    let is = c.self.invariant in
    let f : Founded = the_view c.self.inside in
    subst IsValid (sym is.runs) (store_valid c.rows_make_valid_stores.ensures.valid c.steps_keep_validity.ensures.step f.house f.based is.stands is.formed)

pub made_room-requires-clause-formed : goal.made_room-requires-clause-formed
made_room-requires-clause-formed c =
    let is = c.self.invariant in
    let f : Founded = the_view c.self.inside in
    let house : c.self.inside.store.store.house ≡ f.house = ap (λ (s : MailStore). s.house) is.runs ∙ store_house f.house f.based in
    subst (λ (h : House). IsWellFormed h c.args.item) (sym (house ∙ ap (λ (g : Founded). g.house) c.self.view_is)) c.requires.formed

pub invariant_of-self : goal.invariant_of-self
invariant_of-self c =
    let is = c.self.invariant in
    let d = c.self.inside in
    let f : Founded = the_view d in
    let item = c.args.item in
    founding_item f d.past.texts d.numbers.items d.store.store c.apply_alone.new.self.store d.shelf.marks c.note_text.new.shelf.marks item c.args.place c.args.from c.note_text.new.shelf.notes c.put.new.self.items is
    (subst (λ (g : Founded). IsWellFormed g.house item) (sym c.self.view_is) c.requires.formed)
    (subst (λ (g : Founded). can_be_kept g.based item ≡ true) (sym c.self.view_is) c.requires.may)
    (c.put.ensures ∙ (λ j. c.in-Ok.ensures.timeline j ++ c.of.ensures j ∷ []))
    (c.apply_alone.ensures.store ∙ ap (applied c.in-Ok.effect) c.in-Ok.ensures.store ∙ c.in-Ok.ensures.does)
    (subst (λ (notes : List (Body × Note)). NotesText (text_in item.deed) (body_of item) c.args.place c.args.from notes c.note_text.new.shelf.notes) c.in-Ok.ensures.shelf c.note_text.ensures.notes)
    (c.note_text.ensures.marks ∙ c.in-Ok.ensures.marks)
