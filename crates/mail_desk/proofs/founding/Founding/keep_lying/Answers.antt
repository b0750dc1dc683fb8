use Rattle.std.proofs.Common.{◌≡◌, [], ◌∷◌, ◌++◌, List, ap, subst, sym, false, true, ◌∙◌}
use Rattle.verb_core.specs.declared.conf.House.{House}
use Rattle.verb_core.specs.declared.item.Item.{Item}
use Rattle.verb_core.specs.declared.item.Shown.{Shown}
use Rattle.verb_core.specs.Items.{IsWellFormed, text_in}
use Rattle.verb_core.specs.Store.{IsValid, MailStore}
use Rattle.shelf.specs.declared.note.Note.{Note}
use Rattle.verb_core.specs.declared.mailbox.Body.{Body}
use Rattle.box_store.specs.Effects.{applied}
use Rattle.verb_core.specs.Step.{step}
use Rattle.stored_items.specs.Stored.{looks_at_text, whole}
use Rattle.store_kept.specs.Founding.{can_be_kept, store_based}
use Rattle.mail_desk.proofs.Readied.{looks_alike}
use Rattle.mail_desk.specs.Founding.{Founded}
use Rattle.mail_desk.specs.Timeline.{NotesText, body_of}
use Rattle.mail_desk.proofs.Foundings.{founding_item, store_house, store_valid}
use Rattle.mail_desk.specs.contracts.founding.Founding.{the_view}
use Rattle.mail_desk.proofs.founding.Founding.keep_lying.Goals as goal

pub make_room-requires-clause-valid : goal.make_room-requires-clause-valid
make_room-requires-clause-valid c =
    let is = c.self.invariant in
    let f : Founded = the_view c.self.inside in
    subst IsValid (sym is.runs) (store_valid c.rows_make_valid_stores.ensures.valid c.steps_keep_validity.ensures.step f.house f.based is.stands is.formed)

pub make_room-requires-clause-formed : goal.make_room-requires-clause-formed
make_room-requires-clause-formed c =
    let is = c.self.invariant in
    let f : Founded = the_view c.self.inside in
    let house : c.self.inside.store.store.house ≡ f.house = ap (λ (s : MailStore). s.house) is.runs ∙ store_house f.house f.based in
    subst (λ (i : Item). IsWellFormed c.self.inside.store.store.house i) (sym c.lying-stored.ensures)
    (subst (λ (h : House). IsWellFormed h (whole c.args.item c.args.text)) (sym (house ∙ ap (λ (g : Founded). g.house) c.self.view_is)) c.requires.formed)

pub invariant_of-self : goal.invariant_of-self
invariant_of-self c =
    let is = c.self.invariant in
    let d = c.self.inside in
    let f : Founded = the_view d in
    let item = whole c.args.item c.args.text in
    let unlooked : looks_at_text d.store.store c.lying-stored.result.deed ≡ false =
    subst (λ (i : Item). looks_at_text d.store.store i.deed ≡ false) (sym c.lying-stored.ensures)
    (looks_alike d.store.store c.args.item.deed c.args.text
    ∙ ap (λ (s : MailStore). looks_at_text s c.args.item.deed) (is.runs ∙ ap (λ (g : Founded). store_based g.house g.based) c.self.view_is) ∙ c.requires.unlooked) in
    founding_item f d.past.texts d.numbers.items d.store.store c.apply_alone.new.self.store d.shelf.marks c.note_stored.new.shelf.marks item c.args.place c.args.from c.note_stored.new.shelf.notes c.put.new.self.items is
    (subst (λ (g : Founded). IsWellFormed g.house item) (sym c.self.view_is) c.requires.formed)
    (subst (λ (g : Founded). can_be_kept g.based item ≡ true) (sym c.self.view_is) c.requires.may)
    (c.put.ensures ∙ (λ j. c.in-Ok.ensures.timeline j ++ c.lying-stored.ensures j ∷ []))
    (c.apply_alone.ensures.store ∙ ap (applied c.in-Ok.effect) c.in-Ok.ensures.store ∙ c.in-Ok.ensures.does
    ∙ ap (λ (after : MailStore × Shown). after.0) (c.texts_are_not_looked_at.ensures.does d.store.store c.lying-stored.result [] unlooked) ∙ ap (λ (i : Item). (step d.store.store i).0) c.lying-stored.ensures)
    (subst (λ (notes : List (Body × Note)). NotesText (text_in item.deed) (body_of item) c.args.place c.args.from notes c.note_stored.new.shelf.notes) c.in-Ok.ensures.shelf
    (subst (λ (i : Item). NotesText (text_in i.deed) (body_of i) c.args.place c.args.from c.make_room.new.shelf.notes c.note_stored.new.shelf.notes) c.lying-stored.ensures c.note_stored.ensures.notes))
    (c.note_stored.ensures.marks ∙ c.in-Ok.ensures.marks)
