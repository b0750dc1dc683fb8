use Rattle.std.proofs.Common.{◌≡◌, [], false, ap, subst, sym, ◌∙◌}
use Rattle.verb_core.specs.declared.item.Item.{Item}
use Rattle.verb_core.specs.Items.{IsWellFormed, text_in}
use Rattle.stored_items.specs.Stored.{looks_at_text, whole}
use Rattle.store_kept.specs.Kept.{performed, store_of}
use Rattle.mail_desk.specs.Timeline.{NotesText, body_of}
use Rattle.mail_desk.proofs.Readied.{looks_alike}
use Rattle.mail_desk.proofs.desk.Desk.enter_lying.Goals as goal

pub make_ready-requires-clause-formed : goal.make_ready-requires-clause-formed
make_ready-requires-clause-formed c = subst (λ (i : Item). IsWellFormed c.args.self.now.kept.house i) (sym c.lying-stored.ensures) c.requires.formed

pub make_ready-requires-clause-number : goal.make_ready-requires-clause-number
make_ready-requires-clause-number c = ap (λ (i : Item). i.number) c.lying-stored.ensures ∙ c.requires.number

pub make_ready-requires-clause-alike : goal.make_ready-requires-clause-alike
make_ready-requires-clause-alike c =
    let s = store_of c.args.self.now.kept in
    c.texts_are_not_looked_at.ensures.does s c.lying-stored.result []
    (ap (λ (i : Item). looks_at_text s i.deed) c.lying-stored.ensures ∙ looks_alike s c.args.item.deed c.args.text ∙ c.requires.unlooked)

pub returns-in-Ok-clause-kept : goal.returns-in-Ok-clause-kept
returns-in-Ok-clause-kept c = c.put.ensures.kept ∙ (λ j. performed (c.in-Ok.ensures.kept j) (c.lying-stored.ensures j))

pub returns-in-Ok-clause-notes : goal.returns-in-Ok-clause-notes
returns-in-Ok-clause-notes c =
    let item = whole c.args.item c.args.text in
    subst (λ notes. NotesText (text_in item.deed) (body_of item) c.args.place c.args.from notes c.put.new.self.notes) c.in-Ok.ensures.notes
    (subst (λ (i : Item). NotesText (text_in i.deed) (body_of i) c.args.place c.args.from c.make_ready.new.self.notes c.put.new.self.notes) c.lying-stored.ensures c.put.ensures.notes)
