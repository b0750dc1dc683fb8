use Rattle.std.proofs.Common.{◌≡◌, ap, subst, ◌∙◌}
use Rattle.verb_core.specs.declared.item.Item.{Item}
use Rattle.verb_core.specs.Items.{text_in}
use Rattle.verb_core.specs.Step.{step}
use Rattle.store_kept.specs.Kept.{performed, store_of}
use Rattle.mail_desk.specs.Timeline.{NotesText, body_of}
use Rattle.mail_desk.proofs.Readied.{entered_stored}
use Rattle.mail_desk.proofs.desk.Desk.enter_shown.Goals as goal

pub put-shown-requires : goal.put-shown-requires
put-shown-requires c = entered_stored c.args.ready c.args.self.now c.requires

pub returns-clause-kept : goal.returns-clause-kept
returns-clause-kept c = c.put-shown.ensures.kept ∙ ap (performed c.args.self.now.kept) c.requires.stored

pub returns-clause-shown : goal.returns-clause-shown
returns-clause-shown c = c.put-shown.ensures.shown ∙ ap (λ (i : Item). (step (store_of c.args.self.now.kept) i).1) c.requires.stored

pub returns-clause-notes : goal.returns-clause-notes
returns-clause-notes c =
    subst (λ (i : Item). NotesText (text_in i.deed) (body_of i) c.args.place c.args.from c.args.self.now.notes c.put-shown.new.self.notes) c.requires.stored c.put-shown.ensures.notes
