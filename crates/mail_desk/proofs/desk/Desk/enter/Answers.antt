use Rattle.std.proofs.Common.{◌≡◌, ap, subst, ◌∙◌}
use Rattle.verb_core.specs.declared.item.Item.{Item}
use Rattle.verb_core.specs.Items.{text_in}
use Rattle.store_kept.specs.Kept.{performed}
use Rattle.mail_desk.specs.Timeline.{NotesText, body_of}
use Rattle.mail_desk.proofs.Readied.{entered_stored}
use Rattle.mail_desk.proofs.desk.Desk.enter.Goals as goal

pub put-requires : goal.put-requires
put-requires c = entered_stored c.args.ready c.args.self.now c.requires

pub returns-clause-kept : goal.returns-clause-kept
returns-clause-kept c = c.put.ensures.kept ∙ ap (performed c.args.self.now.kept) c.requires.stored

pub returns-clause-notes : goal.returns-clause-notes
returns-clause-notes c =
    subst (λ (i : Item). NotesText (text_in i.deed) (body_of i) c.args.place c.args.from c.args.self.now.notes c.put.new.self.notes) c.requires.stored c.put.ensures.notes
