use Rattle.std.proofs.Common.{◌≡◌, true, IfOk, subst}
use Rattle.verb_core.specs.declared.item.Item.{Item}
use Rattle.verb_core.specs.Items.{text_in}
use Rattle.mail_desk.specs.Timeline.{NotesText, body_of}
use Rattle.time_desk.specs.Standing.{Enters}
use Rattle.verb_core.specs.Deeds.{act_item}
use Rattle.verb_bytes.specs.declared.journal.JournalRecord.TheVariants.{Operator}
use Rattle.verb_bytes.specs.Spelling.{record_bytes}
use Rattle.time_desk.proofs.Holding.{entered_marks, entered_record}
use Rattle.time_desk.proofs.standing.enter_act.Goals as goal

pub returns-clause-noted : goal.returns-clause-noted
returns-clause-noted g =
    entered_record g.args.end g.args.place (record_bytes (Operator g.args.number g.args.at g.args.act)) g.act_text_from-from.result g.args.desk.now g.enter.new.desk (act_item g.args.number g.args.at g.args.act) g.enter.result
    g.requires.place g.requires.long (λ text own. g.act_text_from-from.ensures.lies g.args.number g.args.at text own) g.stands.ensures.base g.stands.ensures.below g.stands.ensures.undone
    (subst (λ (i : Item). IfOk g.enter.result (λ stood. Enters g.args.desk.now.kept i stood g.enter.new.desk.kept)) g.item_of.ensures g.enter.ensures.entered)
    (subst (λ (i : Item). IfOk g.enter.result (λ stood. stood ≡ true → NotesText (text_in i.deed) (body_of i) g.args.place g.act_text_from-from.result g.args.desk.now.notes g.enter.new.desk.notes)) g.item_of.ensures g.enter.ensures.noted)

pub returns-clause-marked : goal.returns-clause-marked
returns-clause-marked g =
    entered_marks g.args.end g.args.place (record_bytes (Operator g.args.number g.args.at g.args.act)) g.args.desk.now g.enter.new.desk (act_item g.args.number g.args.at g.args.act) g.enter.result
    (subst (λ (i : Item). IfOk g.enter.result (λ stood. Enters g.args.desk.now.kept i stood g.enter.new.desk.kept)) g.item_of.ensures g.enter.ensures.entered) g.enter.ensures.marks
