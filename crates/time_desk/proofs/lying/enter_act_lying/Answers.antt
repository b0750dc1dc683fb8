use Rattle.std.proofs.Common.{◌≡◌, ◌∙◌, [], Some, false, true, IfOk, ap, subst, sym}
use Rattle.verb_core.specs.declared.item.Item.{Item}
use Rattle.verb_core.specs.Deeds.{act_item, is_notice}
use Rattle.verb_core.specs.Items.{text_in}
use Rattle.verb_bytes.specs.declared.journal.JournalRecord.TheVariants.{Operator}
use Rattle.verb_bytes.specs.Holes.{act_with}
use Rattle.verb_bytes.specs.Spelling.{record_bytes}
use Rattle.stored_items.specs.Stored.{whole}
use Rattle.mail_desk.specs.Timeline.{NotesText, body_of}
use Rattle.time_desk.specs.Standing.{Enters}
use Rattle.time_desk.proofs.Headed.{act_whole, plain_act, text_there}
use Rattle.time_desk.proofs.Holding.{entered_marks, entered_record}
use Rattle.time_desk.proofs.lying.enter_act_lying.Goals as goal

-- the item that was entered is that of the act with its text
same : (g : goal.After-enter_lying) → whole g.item_of.result g.args.lying.text ≡ act_item g.args.number g.args.at (act_with g.args.lying.text g.args.act)
same g = ap (λ (i : Item). whole i g.args.lying.text) g.item_of.ensures ∙ act_whole g.args.number g.args.at g.args.act g.args.lying.text

pub enter_lying-requires-clause-plain : goal.enter_lying-requires-clause-plain
enter_lying-requires-clause-plain c = subst (λ (i : Item). is_notice i.deed ≡ false) (sym c.item_of.ensures) (plain_act c.args.number c.args.at c.args.act)

pub enter_lying-requires-clause-empty : goal.enter_lying-requires-clause-empty
enter_lying-requires-clause-empty c = subst (λ (i : Item). text_in i.deed ≡ Some []) (sym c.item_of.ensures) c.requires.empty

pub returns-clause-noted : goal.returns-clause-noted
returns-clause-noted g =
    let i : Item = act_item g.args.number g.args.at (act_with g.args.lying.text g.args.act) in
    let bytes = record_bytes (Operator g.args.number g.args.at (act_with g.args.lying.text g.args.act)) in
    entered_record g.args.end g.args.lying.place bytes g.args.lying.from g.args.desk.now g.enter_lying.new.desk i g.enter_lying.result
    g.requires.place g.requires.long
    (λ own is. text_there (act_item g.args.number g.args.at g.args.act) bytes g.args.lying.text g.args.lying.from g.requires.empty g.requires.lies own
    (ap (λ (j : Item). text_in j.deed) (act_whole g.args.number g.args.at g.args.act g.args.lying.text) ∙ is))
    g.stands.ensures.base g.stands.ensures.below g.stands.ensures.undone
    (subst (λ (j : Item). IfOk g.enter_lying.result (λ stood. Enters g.args.desk.now.kept j stood g.enter_lying.new.desk.kept)) (same g) g.enter_lying.ensures.entered)
    (subst (λ (j : Item). IfOk g.enter_lying.result (λ stood. stood ≡ true → NotesText (text_in j.deed) (body_of j) g.args.lying.place g.args.lying.from g.args.desk.now.notes g.enter_lying.new.desk.notes)) (same g) g.enter_lying.ensures.noted)

pub returns-clause-marked : goal.returns-clause-marked
returns-clause-marked g =
    entered_marks g.args.end g.args.lying.place (record_bytes (Operator g.args.number g.args.at (act_with g.args.lying.text g.args.act))) g.args.desk.now g.enter_lying.new.desk (act_item g.args.number g.args.at (act_with g.args.lying.text g.args.act)) g.enter_lying.result
    (subst (λ (j : Item). IfOk g.enter_lying.result (λ stood. Enters g.args.desk.now.kept j stood g.enter_lying.new.desk.kept)) (same g) g.enter_lying.ensures.entered) g.enter_lying.ensures.marks
