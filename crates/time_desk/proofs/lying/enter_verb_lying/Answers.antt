use Rattle.verb_core.specs.declared.item.Item.{Item}
use Rattle.verb_bytes.specs.declared.journal.JournalRecord.TheVariants.{Verb}
use Rattle.verb_bytes.specs.Spelling.{record_bytes}
use Rattle.stored_items.specs.Stored.{whole}
use Rattle.time_desk.proofs.Headed.{text_there}
use Rattle.time_desk.proofs.Holding.{entered_marks, entered_record}
use Rattle.time_desk.proofs.lying.enter_verb_lying.Goals as goal

pub returns-clause-noted : goal.returns-clause-noted
returns-clause-noted g =
    let i : Item = whole g.args.item g.args.lying.text in
    let bytes = record_bytes (Verb i) in
    entered_record g.args.end g.args.lying.place bytes g.args.lying.from g.args.desk.now g.enter_lying.new.desk i g.enter_lying.result
    g.requires.place g.requires.long (text_there g.args.item bytes g.args.lying.text g.args.lying.from g.requires.empty g.requires.lies) g.stands.ensures.base g.stands.ensures.below g.stands.ensures.undone g.enter_lying.ensures.entered g.enter_lying.ensures.noted

pub returns-clause-marked : goal.returns-clause-marked
returns-clause-marked g =
    let i : Item = whole g.args.item g.args.lying.text in
    entered_marks g.args.end g.args.lying.place (record_bytes (Verb i)) g.args.desk.now g.enter_lying.new.desk i g.enter_lying.result g.enter_lying.ensures.entered g.enter_lying.ensures.marks
