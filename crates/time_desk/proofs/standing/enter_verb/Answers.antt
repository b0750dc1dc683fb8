use Rattle.std.proofs.Common.{◌≤◌, length, arith}
use Rattle.verb_bytes.specs.declared.journal.JournalRecord.TheVariants.{Verb}
use Rattle.verb_bytes.specs.Spelling.{record_bytes}
use Rattle.time_desk.proofs.Holding.{entered_marks, entered_record}
use Rattle.time_desk.proofs.standing.enter_verb.Goals as goal

short : (g : goal.After-enter) → length (record_bytes (Verb g.args.item)) ≤ 4294967295
short g = omega (arith, g.requires.long, g.length_at-length.ensures, g.length_at-length.type_inv)

pub returns-clause-noted : goal.returns-clause-noted
returns-clause-noted g =
    entered_record g.args.end g.args.place (record_bytes (Verb g.args.item)) g.item_text_from-from.result g.args.desk.now g.enter.new.desk g.args.item g.enter.result
    g.requires.place g.requires.long (λ text own. g.item_text_from-from.ensures.lies text g.requires.spelled (short g) own) g.stands.ensures.base g.stands.ensures.below g.stands.ensures.undone g.enter.ensures.entered g.enter.ensures.noted

pub returns-clause-marked : goal.returns-clause-marked
returns-clause-marked g =
    entered_marks g.args.end g.args.place (record_bytes (Verb g.args.item)) g.args.desk.now g.enter.new.desk g.args.item g.enter.result g.enter.ensures.entered g.enter.ensures.marks
