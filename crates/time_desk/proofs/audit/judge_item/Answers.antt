use Rattle.std.proofs.Common.{◌≡◌, ◌≤◌, true, length, sym, ◌∙◌, arith}
use Rattle.verb_bytes.specs.declared.journal.JournalRecord.TheVariants.{Verb}
use Rattle.verb_bytes.specs.Spelling.{record_bytes}
use Rattle.desk_journal.specs.Records.{can_follow}
use Rattle.time_desk.proofs.Judging.{judged_marks, judged_notes, item_judged}
use Rattle.time_desk.proofs.Standings.{if_ok}
use Rattle.time_desk.proofs.audit.judge_item.Goals as goal

short : (g : goal.After-enter_judged) → length (record_bytes (Verb g.args.item)) ≤ 4294967295
short g = omega (arith, g.requires.long, g.length_at-length.ensures, g.length_at-length.type_inv)

follows : (g : goal.After-enter_judged) → can_follow g.args.desk.now.kept g.args.item ≡ true
follows g = sym g.can_follow.ensures ∙ g.if-not-can_follow.false

pub returns-clause-judged : goal.returns-clause-judged
returns-clause-judged g =
    if_ok g.enter_judged.result _ _ (λ truth is. item_judged g.args.desk.now.kept g.args.item truth g.enter_judged.new.desk.kept g.requires.spelled (follows g) is) g.enter_judged.ensures.judged

pub returns-clause-noted : goal.returns-clause-noted
returns-clause-noted g =
    judged_notes g.args.end g.args.place (record_bytes (Verb g.args.item)) g.item_text_from-from.result g.args.desk.now g.enter_judged.new.desk g.args.item g.enter_judged.result
    g.requires.place g.requires.long (λ text own. g.item_text_from-from.ensures.lies text g.requires.spelled (short g) own) g.stands.ensures.base g.stands.ensures.below g.stands.ensures.undone (follows g) g.enter_judged.ensures.judged g.enter_judged.ensures.noted

pub returns-clause-marked : goal.returns-clause-marked
returns-clause-marked g =
    judged_marks g.args.end g.args.place (record_bytes (Verb g.args.item)) g.args.desk.now g.enter_judged.new.desk g.args.item g.enter_judged.result (follows g) g.enter_judged.ensures.judged g.enter_judged.ensures.marks
