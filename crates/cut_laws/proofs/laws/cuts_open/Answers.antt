use Rattle.std.proofs.Common.{List, subst}
use Rattle.std.specs.List.{AllByRecursion}
use Rattle.verb_core.specs.declared.item.Item.{Item}
use Rattle.verb_bytes.specs.declared.journal.JournalRecord.TheVariants.{Kept as KeptRecord}
use Rattle.verb_bytes.specs.Spelling.{HasSpelling}
use Rattle.cut_laws.proofs.Cut.{texts_below}
use Rattle.cut_laws.proofs.Openings.{opens_as}
use Rattle.cut_laws.proofs.Spelled.{cut_spelled}
use Rattle.cut_laws.proofs.laws.cuts_open.Goals as goal

pub returns-clause-written : goal.returns-clause-written
returns-clause-written c = λ kept place parts are items framed. record {
  base = are.base_spelled;
  items = subst (λ (list : List Item). AllByRecursion (λ (i : Item). HasSpelling (KeptRecord i)) list) are.kept_are items;
  framed = framed;
}

pub returns-clause-spelled : goal.returns-clause-spelled
returns-clause-spelled c = λ records kept place is written.
    let can = c.journals_can_be_cut.ensures records kept is in
    cut_spelled kept place can
    (texts_below c.mail_is_kept.ensures (λ house conf boxes. (c.rows_make_valid_stores.ensures.valid house conf boxes).1) kept place (c.states_are_sound.ensures.sound records kept is) (c.states_are_sound.ensures.revs records kept is) can)
    written

pub returns-clause-opens : goal.returns-clause-opens
returns-clause-opens c = λ records kept place is written.
    opens_as kept place written c.cuts_are_journals.ensures.stands
    (c.cuts_of_journals_open.ensures records kept place is (returns-clause-spelled c records kept place is written))

pub returns-clause-whole : goal.returns-clause-whole
returns-clause-whole c = λ image kept place parts opens are items framed.
    returns-clause-opens c opens.records kept place opens.state_is (returns-clause-written c kept place parts are items framed)
